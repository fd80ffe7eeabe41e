pub mod Finding
pub mod Joining
pub mod Pairing
pub mod Lasting
