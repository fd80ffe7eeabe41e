pub mod Turned
pub mod Ones
pub mod Alike
