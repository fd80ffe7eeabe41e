pub mod Reasons
pub mod Source
pub mod Said
pub mod Verdict
