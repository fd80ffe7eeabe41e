pub mod Headers
pub mod Said
pub mod Sections
pub mod Verdict
pub mod Reads
