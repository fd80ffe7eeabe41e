pub mod Places
pub mod Needed
pub mod Verdicts
pub mod Forms
