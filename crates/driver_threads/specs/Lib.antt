pub mod Going
pub mod Workers
pub mod Runs
