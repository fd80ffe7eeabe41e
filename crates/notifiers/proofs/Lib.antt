pub mod Chained
pub mod Kept
