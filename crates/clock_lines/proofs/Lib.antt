pub mod Borrowed
pub mod Grown
pub mod Looked
pub mod Fine
pub mod Turns
pub mod Indices
pub mod Whole
pub mod Verdicts
