pub mod Room
pub mod Sources
pub mod Verdicts
pub mod Counts
pub mod Within
pub mod Decided
