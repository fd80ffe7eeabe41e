pub mod Sums
pub mod Counted
pub mod CountsKept
pub mod Standing
