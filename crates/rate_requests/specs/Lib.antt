pub mod Handles
pub mod Records
pub mod Spans
pub mod Kept
