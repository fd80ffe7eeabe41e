pub mod Rows
pub mod Clocks
pub mod Script
pub mod Measured
