pub mod Arming
pub mod Texts
pub mod Runs
pub mod Cores
pub mod Refusals
pub mod Outcomes
