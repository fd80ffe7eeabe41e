pub mod Changes
pub mod Tellings
pub mod Steps
pub mod Weights
pub mod Given
