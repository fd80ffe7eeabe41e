pub mod Kept
pub mod Rounded
pub mod Given
pub mod Divisors
pub mod Settings
pub mod Chains
pub mod Outcomes
pub mod Walks
