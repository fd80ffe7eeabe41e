pub mod Opening
pub mod Lawful
pub mod Tiers
pub mod Calls
pub mod Planning
