-- The formulas of the kinds, which the contracts of this crate and the definitions of those above cite.
pub mod Rates
pub mod Choices
pub mod Closest
pub mod Dividers
pub mod Tables
pub mod Plls
pub mod Examples
