-- The definitions that the contracts of this crate, and of those above, cite.
pub mod Registers
pub mod Locks
pub mod Memory
pub mod Examples
