pub mod Entries
pub mod Known
pub mod Turns
pub mod Steps
pub mod Sits
pub mod Closing
pub mod Names
