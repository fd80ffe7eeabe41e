pub mod Counts
pub mod Streams
pub mod Prints
pub mod Gathers
pub mod Memory
pub mod FaultTexts
