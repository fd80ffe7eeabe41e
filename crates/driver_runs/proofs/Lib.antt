pub mod WholeCalls
pub mod Going
mod GoneOn
pub mod Following
mod Passing
mod Entered
mod Making
mod Sides
mod Coursing
mod Ended
