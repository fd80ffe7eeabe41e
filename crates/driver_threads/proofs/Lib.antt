pub mod Whole
pub mod Choosing
pub mod Going
pub mod Allowing
pub mod Newcomers
pub mod Finishing
pub mod Closing
pub mod Starting
