pub mod Told
pub mod Sized
pub mod Spelling
pub mod Words
pub mod ReadNumbers
pub mod ReadCalls
pub mod ReadSteps
pub mod ReadEntries
