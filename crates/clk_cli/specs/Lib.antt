-- What the words of the command line mean, and the line that answers words that mean nothing.
pub mod Usage
pub mod CommandLine
pub mod Meaning
