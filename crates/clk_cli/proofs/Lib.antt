-- The text of the program is the text of the definition, and what `clap`'s promises say of the command line.
pub mod UsageText
pub mod Matches
