pub mod KeptBeside
