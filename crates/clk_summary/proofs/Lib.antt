pub mod Places
pub mod Printing
pub mod Trees
pub mod Lined
pub mod Stays
