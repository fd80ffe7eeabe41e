-- Lemmas on bits and fields, which crates above cite too.
pub mod NumberLaws
pub mod FieldLaws
pub mod BitLaws
pub mod LowWords
mod Masks
mod Told
