-- Lemmas on the formulas, which crates above cite too.
pub mod Chosen
pub mod Ranges
pub mod Quotients
pub mod DivisorLaws
pub mod Picked
pub mod ClosestLaws
pub mod NearestFields
pub mod TableLaws
pub mod MultiplierLaws
