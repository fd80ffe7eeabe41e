pub mod LinkLaws
pub mod BesideLaws
pub mod WaitingLaws
pub mod AdoptionLaws
