pub mod Recorded
pub mod Spanned
pub mod KeptLaws
