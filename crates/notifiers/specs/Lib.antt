pub mod Chains
pub mod FaultTexts
