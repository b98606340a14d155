pub mod Fractions
pub mod Parts
pub mod Outcomes
