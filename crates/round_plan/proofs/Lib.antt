pub mod Sequence
pub mod Together
