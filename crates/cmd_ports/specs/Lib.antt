pub mod Matching
pub mod Opening
pub mod Steps
