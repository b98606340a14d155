pub mod Heads
pub mod Judging
