pub mod Causes
pub mod Steady
pub mod Judging
pub mod Visiting
pub mod Evaluated
pub mod InMemory
