pub mod Cycles
pub mod Laws
pub mod Runs
pub mod Static
