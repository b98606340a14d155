pub mod Ranking
pub mod Cycle
pub mod Closed
