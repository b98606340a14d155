pub mod Walk
pub mod View
pub mod Steps
pub mod Opening
pub mod Visited
pub mod InMemory
