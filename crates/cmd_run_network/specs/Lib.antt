pub mod Network
pub mod Files
pub mod Leaving
pub mod Answering
pub mod Preparing
pub mod Arriving
pub mod Growth
pub mod Names
