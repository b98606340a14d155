pub mod Chain
pub mod Feeds
pub mod NextWord
