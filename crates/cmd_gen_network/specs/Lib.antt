pub mod Feed
pub mod Texts
pub mod Objects
