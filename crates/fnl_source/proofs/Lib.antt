mod One
pub mod Choices
pub mod OneLibrary
pub mod Rows
pub mod ActorFiles
mod Heads
mod LoneTrees
mod Answered
