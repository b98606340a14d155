pub mod Commands
pub mod Answers
pub mod Steps
pub mod Conforming
