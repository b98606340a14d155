pub mod Actors
pub mod Lone
pub mod Source
pub mod Files
pub mod Laws
pub mod Library
pub mod Answers
