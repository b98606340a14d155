pub mod Library
pub mod Scopes
pub mod Values
pub mod Networks
pub mod Trees
pub mod Answers
pub mod Sound
pub mod View
