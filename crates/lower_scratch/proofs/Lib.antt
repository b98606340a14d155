pub mod Alike
pub mod Facts
pub mod Looping
pub mod Spans
pub mod Clearing
pub mod BodyEnds
pub mod Whole
