pub mod Scoping
pub mod Evaluable
pub mod Shaping
