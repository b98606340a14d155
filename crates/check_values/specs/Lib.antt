pub mod Stored
pub mod Inside
