pub mod Naming
pub mod Using
