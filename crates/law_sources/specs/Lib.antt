pub mod Names
pub mod Formed
pub mod Scoped
