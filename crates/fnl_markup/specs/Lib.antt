pub mod Bytes
pub mod Entities
pub mod Tags
pub mod State
pub mod Step
pub mod Markup
pub mod Stepped
