pub mod ByteLemmas
pub mod Pulled
pub mod Given
