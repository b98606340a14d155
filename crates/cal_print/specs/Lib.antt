pub mod Canon
pub mod Spelling
pub mod Tokens
pub mod Inputs
pub mod Writes
