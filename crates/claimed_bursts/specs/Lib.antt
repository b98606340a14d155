pub mod Tasks
pub mod Crews
