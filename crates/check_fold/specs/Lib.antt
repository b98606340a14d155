pub mod Seeing
pub mod Writing
