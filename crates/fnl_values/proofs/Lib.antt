mod Constants
mod Starts
pub mod Faults
mod Known
mod Parts
