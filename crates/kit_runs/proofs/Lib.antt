mod Ordered
mod Roomy
mod Picked
pub mod Opened
mod Celled
mod Whole
mod Started
