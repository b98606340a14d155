pub mod Choosing
pub mod Sending
pub mod Writing
pub mod Firings
pub mod Bursting
pub mod Running
pub mod Pulling
pub mod Rounds
