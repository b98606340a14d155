pub mod Replays
pub mod Ends
pub mod Asked
pub mod Naming
pub mod Steps
