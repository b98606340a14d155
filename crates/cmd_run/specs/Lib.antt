pub mod Ends
pub mod Asked
pub mod Rounds
pub mod Steps
