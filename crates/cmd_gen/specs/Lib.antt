pub mod Jobs
pub mod Ends
pub mod Asked
pub mod Making
pub mod Steps
