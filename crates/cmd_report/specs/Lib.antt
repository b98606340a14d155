pub mod Status
pub mod About
pub mod Line
pub mod Report
pub mod Puts
pub mod Steps
pub mod WordText
