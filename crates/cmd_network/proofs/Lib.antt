pub mod Words
pub mod Refused
pub mod Putting
