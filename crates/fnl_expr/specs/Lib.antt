pub mod Stack
pub mod Given
pub mod Literals
pub mod Operators
pub mod Operations
pub mod Views
pub mod Answers
