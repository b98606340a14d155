pub mod Texts
pub mod Command
pub mod Causes
pub mod Limits
pub mod Forms
pub mod Words
pub mod Given
