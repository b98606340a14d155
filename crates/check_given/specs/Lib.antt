pub mod Causes
pub mod Given
pub mod Judging
pub mod Placing
