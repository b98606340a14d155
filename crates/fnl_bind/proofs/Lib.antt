mod Rows
pub mod Once
pub mod Counted
pub mod InOrder
pub mod Told
mod Conforming
pub mod Found
