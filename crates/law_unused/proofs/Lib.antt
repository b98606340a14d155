pub mod Alike
pub mod Narrowed
pub mod Statements
pub mod Routines
pub mod Firings
pub mod Sources
mod Conforming
mod HeldConstants
mod WrittenActor
mod AsWritten
mod Rows
