pub mod Cursor
pub mod Leading
pub mod Pairs
pub mod Tells
