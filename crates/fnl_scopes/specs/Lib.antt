pub mod Tested
pub mod Behind
pub mod View
