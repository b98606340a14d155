pub mod Examples
pub mod Sorts
pub mod Counting
pub mod Doubling
