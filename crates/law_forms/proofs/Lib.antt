pub mod Like
pub mod Ones
pub mod SeenNames
pub mod WrittenOut
pub mod SeenTypes
pub mod Made
pub mod ItemsAre
pub mod Sorts
pub mod Within
pub mod Parts
pub mod Whole
pub mod Calls
mod Rows
