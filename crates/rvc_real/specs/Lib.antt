pub mod Counting
pub mod Folder
pub mod Open
pub mod SameFile
