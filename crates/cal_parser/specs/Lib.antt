pub mod ImportPath
pub mod Answers
pub mod Stretch
pub mod Alone
