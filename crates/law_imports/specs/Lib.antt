pub mod Leading
pub mod Calling
pub mod Refusing
