pub mod Stacks
pub mod Named
pub mod Grouping
pub mod Making
pub mod Digits
pub mod Heights
