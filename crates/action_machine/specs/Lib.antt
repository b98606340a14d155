pub mod Stacks
pub mod Acting
pub mod Kept
pub mod Offset
pub mod Machine
