pub mod Board
pub mod Fault
pub mod Laws
pub mod Turns
