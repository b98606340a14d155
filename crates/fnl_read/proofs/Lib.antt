pub mod Running
mod Stuck
mod Begins
mod Operator
mod Rows
