mod Opened
mod Named
mod Judged
mod Sourced
mod Answering
pub mod ByName
