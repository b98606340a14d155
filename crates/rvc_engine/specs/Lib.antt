pub mod Built
pub mod Answering
pub mod Compiling
pub mod Images
