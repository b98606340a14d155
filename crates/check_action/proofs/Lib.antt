mod Judged
mod Each
mod Walks
pub mod Said
