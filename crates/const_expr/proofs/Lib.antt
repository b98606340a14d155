mod Entries
pub mod Weights
mod Going
mod Typed
mod Calling
mod Ranging
mod Gens
mod EachNumber
pub mod Asked
mod Rights
mod Expressions
mod Judged
mod Steps
mod GenSteps
