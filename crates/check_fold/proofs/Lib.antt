pub mod Onto
mod Sizes
mod GenSteps
pub mod VarSteps
