pub mod Standing
pub mod NoneLeft
