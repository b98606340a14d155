pub mod Coming
pub mod Answer
