pub mod Net
pub mod Frames
pub mod Allowed
pub mod Attaching
pub mod Views
pub mod Answers
