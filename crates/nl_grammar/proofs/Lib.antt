pub mod Called
pub mod Meets
pub mod Sound
pub mod Reading
pub mod Complete
pub mod Whole
