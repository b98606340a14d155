mod Sorted
mod SoundExamples
pub mod SoundCount
pub mod SoundDouble
