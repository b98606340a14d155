pub mod Judging
pub mod Parts
pub mod Asking
pub mod Targets
