pub mod Top
pub mod Checked
pub mod Refused
pub mod Laws
pub mod Steps
pub mod LoneNet
