pub mod Formed
pub mod Alike
pub mod Leaves
pub mod Laws
pub mod Equal
pub mod Finding
pub mod Steps
