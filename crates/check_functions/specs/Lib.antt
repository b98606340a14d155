pub mod Known
pub mod Calls
pub mod Needs
pub mod Order
pub mod Left
pub mod Said
pub mod Alike
pub mod Growing
