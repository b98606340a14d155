pub mod Lowerable
pub mod NoneLeft
