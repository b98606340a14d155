pub mod Balance
pub mod Fault
pub mod Fraction
pub mod Laws
pub mod Split
