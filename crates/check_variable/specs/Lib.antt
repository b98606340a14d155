pub mod Causes
pub mod Views
pub mod Faults
pub mod Valuing
pub mod Finding
