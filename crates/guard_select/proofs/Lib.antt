pub mod Takes
pub mod Says
pub mod Lines
