pub mod Cells
pub mod Chains
pub mod Widening
pub mod ClosedTables
pub mod Rings
pub mod Lines
pub mod StrictTables
