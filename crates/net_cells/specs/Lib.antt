pub mod Rooms
pub mod Tables
pub mod Cells
pub mod Runnable
pub mod LinesAlike
pub mod RunAlike
pub mod Sources
pub mod SourceRuns
