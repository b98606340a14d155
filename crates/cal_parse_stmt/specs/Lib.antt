pub mod Separator
pub mod SoFar
pub mod Pieces
