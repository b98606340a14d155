pub mod Texts
pub mod Loops
pub mod Forms
pub mod Pieces
pub mod Present
pub mod Between
pub mod StmtForms
