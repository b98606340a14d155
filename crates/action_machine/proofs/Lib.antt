pub mod Tops
pub mod Arms
pub mod Zeros
pub mod Room
pub mod Ready
pub mod CellRanges
