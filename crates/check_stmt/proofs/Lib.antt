pub mod Judged
pub mod Checked
pub mod Said
pub mod Walks
pub mod StmtWeights
mod FirstPlaces
