pub mod Judged
mod Found
pub mod Loops
mod Weights
mod StmtWeights
mod Each
mod EachOf
mod Rows
