mod LikeRounds
mod Turned
pub mod Lawlike
pub mod RunsToo
mod Filling
mod Celled
mod Asked
pub mod Readied
mod Runnably
pub mod LikeSources
pub mod SourceLaws
mod PortTypes
mod Answered
