pub mod FewRounds
pub mod FewGrowths
pub mod AllGrowths
