pub mod Rows
mod Coding
pub mod Growth
pub mod Bounds
pub mod Lines
mod Premises
mod Ending
pub mod Commuting
pub mod Arriving
mod Bare
mod Trapping
pub mod Twins
pub mod LikeLines
pub mod LikePacing
mod LikeLaws
mod MoreRows
mod CountRows
pub mod PacedRows
mod GrowsOnceRows
mod GrowsTwiceRows
mod BudgetRows
pub mod Rounds
mod Budgets
pub mod Keeping
pub mod KeepingRounds
pub mod KeepingRuns
pub mod Bursts
pub mod TableActor
