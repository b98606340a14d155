pub mod Places
pub mod Chains
pub mod Wired
pub mod OneWriter
pub mod Walks
pub mod OneList
pub mod Lookups
pub mod EnteredUpTo
pub mod TopEnds
pub mod Walking
pub mod Linking
pub mod Joined
pub mod Copies
pub mod FlatAnswers
mod Rows
