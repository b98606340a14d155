pub mod Counts
pub mod WordTokens
pub mod WordsLeft
pub mod NamedMembers
pub mod Walked
pub mod Declarations
pub mod Kept
pub mod Gathered
mod OwnNames
pub mod Scopes
pub mod Loaded
mod Rows
pub mod FormJudgements
mod Shaped
mod Meant
mod FormExpressions
mod Variables
mod FormStatements
mod FormMembers
mod Walks
mod Nodes
mod FormSeen
mod Bodies
mod FormScopes
mod Calls
mod Ranks
mod Routines
pub mod Parts
pub mod Ends
mod FormRows
pub mod ScopeJudgements
pub mod Inside
pub mod Hiding
pub mod Called
pub mod ScopeExpressions
pub mod ScopeStatements
pub mod ScopeMembers
pub mod ScopeSeen
pub mod ScopeScopes
mod ScopeRows
