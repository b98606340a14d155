mod Rows
mod Fine
mod PlainTrees
mod KeptKinds
mod SoundLocals
mod SoundStatements
mod SoundGuards
mod Distinct
mod SoundPorts
mod SameNames
mod SameParts
pub mod SoundActions
mod SoundHeader
mod SoundRoutines
pub mod Lists
pub mod SeenStates
pub mod Departs
pub mod SoundSchedules
mod SoundCounts
mod SoundRates
pub mod SoundVariables
pub mod FittingValues
mod FittingNames
pub mod RestNames
pub mod SameCalls
mod SameFuns
pub mod WrittenUses
mod CallsBelow
pub mod SettledFuns
pub mod UsedNames
mod HiddenCalls
mod CallsKnown
pub mod NoneBroken
mod SubLists
pub mod JudgedRoutines
mod ScopedActions
mod RankedFuns
mod SameOrder
pub mod SourceNames
pub mod SoundSource
mod ValuesKept
mod StatementsKept
mod MeaningKept
mod FunctionsKept
mod ProceduresKept
pub mod ActionsKept
mod SourceFunctions
mod UntypedFuns
