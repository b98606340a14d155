mod Rows
mod StatementRows
mod ActorRows
mod KindRows
pub mod Stored
pub mod Choosing
pub mod ActorStates
mod StateRows
mod Turns
mod TurnsTaken
mod Loops
mod Needs
mod Parts
mod RangeRows
mod ExcludeRows
mod PriorityRows
mod FiringRows
mod StoringRows
mod CertifiedRows
mod EdgeRows
mod WideRows
mod TagRows
mod TagLaws
mod Agreement
pub mod Numbers
pub mod KindValues
mod KindOperators
mod KindTypes
pub mod KindNames
mod KindKept
mod KindOrder
mod KindCalls
pub mod KindLaws
mod KeptRows
mod LoneAction
pub mod KeptTypes
mod KeptByStatements
pub mod KeptByFirings
mod SoundRows
mod OneLine
mod Written
mod Ranks
pub mod PrefixSeen
mod LawfulActors
mod Procedures
