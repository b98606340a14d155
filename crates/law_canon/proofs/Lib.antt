pub mod Blanks
pub mod Digits
pub mod Lexing
pub mod Lexed
pub mod Printables
pub mod Again
pub mod Samples
pub mod Phrases
pub mod RespelledExpressions
mod RespelledStatements
mod RespelledMembers
mod RespelledFiles
pub mod Said
pub mod Operands
pub mod Respelled
pub mod Placeless
mod ReadAgain
