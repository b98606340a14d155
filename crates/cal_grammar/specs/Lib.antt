pub mod Token
pub mod Operators
pub mod Spells
pub mod Rules
pub mod Refusals
pub mod Program
pub mod Reading
