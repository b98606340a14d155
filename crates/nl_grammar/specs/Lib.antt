pub mod Headings
pub mod Spells
pub mod Laws
pub mod Rules
