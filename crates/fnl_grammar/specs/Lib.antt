pub mod Rows
pub mod Productions
pub mod Markup
pub mod Laws
pub mod MarkupLaws
