pub mod Running
pub mod Choosing
pub mod Lawful
pub mod Rows
pub mod Apart
pub mod Loops
pub mod StraightRuns
pub mod StraightFacts
