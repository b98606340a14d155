pub mod Actor
pub mod Facts
pub mod Meaning
pub mod Candidates
pub mod Laws
pub mod Straight
