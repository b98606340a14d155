pub mod Determinacy
pub mod Certifying
pub mod Viewing
pub mod Deciding
pub mod Failing
pub mod Judging
