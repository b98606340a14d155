pub mod Generated
pub mod Jobs
pub mod Status
pub mod Steps
