mod Choices
pub mod Eligibility
