pub mod Formatting
pub mod Reports
