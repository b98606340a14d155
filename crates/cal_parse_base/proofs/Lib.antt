pub mod Taking
pub mod Tests
