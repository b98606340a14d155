pub mod Tree
pub mod Apart
pub mod View
pub mod Places
