pub mod Queues
pub mod Core
pub mod Acting
pub mod View
