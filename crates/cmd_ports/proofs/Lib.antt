pub mod Fitting
pub mod FeedSteps
pub mod ChannelSteps
pub mod NotedSteps
