pub mod FileLemmas
pub mod FeedLemmas
pub mod DrainLemmas
pub mod Changes
mod Walks
