pub mod QuietRuns
