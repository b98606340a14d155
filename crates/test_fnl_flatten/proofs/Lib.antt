mod Walking
mod Fine
mod Weights
mod WalkSteps
mod Passing
