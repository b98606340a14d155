pub mod ListSteps
mod Climbing
mod Nesting
mod Going
mod Chains
mod Primaries
mod Exits
mod Pushed
