mod Runs
mod Names
mod Stuck
mod Fronts
mod Grows
mod Before
