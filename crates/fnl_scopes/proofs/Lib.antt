mod Steps
mod Sizes
mod Repeats
mod Keys
mod Gens
