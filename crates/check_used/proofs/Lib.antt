mod Sizes
mod Keys
mod Rounds
mod Collected
mod Found
