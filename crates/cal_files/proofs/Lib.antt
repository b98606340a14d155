mod Cuts
mod Texts
mod Stops
mod Reading
mod One
mod Ends
mod Actors
mod Reached
