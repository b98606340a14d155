mod Values
mod Paths
mod Placed
mod Apart
