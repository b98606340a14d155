mod Stopping
mod Nodes
mod CalledIn
mod ByNames
mod Reasons
