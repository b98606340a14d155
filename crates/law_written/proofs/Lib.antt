mod Events
mod NameBytes
mod FileNames
mod ScopeNames
mod NetworkNames
mod BoundNames
mod Whole
