mod Stepping
mod Ordering
mod Rated
mod Behaving
mod Stateful
mod RunAlike
mod EchoRow
mod IdleActor
