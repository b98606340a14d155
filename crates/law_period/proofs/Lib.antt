mod Multiples
mod Cycles
mod Blocked
mod Deliveries
mod Progress
mod OneTurn
pub mod WholePeriod
mod Worked
