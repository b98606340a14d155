pub mod Automaton
pub mod Leads
pub mod Fault
pub mod Free
