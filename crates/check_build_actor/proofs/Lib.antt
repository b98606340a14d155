mod Faults
mod OrderSteps
mod WholeSteps
mod SameHeads
pub mod PastLacks
