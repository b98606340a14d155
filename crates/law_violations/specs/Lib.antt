pub mod Numbers
pub mod Missing
pub mod Values
