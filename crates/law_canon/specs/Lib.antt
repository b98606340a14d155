pub mod Printable
pub mod ReadBack
