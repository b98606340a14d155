mod Asking
mod Matching
mod Numerals
mod Rows
