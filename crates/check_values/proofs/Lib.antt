mod Lists
mod Sizes
pub mod Kept
mod Last
mod PlaceSizes
