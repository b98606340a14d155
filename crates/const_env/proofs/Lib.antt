pub mod Lists
pub mod Tested
pub mod Found
pub mod Capped
pub mod Named
pub mod Setting
mod Backwards
mod Leading
mod FunPlaces
