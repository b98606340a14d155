pub mod Moved
pub mod Equal
mod Sizes
mod Ended
mod Lists
mod Numbers
mod Chain
mod LikeLeaves
pub mod Growing
mod Scopes
mod Held
mod NetLeaves
mod HeadsTold
