mod Written
mod UpTo
mod Marks
mod Sharing
