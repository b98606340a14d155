pub mod Tables
pub mod Steps
pub mod Carrying
pub mod Laws
