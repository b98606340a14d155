mod Compiled
mod ImageIs
mod Imaged
