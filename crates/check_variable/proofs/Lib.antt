mod Faults
mod Starts
mod Settling
mod Firsts
mod Adding
mod Alone
mod Headers
mod NamePlaces
