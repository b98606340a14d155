mod Constants
mod Starts
mod Missing
