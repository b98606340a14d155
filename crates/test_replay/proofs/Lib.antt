mod Opened
mod Ready
