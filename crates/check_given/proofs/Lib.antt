mod Wrongly
mod Places
