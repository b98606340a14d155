mod Numbers
mod Numerals
mod Words
mod Answering
mod Deciding
mod Made
