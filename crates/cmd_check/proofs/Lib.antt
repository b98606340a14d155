mod Ending
mod Answering
