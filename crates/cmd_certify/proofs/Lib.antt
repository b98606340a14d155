mod Leaves
mod Deciding
mod Ending
mod OneActors
mod Answering
