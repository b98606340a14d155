mod Bared
mod Ended
mod Judged
mod Going
