mod Judged
mod Walks
mod Found
