mod Stacks
mod Parts
mod Leaves
mod Circles
mod Opening
mod Opened
mod Visiting
mod Ending
