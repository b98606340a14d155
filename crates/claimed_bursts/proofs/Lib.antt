mod Drawing
mod Arriving
mod Closing
mod Making
