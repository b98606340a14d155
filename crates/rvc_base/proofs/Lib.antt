mod LowBits
mod Shifts
