mod Turns
mod Whole
