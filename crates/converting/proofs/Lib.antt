mod Fills
mod Calls
