pub mod Pieces
pub mod Steps
mod Turns
mod Pass
