mod Pieces
mod Short
mod Fits
