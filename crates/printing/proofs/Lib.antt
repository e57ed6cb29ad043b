mod InPlace
pub mod Fits
