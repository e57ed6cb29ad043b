pub mod Stores
pub mod Turns
