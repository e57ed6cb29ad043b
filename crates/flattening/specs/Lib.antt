pub mod Flattens
