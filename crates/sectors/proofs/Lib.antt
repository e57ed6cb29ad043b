mod Indexed
pub mod Known
mod Places
