pub mod Accepted
pub mod Entries
mod Wraps
