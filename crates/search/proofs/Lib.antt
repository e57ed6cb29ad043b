mod First
pub mod Disc
pub mod Stored
