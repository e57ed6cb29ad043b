pub mod Handed
pub mod Counting
pub mod Entries
pub mod Laid
pub mod New
