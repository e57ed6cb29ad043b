pub mod Cursor
pub mod Seen
mod Looking
mod Progress
pub mod Next
