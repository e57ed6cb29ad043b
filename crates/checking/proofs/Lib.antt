mod Outside
pub mod Firsts
mod Forms
mod Scopes
mod Looked
pub mod Whole
pub mod Disc
