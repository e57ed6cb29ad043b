pub mod Overwrite
pub mod Steps
pub mod Numbers
pub mod Holds
pub mod Records
pub mod Equal
pub mod Compare
pub mod Signs
