pub mod Sectors
pub mod Written
pub mod ParentRefusal
