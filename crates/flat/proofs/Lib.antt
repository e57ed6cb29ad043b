mod Sectors
mod Whole
