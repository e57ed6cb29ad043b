mod Sectors
mod Stages
mod Whole
