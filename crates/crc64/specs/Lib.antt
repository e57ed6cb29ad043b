pub mod Crc
pub mod Internal
