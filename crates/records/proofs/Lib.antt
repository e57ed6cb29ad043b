pub mod Sealed
mod Created
