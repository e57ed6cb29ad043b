pub mod Bound
mod Xor
mod Linear
mod Run
mod Words
mod Lookup
mod Fill
mod Joined
