pub mod Entries
pub mod Keys
pub mod Packed
pub mod PartMap
pub mod Places
pub mod Usual
pub mod Writing
