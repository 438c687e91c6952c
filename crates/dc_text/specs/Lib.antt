pub mod Ascii
pub mod Bytes
pub mod Faults
pub mod Lines
pub mod Maps
pub mod Names
pub mod Settled
pub mod Texts
