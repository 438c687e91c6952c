pub mod Frontends
pub mod Settling
pub mod Showing
