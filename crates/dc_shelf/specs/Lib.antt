pub mod Asks
pub mod Shelves
