pub mod Counting
pub mod Folders
pub mod Known
pub mod Locks
