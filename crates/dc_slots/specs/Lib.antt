pub mod Chains
pub mod Links
pub mod Numbered
pub mod Slots
pub mod Threads
pub mod Parts
