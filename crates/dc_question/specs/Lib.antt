pub mod Asked
pub mod Changes
pub mod KindsLeft
pub mod Losses
pub mod Ownership
pub mod Preseeding
pub mod Questions
pub mod Readings
