pub mod Joiner
pub mod Joining
pub mod Lines
pub mod Over
pub mod Selecting
pub mod SelectionExamples
pub mod Selections
