pub mod DatabaseReading
pub mod DatabaseWords
pub mod RunReading
pub mod SelectionWords
pub mod Tools
