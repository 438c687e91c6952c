pub mod Copying
pub mod Listing
pub mod Showing
pub mod ToolExamples
