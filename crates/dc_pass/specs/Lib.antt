pub mod Hearing
pub mod Machine
pub mod Passing
pub mod Reading
pub mod Wire
pub mod WireExamples
