pub mod CallLemmas
pub mod Courses
pub mod Determined
pub mod EndCounts
pub mod Kept
pub mod Progress
pub mod Serve
pub mod Talks
