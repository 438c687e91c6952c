pub mod Commands
pub mod Drilling
pub mod Inside
pub mod Replies
pub mod Report
