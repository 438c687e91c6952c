pub mod Commands
pub mod Numbers
pub mod Priorities
pub mod Replies
