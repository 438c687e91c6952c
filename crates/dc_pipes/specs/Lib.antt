pub mod Programs
pub mod Streams
