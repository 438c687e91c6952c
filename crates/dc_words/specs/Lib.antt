pub mod Choices
pub mod Escaped
pub mod Stream
pub mod Words
