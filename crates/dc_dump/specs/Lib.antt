pub mod AnswerLines
pub mod Reading
pub mod Saying
pub mod SetAgain
