pub mod Folders
pub mod PatternExamples
pub mod Patterns
pub mod PrefixTexts
pub mod Rules
pub mod State
