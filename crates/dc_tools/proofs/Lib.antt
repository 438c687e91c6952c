pub mod CopyLaws
pub mod CopyLemmas
pub mod ListLemmas
pub mod ShowLemmas
