pub mod EntryLemmas
pub mod FolderLemmas
pub mod KnownLemmas
pub mod LockLemmas
pub mod OrderLemmas
pub mod ReadingLemmas
