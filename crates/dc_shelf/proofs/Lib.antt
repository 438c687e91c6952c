pub mod AskLemmas
pub mod LoadLemmas
pub mod MarkLemmas
pub mod ShelfLemmas
