pub mod FrontLemmas
pub mod MarkLemmas
pub mod PlaceLemmas
pub mod SortedEntries
pub mod TableLemmas
pub mod TouchedLemmas
pub mod WriteLemmas
