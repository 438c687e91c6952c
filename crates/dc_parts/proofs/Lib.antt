pub mod FingerLemmas
pub mod ManyLemmas
pub mod NumberLemmas
pub mod PackedLemmas
pub mod PlaceLemmas
