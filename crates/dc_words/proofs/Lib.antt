pub mod ChoiceLemmas
pub mod EscapedLemmas
pub mod StreamLemmas
pub mod WordLemmas
