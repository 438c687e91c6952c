pub mod AgainLemmas
pub mod MadeLemmas
pub mod ReadLemmas
pub mod RowLemmas
pub mod SayLemmas
pub mod SetLemmas
