pub mod JoinLemmas
pub mod LineLemmas
pub mod PartLemmas
pub mod SelectingLaws
pub mod SelectionLemmas
pub mod SelectLemmas
