pub mod FaultLemmas
pub mod FirstLemmas
pub mod LineLaws
pub mod LineLemmas
pub mod MapLemmas
pub mod SettledLemmas
pub mod TextLines
