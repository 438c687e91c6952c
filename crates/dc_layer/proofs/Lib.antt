pub mod FolderLemmas
mod PartLemmas
pub mod PatternLemmas
pub mod PrefixLemmas
pub mod RuleLemmas
pub mod TouchedLemmas
