pub mod AlikeLemmas
pub mod CountLemmas
pub mod FirstLemmas
pub mod HeedLemmas
pub mod ServedLemmas
