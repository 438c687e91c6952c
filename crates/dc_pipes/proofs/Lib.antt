pub mod StreamLemmas
