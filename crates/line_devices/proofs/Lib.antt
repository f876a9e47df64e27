pub mod OutputLemmas
pub mod PutLemmas
