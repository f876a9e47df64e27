pub mod SetLemmas
pub mod NameLemmas
pub mod BitLemmas
