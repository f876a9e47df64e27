mod BehindLemmas
pub mod AgainLemmas
pub mod FailedLemmas
pub mod FaultLemmas
pub mod BlockLemmas
pub mod KeepingLemmas
pub mod LaterLemmas
pub mod NameLemmas
pub mod PieceLemmas
pub mod ReadLemmas
pub mod RunScriptLemmas
pub mod SavedFaultLemmas
pub mod ScriptPlaceLemmas
