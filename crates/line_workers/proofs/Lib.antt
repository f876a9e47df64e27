mod RunLemmas
mod ScriptLemmas
mod DrillLemmas
mod FaultLemmas
mod CrossingLemmas
mod MarkerLemmas
mod WaitLemmas
mod GateLemmas
