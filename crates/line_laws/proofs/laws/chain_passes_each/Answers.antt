use Rattle.line_laws.proofs.EntryLemmas.{chain_once, chain_above}
use Rattle.line_laws.proofs.laws.chain_passes_each.Goals as goal

pub returns-clause-each : goal.returns-clause-each
returns-clause-each c = chain_once

pub returns-clause-only : goal.returns-clause-only
returns-clause-only c = chain_above
