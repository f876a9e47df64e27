use Rattle.line_laws.proofs.ChainLemmas.{latest_from_chain}
use Rattle.line_laws.proofs.laws.chain_makes_latest.Goals as goal

pub returns : goal.returns
returns c = latest_from_chain
