use Rattle.line_uses.proofs.recoveries.run_generation.Goals as goal

pub gather-requires-clause-generation : goal.gather-requires-clause-generation
gather-requires-clause-generation g c = c.in_ok-collector.ensures.generation c.requires.generation

pub gather-requires-clause-lines : goal.gather-requires-clause-lines
gather-requires-clause-lines g c = c.in_ok-collector.ensures.lines c.requires.lines
