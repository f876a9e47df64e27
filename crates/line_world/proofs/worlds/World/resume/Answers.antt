-- The links are those of the history, and no round is open.
use Rattle.line_world.proofs.ResumeLemmas.{present_rounds}
use Rattle.line_world.proofs.worlds.World.resume.Goals as goal

pub invariant_of-result : goal.invariant_of-result
invariant_of-result c = (
  c.in_ok-links.ensures,
  present_rounds c.args.catalogue.processes c.args.last_round c.args.rounds.items c.requires.idle
      c.requires.snapshots c.requires.numbered,
  tt,
)
