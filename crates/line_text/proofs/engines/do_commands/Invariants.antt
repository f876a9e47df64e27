use Rattle.std.proofs.Common.{◌≡◌, ◌≤◌, drop, length}
use Rattle.line_text.specs.Runs.{IsRunTo}
use Rattle.line_text.proofs.engines.do_commands.Given as goal

abbrev pub invariant-commands : goal.invariant-commands
invariant-commands g l = record {
  run : IsRunTo l.fn.world l.fn.commands l.done l.world l.refused (g.K.Sink.taken l.fn.sink)
      (g.K.Sink.taken l.sink) l.writer;
  left : l.commands ≡ drop l.done l.fn.commands;
  within : l.done ≤ length l.fn.commands;
  sound : g.K.Sink.faults l.sink ≡ g.K.Sink.faults l.fn.sink;
}

abbrev pub decreases-commands : goal.decreases-commands
decreases-commands g l = length l.commands
