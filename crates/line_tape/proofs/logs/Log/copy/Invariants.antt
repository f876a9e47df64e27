use Rattle.std.proofs.Common.{◌≡◌, length, take, vec_capacity}
use Rattle.line_tape.proofs.logs.Log.copy.Given as goal

abbrev pub invariant-loop-state : goal.invariant-loop-state
invariant-loop-state l = record {
  copied : l.states.items ≡ take l.state-index l.self-inside.states.items;
  room : vec_capacity l.states ≡ length l.self-inside.states.items;
}
