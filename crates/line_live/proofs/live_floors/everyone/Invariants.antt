use Rattle.std.proofs.Common.{◌≡◌, ◌<◌, ℕ, true}
use Rattle.line_names.specs.Sets.{is_member}
use Rattle.line_live.proofs.live_floors.everyone.Given as goal

abbrev pub invariant-loop-q : goal.invariant-loop-q
invariant-loop-q l = (v : ℕ) → v < l.q → is_member l.all v ≡ true
