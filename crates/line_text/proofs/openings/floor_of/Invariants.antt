use Rattle.std.proofs.Common.{◌≡◌, ℕ, map, take}
use Rattle.line_text.proofs.openings.floor_of.Given as goal

abbrev pub invariant-each : goal.invariant-each
invariant-each l = record {
  checks : (l.checks.items ≡ map (λ (one : ℕ × ℕ). one.0) (take l.i l.floors));
  sends : (l.sends.items ≡ map (λ (one : ℕ × ℕ). one.1) (take l.i l.floors));
}
