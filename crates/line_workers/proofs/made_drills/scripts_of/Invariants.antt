use Rattle.std.proofs.Common.{◌≡◌, ℕ, map}
use Rattle.std.specs.List.{range_with_len}
use Rattle.line_workers.specs.Scripts.{scripts_of}
use Rattle.line_workers.specs.MadeDrills.{orders_of}
use Rattle.line_workers.proofs.made_drills.scripts_of.Given as goal

abbrev pub invariant-loop-p : goal.invariant-loop-p
invariant-loop-p l = scripts_of l.scripts.items
    ≡ map (λ (p : ℕ). orders_of l.workers p l.rounds) (range_with_len 0 l.p)
