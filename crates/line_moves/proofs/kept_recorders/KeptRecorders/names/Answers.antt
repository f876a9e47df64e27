-- Nothing was recorded by a process whose bit is not set.
use Rattle.std.proofs.Common.{◌≡◌, ℕ, ◌%◌, List, sym, ap, ◌∙◌, rules}
use Rattle.std.specs.Int.{bit_at}
use Rattle.std.proofs.lemmas.Nat.Bits.{shr_and_one}
use Rattle.line_rounds.specs.Recording.{MarkerView}
use Rattle.line_moves.specs.Openings.{kept_channel}
use Rattle.line_moves.proofs.KeptMarkers.{none_recorded, told}
use Rattle.line_moves.proofs.kept_recorders.KeptRecorders.names.Goals as goal

pub returns-then-self-get-eq0 : goal.returns-then-self-get-eq0
returns-then-self-get-eq0 c =
    let bits : ℕ = c.self.inside.receivers in
    let to : ℕ = c.get.result in
    let absent : bit_at bits (c.args.to % 64) ≡ 0 =
    sym (ap (λ (q : ℕ). bit_at bits (q % 64)) c.get.ensures.value)
    ∙ sym (shr_and_one bits (to % 64)) ∙ search rules in
    sym (ap (told c.args.round c.args.from c.args.to)
    (none_recorded bits c.self.inside.markers.items c.args.to c.self.invariant absent))
    ∙ ap (λ (ms : List MarkerView). kept_channel ms c.args.round c.args.from c.args.to)
    c.self.view_is
