-- The place of a choice is within the tape.
use Rattle.std.proofs.Common.{◌≡◌, length, List, ap, ◌∙◌, arith}
use Rattle.line_tape.specs.declared.events.Event.{Event}
use Rattle.line_tape.specs.Views.{TapeView}
use Rattle.line_tape.proofs.FrontLemmas.{place_le}
use Rattle.line_tape.proofs.tapes.Tape.front.Goals as goal

pub first-requires : goal.first-requires
first-requires c =
    let seen : c.events.result ≡ c.args.self.now.events = c.events.ensures ∙ ap
    (λ (t : TapeView). t.events) c.self.view_is in
    omega (
      arith,
      ap (λ (xs : List Event). length xs) seen,
      c.row-place.ensures.place,
      place_le
          c.args.self.now.events c.args.choice,
    )
