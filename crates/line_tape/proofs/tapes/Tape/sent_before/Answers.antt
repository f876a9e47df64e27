-- The sends before a choice are the first ones of the tape, whose incarnations are kept.
use Rattle.std.proofs.Common.{◌≡◌, ◌≤◌, length, ap, get_or, List, Some, arith, sym, ◌∙◌}
use Rattle.std.proofs.lemmas.Bool.{ltb-true, eqb-true, eq-eqb, lt-ltb}
use Rattle.std.proofs.lemmas.Option.{same_Some, slice_get_within}
use Rattle.std.proofs.lemmas.List.{length-take}
use Rattle.line_tape.specs.declared.events.Event.{Event}
use Rattle.line_tape.specs.Views.{TapeView}
use Rattle.line_tape.specs.Event.{incarnations_sent, sends, Holds}
use Rattle.line_tape.specs.Front.{front, place}
use Rattle.line_tape.proofs.RowLemmas.{sent_at, sent_front}
use Rattle.line_tape.proofs.tapes.Tape.sent_before.Goals as goal

pub index-requires : goal.index-requires
index-requires c =
    let tape : List Event = c.args.self.now.events in
    let seen : c.self.inside.log.events ≡ tape = ap (λ (t : TapeView). t.events) c.self.view_is in
    let few : sends (front tape c.args.choice) ≤ sends tape = omega (
      arith,
      ap length (sent_front tape (place tape c.args.choice)),
      length-take
          (sends (front tape c.args.choice)) (incarnations_sent tape),
    ) in
    omega (
      arith,
      ap length c.self.invariant.checked.sent,
      ap
          (λ (xs : List Event). sends xs) seen,
      c.self.inside.incarnations.ok.0,
    )

pub returns-then-number-sends_before : goal.returns-then-number-sends_before
returns-then-number-sends_before c =
    let tape : List Event = c.args.self.now.events in
    let seen : c.self.inside.log.events ≡ tape = ap (λ (t : TapeView). t.events) c.self.view_is in
    let kept : c.self.inside.incarnations.items
    ≡ incarnations_sent tape = c.self.invariant.checked.sent ∙ ap incarnations_sent seen in
    let at : Holds (front tape c.args.choice) c.index.result.now c.args.number = sent_at tape
    (place tape c.args.choice) c.args.number 0 (omega arith) c.index.result.now ∙ ap (λ xs. Some
    (get_or xs c.args.number c.index.result.now)) (sym kept) ∙ ap Some (sym c.index.ensures) in
    (λ h. at ∙ ap Some (eqb-true _ _ h), λ h. eq-eqb _ _ (same_Some _ _ (sym at ∙ h)))

pub returns-else-number-sends_before : goal.returns-else-number-sends_before
returns-else-number-sends_before c = (
  λ h. absurd (omega (arith, ltb-true _ _ h)),
  λ h. lt-ltb _ _
      (omega (
        arith,
        slice_get_within (incarnations_sent
            (front c.args.self.now.events c.args.choice)) c.args.number c.args.inc h,
      )),
)
