-- The flags of one process more are cut.
use Rattle.std.proofs.Common.{◌≡◌, ◌<◌, ℕ, Bool, List, [], length, set, take, sym, ap, ◌∙◌, arith}
use Rattle.std.proofs.Common.{inl, inr}
use Rattle.std.proofs.lemmas.Bool.{cases_eq}
use Rattle.std.proofs.lemmas.List.{get_or_default, get_or-set_same, get_or-set_other, length-set}
use Rattle.line_names.specs.declared.choices.Choice.{Choice}
use Rattle.line_tape.specs.declared.events.Event.{Event}
use Rattle.line_tape.specs.Event.{sends}
use Rattle.line_tape.specs.Front.{front}
use Rattle.line_tape.specs.History.{Process, tape_at}
use Rattle.line_tape.specs.Line.{events_before}
use Rattle.line_rounds.specs.Flags.{flags_of}
use Rattle.line_rounds.proofs.received.ReceivedSends.cut.Goals as goal

pub loop-q-preserved : goal.loop-q-preserved
loop-q-preserved c =
    let history : List Process = c.args.history.now.processes in
    let line : List Choice = c.args.line.now in
    let q : ℕ = c.loop-q.q in
    let none : List Bool = [] in
    let items : List (List Bool) = c.loop-q.self-inside.processes.items in
    let old : List Bool = c.index_mut.result.now in
    let row : List Bool = c.cut.new.self in
    let p' : ℕ = c.unwrap-p.result in
    let at : p' ≡ q = (rw c.unwrap-p.ensures at c.try_new.ensures).1 in
    let within : q < length items = omega
    (arith, c.loop-q.invariant.0, c.requires.count, c.n-n.ensures.value, c.loop-q-test.true) in
    let own : old
    ≡ flags_of items q = c.index_mut.ensures.value ∙ get_or_default items q old none within in
    let count : c.sends_before-sends.result
    ≡ sends (events_before history line p') = c.sends_before-sends.ensures ∙ ap
    (λ (t : List Event). sends (front t c.at.result)) c.tape.ensures.events ∙ ap
    (λ (choice : Choice). sends (front (tape_at history p') choice)) c.at.ensures in
    let row_is : row ≡ take (sends (events_before history line q)) (flags_of c.args.self.now q) =
    c.cut.ensures ∙ ap (λ (n : ℕ). take n old)
    (count ∙ ap (λ (v : ℕ). sends (events_before history line v)) at)
    ∙ ap (λ (v : List Bool). take (sends (events_before history line q)) v)
    (own ∙ c.loop-q.invariant.2 q (omega arith)) in (
      length-set items q row ∙ c.loop-q.invariant.0,
      λ k k_within. elim (cases_eq k q) [
        | inl same ↦ ap
            (λ (v : ℕ). flags_of (set items q row) v) same ∙ get_or-set_same items q row none within
            ∙ row_is ∙ ap (λ (v : ℕ). take (sends (events_before history line v))
            (flags_of c.args.self.now v)) (sym same)
        | inr other ↦ get_or-set_other items q k row none other ∙ c.loop-q.invariant.1 k
            (omega (arith, k_within, other))
      ],
      λ k k_past. get_or-set_other items q k row none
          (λ e. omega (arith, e, k_past)) ∙ c.loop-q.invariant.2 k (omega (arith, k_past)),
    )
