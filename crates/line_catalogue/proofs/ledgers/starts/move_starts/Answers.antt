-- One process more.
use Rattle.std.proofs.Common.{◌≡◌, ℕ, List, length, slice_index_or, slice_set, sym, ap, ◌∙◌, arith}
use Rattle.std.proofs.Common.{inl, inr}
use Rattle.std.proofs.lemmas.Bool.{cases_lt}
use Rattle.std.proofs.lemmas.List.{length-set, get_or-set_same, get_or-set_other, get_or_past}
use Rattle.line_names.specs.declared.choices.Choice.{Choice}
use Rattle.line_tape.specs.declared.events.Event.{Event}
use Rattle.line_tape.specs.Event.{sends}
use Rattle.line_tape.specs.Front.{front}
use Rattle.line_tape.specs.History.{Process, tape_at}
use Rattle.line_tape.specs.Line.{events_before}
use Rattle.line_catalogue.proofs.LeftLemmas.{past-empty}
use Rattle.line_catalogue.proofs.ledgers.starts.move_starts.Goals as goal

pub loop-q-init : goal.loop-q-init
loop-q-init c = record {
  count = c.requires.count;
  moved = λ p l. absurd (omega (arith, l));
}

pub loop-q-preserved : goal.loop-q-preserved
loop-q-preserved c =
    let history : List Process = c.args.history.now.processes in
    let line : List Choice = c.args.line.now in
    let q : ℕ = c.loop-q.q in
    let items : List ℕ = c.loop-q.starts.items in
    let sent : ℕ = c.sends_before.result in
    let at : c.unwrap-p.result ≡ q = (rw c.unwrap-p.ensures at c.try_new.ensures).1 in
    let fronts : front c.tape.result.now.events c.at.result ≡ events_before history line q =
    ap (λ (t : List Event). front t c.at.result) c.tape.ensures.events ∙ ap (front
    (tape_at history c.unwrap-p.result)) c.at.ensures ∙ ap (events_before history line) at
    in
    let count : sent ≡ sends (events_before history line q) = c.sends_before.ensures ∙ ap
    (λ (es : List Event). sends es) fronts in
    record {
      count = length-set items q sent ∙ c.loop-q.invariant.count;
      moved = λ p l. elim (cases_lt p q) [
        | inl earlier ↦ get_or-set_other items q p sent 0
            (omega arith) ∙ c.loop-q.invariant.moved p earlier
        | inr here ↦
            let same : q ≡ p = omega (arith, l) in
            ap (λ (k : ℕ). slice_index_or (slice_set items q sent) k 0)
            (sym same) ∙ get_or-set_same items q sent 0
            (omega (arith, c.loop-q.invariant.count, c.n-n.ensures.value)) ∙ count ∙ ap
            (λ (k : ℕ). sends (events_before history line k)) same
      ];
    }

pub returns-clause-starts : goal.returns-clause-starts
returns-clause-starts c = λ p. elim (cases_lt p (length c.args.history.now.processes)) [
  | inl h ↦ c.loop-q.invariant.moved p (omega (arith, h, c.n-n.ensures.value))
  | inr past ↦ get_or_past c.loop-q.starts.items p 0 (omega (arith, c.loop-q.invariant.count)) ∙ sym
      (ap (λ (es : List Event). sends es)
      (past-empty c.args.history.now.processes c.args.line.now p (omega arith)))
]
