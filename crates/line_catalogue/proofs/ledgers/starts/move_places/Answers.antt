-- One process more.
use Rattle.std.proofs.Common.{◌≡◌, ℕ, List, length, slice_index_or, slice_set, sym, ap, ◌∙◌, arith}
use Rattle.std.proofs.Common.{inl, inr}
use Rattle.std.proofs.lemmas.Bool.{cases_lt}
use Rattle.std.proofs.lemmas.List.{length-set, get_or-set_same, get_or-set_other, get_or_past}
use Rattle.line_names.specs.declared.choices.Choice.{Choice}
use Rattle.line_names.specs.Lines.{choice_at}
use Rattle.line_tape.specs.declared.events.Event.{Event}
use Rattle.line_tape.specs.Front.{place}
use Rattle.line_tape.specs.History.{Process, tape_at}
use Rattle.line_tape.proofs.ChoiceLemmas.{choice-past}
use Rattle.line_catalogue.proofs.ledgers.starts.move_places.Goals as goal

pub loop-q-init : goal.loop-q-init
loop-q-init c = record {
  count = c.requires.count;
  moved = λ p l. absurd (omega (arith, l));
}

pub loop-q-preserved : goal.loop-q-preserved
loop-q-preserved c =
    let history : List Process = c.args.history.now.processes in
    let line : List Choice = c.args.line.now in
    let q : ℕ = c.loop-q.q in
    let items : List ℕ = c.loop-q.places.items in
    let before : ℕ = c.unwrap-before.result in
    let at : c.unwrap-p.result ≡ q = (rw c.unwrap-p.ensures at c.try_new.ensures).1 in
    let tape : place c.tape.result.now.events c.at.result
    ≡ place (tape_at history q) (choice_at line q) =
    ap (λ (t : List Event). place t c.at.result) c.tape.ensures.events ∙ ap
    (place (tape_at history c.unwrap-p.result)) c.at.ensures ∙ ap
    (λ (k : ℕ). place (tape_at history k) (choice_at line k)) at
    in
    let count : before ≡ place (tape_at history q) (choice_at line q) =
    (rw c.unwrap-before.ensures at c.place.ensures).1 ∙ tape in
    record {
      count = length-set items q before ∙ c.loop-q.invariant.count;
      moved = λ p l. elim (cases_lt p q) [
        | inl earlier ↦ get_or-set_other items q p before 0
            (omega arith) ∙ c.loop-q.invariant.moved p earlier
        | inr here ↦
            let same : q ≡ p = omega (arith, l) in
            ap (λ (k : ℕ). slice_index_or (slice_set items q before) k 0)
            (sym same) ∙ get_or-set_same items q before 0
            (omega (arith, c.loop-q.invariant.count, c.n-n.ensures.value)) ∙ count ∙ ap
            (λ (k : ℕ). place (tape_at history k) (choice_at line k)) same
      ];
    }

pub returns-clause-places : goal.returns-clause-places
returns-clause-places c = λ p. elim (cases_lt p (length c.args.history.now.processes)) [
  | inl h ↦ c.loop-q.invariant.moved p (omega (arith, h, c.n-n.ensures.value))
  | inr past ↦ get_or_past c.loop-q.places.items p 0 (omega (arith, c.loop-q.invariant.count)) ∙ sym
      (ap (place (tape_at c.args.history.now.processes p))
      (choice-past c.args.line.now p (omega (arith, past, c.requires.line.length_is))))
]
