-- One receiver more; where nothing old was kept, nothing is to be noted.
use Rattle.std.proofs.Common.{◌≡◌, ℕ, List, drop, sym, subst, arith, inl, inr}
use Rattle.std.specs.List.{Contains}
use Rattle.std.proofs.lemmas.Bool.{cases_lt}
use Rattle.line_names.specs.declared.choices.Choice.{Choice}
use Rattle.line_tape.specs.declared.events.Event.TheVariants.{Recv}
use Rattle.line_tape.specs.History.{Process}
use Rattle.line_tape.specs.Line.{events_before}
use Rattle.line_catalogue.specs.Left.{place_at}
use Rattle.line_catalogue.proofs.olds.find_old.Goals as goal

pub loop-q-preserved : goal.loop-q-preserved
loop-q-preserved c = λ q m l among old.
    let history : List Process = c.args.history.now.processes in
    let line : List Choice = c.args.line.now in
    let places : List ℕ = c.args.kept.places.now in
    elim (cases_lt q c.loop-q.q) [
      | inl earlier ↦ c.note_receipts.ensures.kept m.from
          (c.loop-q.invariant q m earlier among old)
      | inr here ↦
          let at : c.unwrap.result ≡ c.loop-q.q = (rw c.unwrap.ensures at c.try_new.ensures).1 in
          let same : c.loop-q.q ≡ q = omega (arith, l, here) in
          let one : Contains (drop (place_at places c.loop-q.q)
          (events_before history line c.loop-q.q)) (Recv m) = subst (λ (k : ℕ). Contains
          (drop (place_at places k) (events_before history line k)) (Recv m)) (sym same) among in
          c.note_receipts.ensures.noted m (subst (λ (k : ℕ). Contains
          (drop (place_at places c.loop-q.q) (events_before history line k)) (Recv m)) (sym at) one)
          old
    ]

pub returns-then-are_none : goal.returns-then-are_none
returns-then-are_none c = λ q m l left among old. absurd
    (omega (arith, c.are_none.ensures c.if-are_none.true m left, old))

pub returns : goal.returns
returns c = λ q m l left among old. c.loop-q.invariant q m (omega (arith, l, c.n-n.ensures.value))
    among old
