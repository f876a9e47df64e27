-- A process that is not to be visited has no number of p past the count in the vector of where it
-- stands.
use Rattle.std.proofs.Common.{◌≡◌, ◌≢◌, ◌≤◌, ℕ, false, ltb, List, length, get_or, inl, inr, sym, ap}
use Rattle.std.proofs.Common.{◌∙◌, subst, arith}
use Rattle.std.proofs.lemmas.Bool.{cases_eq, cases_lt, lt-ltb, false≢true}
use Rattle.std.proofs.lemmas.List.{take_all}
use Rattle.line_names.specs.declared.choices.Choice.TheVariants.{Now}
use Rattle.line_names.specs.Sets.{is_member}
use Rattle.line_tape.specs.declared.events.Event.{Event}
use Rattle.line_tape.specs.Front.{front}
use Rattle.line_tape.specs.History.{Process, tape_at}
use Rattle.line_vectors.specs.Reach.{reach_from, reach_of, reach_before}
use Rattle.line_vectors.proofs.ReachLemmas.{reach-at}
use Rattle.line_plan.proofs.planner.mark_hearers.Goals as goal
use Rattle.line_plan.proofs.planner.mark_hearers.Goals.{then-was, else-was}

low-lane : (count k : ℕ) → ltb count k ≡ false → k ≤ count
low-lane count k h = elim (cases_lt count k) [
  | inl over ↦ absurd (false≢true (sym h ∙ lt-ltb count k over))
  | inr low ↦ low
]

pub loop-q-preserved : goal.loop-q-preserved
loop-q-preserved c =
    let history : List Process = c.args.catalogue.now.processes in
    let n : ℕ = length history in
    let p : ℕ = c.args.p in
    let q : ℕ = c.loop-q.q in
    let at : c.unwrap-hearer.result ≡ q = (rw c.unwrap-hearer.ensures at c.try_new.ensures).1 in
    let events : List Event = tape_at history q in
    let whole : front events Now ≡ events = take_all (length events) events (omega arith) in
    let lanes : reach_before history c.unwrap-hearer.result Now ≡ reach_of n events =
    ap (λ k. reach_before history k Now) at ∙ ap (reach_of n) whole in
    let lane : c.heard-lane.result ≡ get_or (reach_of n events) p 0 = c.heard-lane.ensures ∙ ap
    (λ (xs : List ℕ). get_or xs p 0) lanes in
    let unheard : c.heard-lane.result ≤ c.args.count → reach_from events p ≤ c.args.count = λ low.
    omega (arith, low, lane, reach-at n events p 0 c.requires.process, c.requires.few) in
    let unset : c.if-was.set ≡ false → (c.has-was.result ≡ false)
    × (c.heard-lane.result ≤ c.args.count) = λ none. elim c.if-was.branch [
      | then-was w ↦ absurd (false≢true (sym none ∙ w.set-is ∙ w.if-was.true))
      | else-was w ↦
          (w.if-was.false, low-lane c.args.count c.heard-lane.result (sym w.set-is ∙ none))
    ] in
    let here : (k : ℕ) → k ≡ q → is_member c.set.new.self k ≡ false → c.if-was.set ≡ false = λ k e
    none. sym c.set.ensures.member ∙ ap (is_member c.set.new.self) (at ∙ sym e) ∙ none in
    let there : (k : ℕ) → k ≢ q → is_member c.set.new.self k ≡ false → is_member c.loop-q.dirty k
    ≡ false = λ k apart none. sym (c.set.ensures.others k (λ e. apart (e ∙ at))) ∙ none in
    record {
      heard = λ k below none. elim (cases_eq k q) [
        | inl e ↦ subst (λ j. reach_from (tape_at history j) p ≤ c.args.count) (sym e)
            (unheard (unset (here k e none)).1)
        | inr apart ↦ c.loop-q.invariant.heard k (omega (arith, below, apart)) (there k apart none)
      ];
      still = λ k none. elim (cases_eq k q) [
        | inl e ↦ c.loop-q.invariant.still k (ap (is_member c.loop-q.dirty)
            (e ∙ sym at) ∙ sym c.has-was.ensures ∙ (unset (here k e none)).0)
        | inr apart ↦ c.loop-q.invariant.still k (there k apart none)
      ];
    }
