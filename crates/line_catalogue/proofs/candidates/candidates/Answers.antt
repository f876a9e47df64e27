-- Process by process what is received behind the line.
use Rattle.std.proofs.Common.{◌≡◌, ◌++◌, [], ℕ, List, length, take, drop, sym, ap, ◌∙◌, subst}
use Rattle.std.proofs.Common.{arith, inl, inr}
use Rattle.std.proofs.lemmas.Bool.{cases_lt}
use Rattle.std.specs.List.{Contains}
use Rattle.std.proofs.lemmas.List.{length-replicate, take-append-drop}
use Rattle.std.proofs.lemmas.List.Elements.{Contains-append_cases, Contains-append_left}
use Rattle.std.proofs.lemmas.List.Elements.{Contains-append_right}
use Rattle.line_names.specs.declared.choices.Choice.{Choice}
use Rattle.line_names.specs.declared.messages.MsgName.{MsgName}
use Rattle.line_names.specs.Lines.{choice_at}
use Rattle.line_tape.specs.declared.events.Event.{Event}
use Rattle.line_tape.specs.declared.events.Event.TheVariants.{Recv}
use Rattle.line_tape.specs.Front.{place}
use Rattle.line_tape.specs.History.{Process, tape_at}
use Rattle.line_tape.specs.Transit.{names_received}
use Rattle.line_tape.proofs.TransitLemmas.{names_contain}
use Rattle.line_catalogue.specs.Left.{AreIn, events_between, place_at}
use Rattle.line_catalogue.proofs.NumberLemmas.{in-none, in-left}
use Rattle.line_catalogue.proofs.candidates.candidates.Goals.{then-not-has+in_ok-add_receipts}
use Rattle.line_catalogue.proofs.candidates.candidates.Goals.{else-not-has}
use Rattle.line_catalogue.proofs.candidates.candidates.Goals as goal

pub returns-then-are_none : goal.returns-then-are_none
returns-then-are_none c = record {
  count = ap (λ (xs : List (List ℕ)). length xs) c.in_ok-rows.ensures ∙ length-replicate
      c.n-n.result [] ∙ c.n-n.ensures.value;
  behind = λ q l m among low inside. absurd
      (omega (arith, low, c.are_none.ensures c.if-are_none.true m.from));
}

pub loop-receiver-init : goal.loop-receiver-init
loop-receiver-init c = record {
  count = ap (λ (xs : List (List ℕ)). length xs) c.in_ok-rows.ensures ∙ length-replicate
      c.n-n.result [] ∙ c.n-n.ensures.value;
  behind = λ q l. absurd (omega (arith, l));
}

pub loop-receiver-preserved : goal.loop-receiver-preserved
loop-receiver-preserved c =
    let history : List Process = c.args.history.now.processes in
    let line : List Choice = c.args.line.now in
    let ends : List ℕ = c.args.ends.now in
    let r : ℕ = c.loop-receiver.receiver in
    let q : ℕ = c.unwrap-q.result in
    let at : q ≡ r = (rw c.unwrap-q.ensures at c.try_new.ensures).1 in
    let old : List (List ℕ) = c.loop-receiver.rows.items in
    let new : List (List ℕ) = c.if-not-has.rows.items in
    let k : ℕ = place_at c.args.places.now r in
    let between : ℕ
    → List Event = λ j. events_between history line j (place_at c.args.places.now j) in
    let events : List Event = events_between history line q k in
    let more : (length new ≡ length old) × ((names : List MsgName) → AreIn names ends old
    → AreIn (names ++ names_received events) ends new) = elim c.if-not-has.branch [
      | then-not-has+in_ok-add_receipts w ↦
          let is : new ≡ w.add_receipts.new.rows.items = ap (λ v. v.items) w.rows-is in (
            ap (λ (rows : List (List ℕ)). length rows) is ∙ w.in_ok-add_receipts.ensures.count,
            λ names held. subst
                (λ (rows : List (List ℕ)). AreIn (names ++ names_received events) ends rows)
                (sym is) (subst
                (λ (es : List Event). AreIn
                (names ++ names_received es) ends w.add_receipts.new.rows.items)
                w.events_between-events.ensures (w.in_ok-add_receipts.ensures.added names held)),
          )
      | else-not-has w ↦
          let is : new ≡ old = ap (λ v. v.items) w.rows-is in
          let tape : List Event = tape_at history q in
          let n : ℕ = place tape (choice_at line q) in
          let heard : (m : MsgName) → Contains (names_received events) m
          → Contains tape (Recv m) = λ m received.
          subst (λ (es : List Event). Contains es (Recv m)) (take-append-drop k tape)
          (Contains-append_left (take k tape) (drop k tape) (Recv m)
          (subst (λ (es : List Event). Contains es (Recv m)) (take-append-drop n (take k tape))
          (Contains-append_right (take n (take k tape)) events (Recv m)
          ((names_contain events m).0 received))))
          in (
            ap (λ (rows : List (List ℕ)). length rows) is,
            λ names held. subst
                (λ (rows : List (List ℕ)). AreIn (names ++ names_received events) ends rows)
                (sym is) (λ m among low inside. elim
                (Contains-append_cases names (names_received events) m among) [
                  | inl earlier ↦ held m earlier low inside
                  | inr received ↦ absurd
                      (omega (
                        arith,
                        low,
                        c.requires.ends m.from,
                        c.requires.strangers q m
                            (sym c.has.ensures ∙ w.if-not-has.false) (heard m received),
                      ))
                ]),
          )
    ] in
    record {
      count = more.0 ∙ c.loop-receiver.invariant.count;
      behind = λ p l. elim (cases_lt p r) [
        | inl earlier ↦ in-left (names_received (between p)) (names_received events) ends new
            (more.1 (names_received (between p)) (c.loop-receiver.invariant.behind p earlier))
        | inr here ↦
            let same : r ≡ p = omega (arith, l) in
            subst (λ (es : List Event). AreIn (names_received es) ends new)
            (ap (λ (j : ℕ). events_between history line j k) at ∙ ap between same)
            (more.1 [] (in-none ends old))
      ];
    }

pub returns : goal.returns
returns c = record {
  count = c.loop-receiver.invariant.count;
  behind = λ q l. c.loop-receiver.invariant.behind q (omega (arith, l, c.n-n.ensures.value));
}
