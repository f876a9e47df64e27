-- What is received has a lane above 0.
use Rattle.std.proofs.Common.{◌≡◌, ◌<◌, ℕ, List, length, get_or, refl, sym, ap, ◌∙◌, subst, arith}
use Rattle.std.proofs.Common.{inl, inr}
use Rattle.std.proofs.lemmas.Bool.{cases_lt}
use Rattle.std.proofs.lemmas.List.{take_all}
use Rattle.line_names.specs.declared.choices.Choice.{Choice}
use Rattle.line_names.specs.declared.choices.Choice.TheVariants.{Now}
use Rattle.line_tape.specs.declared.events.Event.{Event}
use Rattle.line_tape.specs.Event.{sends}
use Rattle.line_tape.specs.Front.{front}
use Rattle.line_tape.specs.History.{Process, tape_at}
use Rattle.line_tape.specs.Line.{events_before}
use Rattle.line_vectors.specs.Reach.{reach_from, reach_of}
use Rattle.line_vectors.proofs.ReachLemmas.{length-reach, reach-above, reach-at}
use Rattle.line_catalogue.proofs.LaneLemmas.{sent-few}
use Rattle.line_catalogue.proofs.LeftLemmas.{past-empty}
use Rattle.line_catalogue.proofs.strangers.has_heard.Goals as goal

pub lane-requires : goal.lane-requires
lane-requires c =
    let history : List Process = c.args.catalogue.now.processes in
    let at : c.unwrap-p.result ≡ c.loop-s.s = (rw c.unwrap-p.ensures at c.try_new.ensures).1 in
    omega (
      arith,
      at,
      c.n-n.ensures.value,
      ap
          (λ (xs : List ℕ). length xs) c.reach-reach.ensures.value,
      length-reach (length history)
          (front (tape_at history c.args.q) Now),
    )

pub loop-s-preserved : goal.loop-s-preserved
loop-s-preserved c =
    let history : List Process = c.args.catalogue.now.processes in
    let line : List Choice = c.args.line.now in
    let n : ℕ = length history in
    let s : ℕ = c.loop-s.s in
    let at : c.unwrap-p.result ≡ s = (rw c.unwrap-p.ensures at c.try_new.ensures).1 in
    let inside : s < n = omega (arith, c.n-n.ensures.value) in
    let events : List Event = tape_at history c.args.q in
    let whole : front events Now ≡ events = take_all (length events) events (omega arith) in
    let lanes : c.reach-reach.result
    ≡ reach_of n events = c.reach-reach.ensures.value ∙ ap (reach_of n) whole in
    let lane : c.lane.result ≡ get_or (reach_of n events) s 0 = c.lane.ensures ∙ ap (λ (xs : List
    ℕ). get_or xs c.unwrap-p.result 0) lanes ∙ ap (λ k. get_or (reach_of n events) k 0) at in
    let tapes : c.tape.result.now.events
    ≡ tape_at history c.unwrap-p.result = c.tape.ensures.events ∙ ap
    (λ (ps : List Process). tape_at ps c.unwrap-p.result) c.history-history.ensures.processes in
    let fronts : front c.tape.result.now.events c.at.result
    ≡ events_before history line s = ap (λ (t : List Event). front t c.at.result) tapes ∙ ap
    (front (tape_at history c.unwrap-p.result)) c.at.ensures ∙ ap
    (events_before history line) at in
    let sent : c.sends_before-sent.result ≡ sends (events_before history line s) =
    c.sends_before-sent.ensures ∙ ap (λ (es : List Event). sends es) fronts in
    let few = sent-few history line s c.n-n.ensures.limits inside in
    λ p l heard. elim (cases_lt p s) [
      | inl earlier ↦ c.loop-s.invariant p earlier heard
      | inr here ↦
          let same : s ≡ p = omega (arith, l) in
          let pos : 0 < reach_from events s = subst (λ k. 0 < reach_from events k)
          (sym same) heard in
          subst (λ k. sends (events_before history line k) ≡ 0) same
          (omega (arith, pos, lane, reach-at n events s 0 inside, sent, few, c.min.ensures))
    ]

pub returns : goal.returns
returns c = λ _ m among.
    let history : List Process = c.args.catalogue.now.processes in
    let line : List Choice = c.args.line.now in
    elim (cases_lt m.from (length history)) [
      | inl within ↦ c.loop-s.invariant m.from (omega (arith, within, c.n-n.ensures.value))
          (omega (arith, reach-above (tape_at history c.args.q) m.from m among refl))
      | inr past ↦ ap (λ (es : List Event). sends es) (past-empty history line m.from (omega arith))
    ]
