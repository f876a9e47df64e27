-- The counts of sends and the processes to be visited, as a process is lowered.
use Rattle.std.proofs.Common.{◌≡◌, ◌≢◌, ℕ, zero, suc, ◌<◌, ◌≤◌, Bool, List, [], ◌∷◌, ◌++◌, length}
use Rattle.std.proofs.Common.{take, drop, min, get_or, set, inl, inr, refl, sym, ap, ◌∙◌, subst}
use Rattle.std.proofs.Common.{arith}
use Rattle.std.specs.List.{Contains}
use Rattle.std.proofs.lemmas.Bool.{cases_eq}
use Rattle.std.proofs.lemmas.List.{ext_get_or, length-set, get_or-set_same, get_or-set_other}
use Rattle.std.proofs.lemmas.List.{take-append-drop, take-take}
use Rattle.line_names.specs.declared.choices.Choice.{Choice}
use Rattle.line_names.specs.declared.choices.Choice.TheVariants.{Check as AtCheck}
use Rattle.line_names.specs.Lines.{choice_at}
use Rattle.line_names.specs.Order.{IsNoLater}
use Rattle.line_tape.specs.declared.events.Event.{Event}
use Rattle.line_tape.specs.declared.events.Event.TheVariants.{Recv}
use Rattle.line_tape.specs.Event.{sends, Holds}
use Rattle.line_tape.specs.Front.{front, place}
use Rattle.line_tape.specs.History.{Process, tape_at}
use Rattle.line_tape.specs.Line.{events_before, AreSentBefore}
use Rattle.line_tape.proofs.FrontLemmas.{place-mono}
use Rattle.line_vectors.specs.Reach.{reach_from, reach_of, sent_count, sents_of}
use Rattle.line_catalogue.specs.Agreement.{Agrees}
use Rattle.line_catalogue.proofs.LaneLemmas.{on_tape, numbers-decide}
use Rattle.line_vectors.proofs.ReachLemmas.{length-sents, reach-above, reach-append, reach-at}
use Rattle.line_vectors.proofs.ReachLemmas.{sents-at}
use Rattle.line_plan.specs.Search.{AreCleanBut, AreFirstSent, AreHearersDirty, AreStillDirty}
use Rattle.line_plan.specs.Search.{IsSameBut}

-- an entry is set twice
set-set : (line : List Choice) (p : ℕ) (a b : Choice) → set (set line p a) p b ≡ set line p b
set-set [] p a b = refl
set-set (x ∷ xs) zero a b = refl
set-set (x ∷ xs) (suc p) a b = ap (λ (rest : List Choice). x ∷ rest) (set-set xs p a b)

-- one change after another
pub same-on : (old mid new : List Choice) (p : ℕ) → IsSameBut old mid p → IsSameBut mid new p
    → IsSameBut old new p
same-on old mid new p first second =
    second ∙ ap (λ (line : List Choice). set line p (choice_at new p)) first ∙ set-set old p
    (choice_at mid p) (choice_at new p)

module _ (history : List Process) (line : List Choice) (p : ℕ) (choice : Choice)
    (count : length line ≡ length history) where
  -- what another process did before the line is what it was
  pub before-other : (q : ℕ) → q ≢ p
      → events_before history (set line p choice) q ≡ events_before history line q
  before-other q apart =
      ap (front (tape_at history q)) (get_or-set_other line p q choice (AtCheck 0) apart)

  -- one count is set
  pub sents-set : p < length history → sents_of history (set line p choice)
      ≡ set (sents_of history line) p (sends (front (tape_at history p) choice))
  sents-set within =
      let new : List ℕ = sents_of history (set line p choice) in
      let old : List ℕ = sents_of history line in
      let far : ℕ = sends (front (tape_at history p) choice) in
      ext_get_or 0 new (set old p far) (length-sents history (set line p choice) ∙ sym
      (length-set old p far ∙ length-sents history line)) (λ q h.
      let inside : q < length history = omega (arith, length-sents history (set line p choice)) in
      sents-at history (set line p choice) q 0 inside ∙ elim (cases_eq q p) [
        | inl here ↦
            let at : choice_at (set line p choice) p
            ≡ choice = get_or-set_same line p choice (AtCheck 0) (omega (arith, count)) in
            let read : get_or (set old p far) q 0 ≡ far = ap (λ k. get_or (set old p far) k 0) here
            ∙ get_or-set_same old p far 0 (omega (arith, length-sents history line)) in
            ap (sent_count history (set line p choice)) here ∙ ap
            (λ (x : Choice). sends (front (tape_at history p) x)) at ∙ sym read
        | inr apart ↦
            let read : get_or (set old p far) q 0
            ≡ get_or old q 0 = get_or-set_other old p q far 0 apart in
            ap sends (before-other q apart) ∙ sym (sents-at history line q 0 inside) ∙ sym read
      ])

  -- a process that received nothing from p but what is still sent goes on to have no orphan
  pub clean-on : (q : ℕ) → p < length history → Agrees history → q ≢ p
      → reach_from (tape_at history q) p ≤ sends (front (tape_at history p) choice)
      → AreSentBefore history line (events_before history line q)
      → AreSentBefore history (set line p choice) (events_before history (set line p choice) q)
  clean-on q within agrees apart low sent message received =
      let before : Contains (events_before history line q) (Recv message) = subst
      (λ (es : List Event). Contains es (Recv message)) (before-other q apart) received in
      let there : Contains (tape_at history q) (Recv message) = on_tape (tape_at history q)
      (choice_at line q) (Recv message) before in
      elim (cases_eq message.from p) [
        | inl own ↦
            let at : choice_at (set line p choice) p
            ≡ choice = get_or-set_same line p choice (AtCheck 0) (omega (arith, count)) in
            let counted : sent_count history (set line p choice) message.from
            ≡ sends (front (tape_at history p) choice) = ap (sent_count history (set line p
            choice)) own ∙ ap (λ (x : Choice). sends (front (tape_at history p) x)) at in
            (numbers-decide history (set line p choice) q message agrees there).1
            (omega (arith, reach-above (tape_at history q) p message there own, low, counted))
        | inr other ↦ subst (λ (es : List Event). Holds es message.inc message.number)
            (sym (before-other message.from other)) (sent message before)
      ]

  -- so those that are not to be visited once its hearers are go on to have none
  pub clean-lowered : (old new : List Bool) → p < length history → Agrees history
      → AreStillDirty old new → AreHearersDirty history p (sends (front (tape_at history p) choice))
      new → AreCleanBut history line old p → AreCleanBut history (set line p choice) new p
  clean-lowered old new inside agrees still heard clean q within apart none =
      clean-on q inside agrees apart (heard q within none) (clean q within apart (still q none))

-- a process has heard no more before an earlier choice
reach-earlier : (tape : List Event) (lower choice : Choice) (p : ℕ) → IsNoLater lower choice
    → reach_from (front tape lower) p ≤ reach_from (front tape choice) p
reach-earlier tape lower choice p earlier =
    let i : ℕ = place tape lower in
    let j : ℕ = place tape choice in
    let few : take i (take j tape)
    ≡ take i tape = take-take i j tape (place-mono tape lower choice earlier) in
    let parts : take i tape ++ drop i (take j tape) ≡ take j tape = ap (λ (es : List Event). es
    ++ drop i (take j tape)) (sym few) ∙ take-append-drop i (take j tape) in
    omega (
      arith,
      reach-append (take i tape) (drop i (take j tape)) p,
      ap
          (λ (es : List Event). reach_from es p) parts,
    )

-- of the lanes before its own, those that were within their counts are so at an earlier choice of
-- its
pub first-sent-on : (history : List Process) (old new : List Choice) (at clear : ℕ)
    → length old ≡ length history → at < length history → IsSameBut old new at
    → IsNoLater (choice_at new at) (choice_at old at) → AreFirstSent history old at clear
    → AreFirstSent history new at (min clear at)
first-sent-on history old new at clear count within same earlier clean p below =
    let n : ℕ = length history in
    let tape : List Event = tape_at history at in
    let lower : Choice = choice_at new at in
    let choice : Choice = choice_at old at in
    let inside : p < n = omega (arith, below, within) in
    let apart : p ≢ at = λ e. omega (arith, below, e) in
    let before : get_or (reach_of n (front tape lower)) p 0 ≤ get_or
    (reach_of n (front tape choice)) p 0 =
    omega (
      arith,
      reach-at n (front tape lower) p 0 inside,
      reach-at n
          (front tape choice) p 0 inside,
      reach-earlier tape lower choice p earlier,
    )
    in
    let far : ℕ = sends (front tape lower) in
    let counts : sents_of history new ≡ set (sents_of history old) at far = ap
    (sents_of history) same ∙ sents-set history old at lower count within in
    let still : get_or (sents_of history new) p 0 ≡ get_or (sents_of history old) p 0 = ap (λ (xs :
    List ℕ). get_or xs p 0) counts ∙ get_or-set_other (sents_of history old) at p far 0 apart in
    omega (arith, before, still, clean p (omega (arith, below)))
