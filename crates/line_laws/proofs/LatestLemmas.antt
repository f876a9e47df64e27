-- A latest line is unique, and in a history that links can lead to it is `Now` everywhere, where
-- nobody failed.
use Rattle.std.proofs.Common.{◌≡◌, ◌↔◌, ℕ, suc, ◌<◌, Bool, true, false, not, ◌&&◌, List, [], ◌∷◌}
use Rattle.std.proofs.Common.{length, replicate, Option, Some, None, refl, sym, ap, ◌∙◌, subst}
use Rattle.std.proofs.Common.{arith, inl, inr}
use Rattle.std.specs.List.{Contains, slice_get}
use Rattle.std.proofs.lemmas.Bool.{cases_lt}
use Rattle.std.proofs.lemmas.List.{get_or-replicate, length-replicate, take_all}
use Rattle.line_names.specs.declared.choices.Choice.{Choice}
use Rattle.line_names.specs.declared.choices.Choice.TheVariants.{Check as AtCheck, Now}
use Rattle.line_names.specs.declared.messages.MsgName.{MsgName}
use Rattle.line_names.specs.Lines.{choice_at}
use Rattle.line_names.specs.Order.{IsNoLater}
use Rattle.line_names.specs.Sets.{is_member}
use Rattle.line_tape.specs.declared.events.Event.{Event}
use Rattle.line_tape.specs.declared.events.Event.TheVariants.{Recv}
use Rattle.line_tape.specs.Event.{incarnations_sent, Holds}
use Rattle.line_tape.specs.Fit.{IsFitUnordered}
use Rattle.line_tape.specs.Front.{front}
use Rattle.line_tape.specs.History.{Process, tape_at}
use Rattle.line_tape.specs.Line.{events_before, IsConsistent}
use Rattle.line_tape.specs.Survival.{survives, is_allowed, IsLatest}
use Rattle.line_tape.specs.Views.{MarksView, bar_at}
use Rattle.line_tape.proofs.ChoiceLemmas.{choice-past, IsNoLater-refl, IsNoLater-both}
use Rattle.line_tape.proofs.LineLemmas.{tape_at-past, IsConsistent-below}

-- lines with the same choice for each process are the same
same_line : (line other : List Choice) → length line ≡ length other
    → ((p : ℕ) → choice_at line p ≡ choice_at other p) → line ≡ other
same_line [] [] long same = refl
same_line [] (d ∷ other) long same = absurd (omega arith)
same_line (c ∷ line) [] long same = absurd (omega arith)
same_line (c ∷ line) (d ∷ other) long same =
    ap (λ (x : Choice). x ∷ line) (same 0) ∙ ap (λ (xs : List Choice). d ∷ xs)
    (same_line line other (omega arith) (λ p. same (suc p)))

pub latest_same : (history : List Process) (marks : MarksView) (failed : List Bool)
    (line other : List Choice) → IsLatest history marks failed line
    → IsLatest history marks failed other → line ≡ other
latest_same history marks failed line other a b =
    same_line line other (a.recoverable.length_is ∙ sym b.recoverable.length_is)
    (λ p. IsNoLater-both (choice_at line p) (choice_at other p) (b.latest line a.recoverable p)
    (a.latest other b.recoverable p))

-- no choice is later than `Now`
before_now : (choice : Choice) → IsNoLater choice Now
before_now (AtCheck c) = tt
before_now Now = tt

-- every process where it stands
abbrev pub stays : List Process → List Choice
stays history = replicate (length history) Now

module _ (history : List Process) where
  stays_at : (p : ℕ) → p < length history → choice_at (stays history) p ≡ Now
  stays_at p h = get_or-replicate (length history) p Now (AtCheck 0) h

  -- all that a process did stands before where it stands
  whole_tape : (p : ℕ) → p < length history
      → events_before history (stays history) p ≡ tape_at history p
  whole_tape p h = ap (front (tape_at history p)) (stays_at p h) ∙ take_all
      (length (tape_at history p)) (tape_at history p) (omega arith)

  -- a tape that holds a message is there
  held_within : (m : MsgName) → Holds (tape_at history m.from) m.inc m.number
      → m.from < length history
  held_within m held = elim (cases_lt m.from (length history)) [
    | inl within ↦ within
    | inr past ↦
        let none : slice_get (incarnations_sent []) m.number ≡ Some m.inc = subst (λ (tape : List
        Event). Holds tape m.inc m.number) (tape_at-past history m.from past) held in
        absurd (cc)
  ]

  stays_consistent : IsFitUnordered history → IsConsistent history (stays history)
  stays_consistent fit = IsConsistent-below history (stays history) (λ q within m received.
      let held : Holds (tape_at history m.from) m.inc m.number = (fit.held q m (subst
      (λ (es : List Event). Contains es (Recv m)) (whole_tape q within) received)).held in
      subst (λ (es : List Event). Holds es m.inc m.number)
      (sym (whole_tape m.from (held_within m held))) held)

  stays_latest : (marks : MarksView) (failed : List Bool) → IsFitUnordered history
      → ((p : ℕ) → p < length history → is_member failed p ≡ false)
      → ((p : ℕ) → bar_at marks p ≡ None) → IsLatest history marks failed (stays history)
  stays_latest marks failed fit nobody free = record {
    recoverable = record {
      length_is = length-replicate (length history) Now;
      surviving = λ p. elim (cases_lt p (length history)) [
        | inl h ↦ subst (λ (c : Choice). survives history marks failed p c ≡ true)
            (sym (stays_at p h)) (ap (λ (m : Bool). not m && is_allowed (bar_at marks p) Now)
            (nobody p h) ∙ ap (λ (bar : Option ℕ). is_allowed bar Now) (free p))
        | inr h ↦ subst (λ (c : Choice). survives history marks failed p c ≡ true) (sym (choice-past
            (stays history) p (omega (arith, length-replicate (length history) Now)))) refl
      ];
      consistent = stays_consistent fit;
    };
    latest = λ other r p. elim (cases_lt p (length history)) [
      | inl h ↦ subst (IsNoLater (choice_at other p)) (sym (stays_at p h))
          (before_now (choice_at other p))
      | inr h ↦
          let none : choice_at other p
          ≡ AtCheck 0 = choice-past other p (omega (arith, r.length_is)) in
          let initial : choice_at (stays history) p ≡ AtCheck 0 = choice-past (stays history) p
          (omega (arith, length-replicate (length history) Now)) in
          subst (IsNoLater (choice_at other p)) (none ∙ sym initial)
          (IsNoLater-refl (choice_at other p))
    ];
  }

  -- every latest line is that one, and that one is latest
  pub latest_stays : (marks : MarksView) (failed : List Bool) (line : List Choice)
      → IsFitUnordered history → ((p : ℕ) → p < length history → is_member failed p ≡ false) → ((p :
      ℕ) → bar_at marks p ≡ None) → IsLatest history marks failed line ↔ (line ≡ stays history)
  latest_stays marks failed line fit nobody free =
      let latest : IsLatest history marks failed
      (stays history) = stays_latest marks failed fit nobody free in (
        λ h. latest_same history marks failed line (stays history) h latest,
        λ e. subst
            (IsLatest history marks failed) (sym e) latest,
      )
