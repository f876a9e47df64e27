-- A chain grows by one entry, and the line gets lower.
use Rattle.std.proofs.Common.{◌≡◌, ◌≢◌, ℕ, zero, suc, ◌+◌, ◌-◌, ◌*◌, ◌<◌, ◌≤◌, Bool, true, false}
use Rattle.std.proofs.Common.{cond, List, [], ◌∷◌, ◌++◌, inl, inr, length, set, refl, sym, ap}
use Rattle.std.proofs.Common.{subst, arith}
use Rattle.std.specs.List.{Contains}
use Rattle.std.proofs.lemmas.Bool.{cases_lt}
use Rattle.line_names.specs.declared.certificates.Passed.{Passed}
use Rattle.line_names.specs.declared.choices.Choice.{Choice}
use Rattle.line_names.specs.declared.choices.Choice.TheVariants.{Check as AtCheck, Now}
use Rattle.line_names.specs.declared.messages.MsgName.{MsgName}
use Rattle.line_names.specs.Lines.{choice_at}
use Rattle.line_tape.specs.declared.events.Event.{Event}
use Rattle.line_tape.specs.declared.events.Event.TheVariants.{Recv}
use Rattle.line_tape.specs.declared.limits.TheConstants.{MOST_EVENTS}
use Rattle.line_tape.specs.Chain.{latest_check, latest_choice, next_lower, first_ceilings}
use Rattle.line_tape.specs.Chain.{lowered_ceilings, LeadsTo, IsRight, IsLed}
use Rattle.line_tape.specs.Event.{checks}
use Rattle.line_tape.specs.Front.{front, HasChoice}
use Rattle.line_tape.specs.History.{Process, tape_at, IsHistory}
use Rattle.line_tape.specs.Line.{IsLine, IsOrphan}
use Rattle.line_tape.specs.Survival.{survives}
use Rattle.line_tape.specs.Views.{MarksView}
use Rattle.line_laws.proofs.ChainLemmas.{first_are_ceilings, led_are_ceilings, first_at}
use Rattle.line_laws.proofs.ChainLemmas.{first-length}
use Rattle.line_tape.proofs.ChoiceLemmas.{choice-past, survives_within}
use Rattle.line_tape.proofs.HistoryLemmas.{IsHistory-at}
use Rattle.line_tape.proofs.RowLemmas.{checks_le}
use Rattle.line_tape.specs.Height.{rank, height}

-- no latest check stands above where the search for it began
rank-latest_check : (tape : List Event) (passes : Choice → Bool) (c : ℕ)
    → rank tape (latest_check passes c) ≤ c
rank-latest_check tape passes zero = omega arith
rank-latest_check tape passes (suc c) =
    elim (passes (AtCheck (suc c))) as
    (λ v. rank tape (cond v (AtCheck (suc c)) (latest_check passes c)) ≤ suc c)
    [ true ↦ omega arith | false ↦ omega (arith, rank-latest_check tape passes c) ]

-- a line with one choice set
height-set : (history : List Process) (line : List Choice) (q : ℕ) (choice : Choice)
    → q < length history → length line ≡ length history → height history (set line q choice) + rank
    (tape_at history q) (choice_at line q) ≡ height history line + rank (tape_at history q) choice
height-set [] line q choice h e = absurd (omega arith)
height-set (process ∷ rest) [] q choice h e = absurd (omega arith)
height-set (process ∷ rest) (first ∷ line) zero choice h e = omega arith
height-set (process ∷ rest) (first ∷ line) (suc q) choice h e =
    omega (arith, height-set rest line q choice (omega arith) (omega arith))

-- a line none of whose choices has more than a tape's choices below it
height-le : (history : List Process) (line : List Choice) → ((p : ℕ) → rank (tape_at history p)
    (choice_at line p) ≤ MOST_EVENTS + 1) → height history line ≤ length history * (MOST_EVENTS + 1)
height-le [] line each = omega arith
height-le (process ∷ rest) [] each = omega arith
height-le (process ∷ rest) (choice ∷ line) each =
    omega (arith, each 0, height-le rest line (λ p. each (suc p)))

-- nothing is received before the initial state
pub orphan_above : (history : List Process) (line : List Choice) (q : ℕ) (message : MsgName)
    → IsOrphan history line q message → choice_at line q ≢ AtCheck 0
orphan_above history line q message orphan e =
    let received : Contains (front (tape_at history q) (AtCheck 0)) (Recv message) = subst
    (λ (c : Choice). Contains (front (tape_at history q) c) (Recv message)) e orphan.received in
    absurd (omega (arith, received.1))

module _ (history : List Process) (marks : MarksView) (failed : List Bool) where
  -- one entry more
  pub LeadsTo-push : (ceilings : List Choice) (entries : List Passed) (line : List Choice)
      (entry : Passed) → LeadsTo history marks failed ceilings entries line
      → IsRight history line entry → LeadsTo history marks failed ceilings (entries ++ entry ∷ [])
      (lowered_ceilings history marks failed line entry.at)
  LeadsTo-push ceilings [] line entry e r = (
    subst (λ (c : List Choice). IsRight history c entry) (sym e) r,
    ap
        (λ (c : List Choice). lowered_ceilings history marks failed c entry.at) e,
  )
  LeadsTo-push ceilings (first ∷ entries) line entry (s, rest) r = (
    s,
    LeadsTo-push
        (lowered_ceilings history marks failed ceilings first.at) entries line entry rest r,
  )

  -- a tape has the choices of it that survive
  has_choice : (p : ℕ) (choice : Choice) → survives history marks failed p choice ≡ true
      → HasChoice (tape_at history p) choice
  has_choice p (AtCheck c) h = survives_within history marks failed p c h
  has_choice p Now h = tt

  -- what a chain leads to is a line
  pub IsLine-led : (entries : List Passed) (line : List Choice)
      → IsLed history marks failed entries line → IsLine history line
  IsLine-led entries line led =
      let ceilings = led_are_ceilings history marks failed (first_ceilings history marks failed)
      entries line (first_are_ceilings history marks failed) led in
      record {
        length_is = ceilings.length_is;
        exist = λ p. has_choice p (choice_at line p)
            (ceilings.surviving p);
      }

  rank-next_lower : (p : ℕ) (choice : Choice) → choice ≢ AtCheck 0 → rank (tape_at history p)
      (next_lower history marks failed p choice) < rank (tape_at history p) choice
  rank-next_lower p (AtCheck zero) h = absurd (h refl)
  rank-next_lower p (AtCheck (suc c)) h = omega
      (arith, rank-latest_check (tape_at history p) (survives history marks failed p) (suc c - 1))
  rank-next_lower p Now h = omega (
    arith,
    rank-latest_check (tape_at history p)
        (survives history marks failed p) (checks (tape_at history p)),
  )

  -- a line gets lower where a process is lowered for an orphan
  pub height-lowered : (line : List Choice) (q : ℕ) (message : MsgName) → q < length history
      → length line ≡ length history → IsOrphan history line q message
      → height history (lowered_ceilings history marks failed line q) < height history line
  height-lowered line q message h e orphan =
      omega (
        arith,
        height-set history line q (next_lower history marks failed q (choice_at line q))
            h e,
        rank-next_lower q (choice_at line q) (orphan_above history line q message orphan),
      )

  rank-latest_choice : (p : ℕ) → rank (tape_at history p)
      (latest_choice history marks failed p) ≤ checks (tape_at history p) + 1
  rank-latest_choice p =
      elim (survives history marks failed p Now) as
      (λ v. rank (tape_at history p) (cond v Now (latest_check (survives history marks failed p)
      (checks (tape_at history p)))) ≤ checks (tape_at history p) + 1) [
        | true ↦ omega arith
        | false ↦ omega (
          arith,
          rank-latest_check (tape_at history p)
              (survives history marks failed p) (checks (tape_at history p)),
        )
      ]

  -- no more than a tape's choices stand below a first ceiling
  rank-first : IsHistory history → (p : ℕ) → rank (tape_at history p)
      (choice_at (first_ceilings history marks failed) p) ≤ MOST_EVENTS + 1
  rank-first h p = elim (cases_lt p (length history)) [
    | inl within ↦ subst (λ (c : Choice). rank (tape_at history p) c ≤ MOST_EVENTS + 1)
        (sym (first_at history marks failed p within)) (omega (
          arith,
          rank-latest_choice p,
          checks_le (tape_at history p),
          (IsHistory-at history p within h).tape.few,
        ))
    | inr past ↦ subst (λ (c : Choice). rank (tape_at history p) c ≤ MOST_EVENTS + 1)
        (sym (choice-past (first_ceilings history marks failed) p
        (omega (arith, first-length history marks failed)))) (omega arith)
  ]

  -- so no more than these can be passed over
  pub height-first : IsHistory history
      → height history (first_ceilings history marks failed) ≤ length history * (MOST_EVENTS + 1)
  height-first h = height-le history (first_ceilings history marks failed) (rank-first h)
