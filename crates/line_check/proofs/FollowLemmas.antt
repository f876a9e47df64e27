-- Entries that are followed one after another.
use Rattle.std.proofs.Common.{◌≡◌, ℕ, ◌+◌, ◌*◌, ◌<◌, ◌≤◌, Bool, List, [], ◌∷◌, ◌++◌, length, take}
use Rattle.std.proofs.Common.{drop, get_or, slice_get, inl, inr, Option, Some, sym, ap, ◌∙◌, subst}
use Rattle.std.proofs.Common.{arith}
use Rattle.std.proofs.lemmas.Bool.{cases_lt}
use Rattle.std.proofs.lemmas.List.{take-append-drop, drop_more, take_more, length-set}
use Rattle.std.proofs.lemmas.List.{length-take-le}
use Rattle.std.proofs.lemmas.Option.{slice_get_within, get_or_from_slice_get}
use Rattle.line_names.specs.declared.certificates.Passed.{Passed}
use Rattle.line_names.specs.declared.choices.Choice.{Choice}
use Rattle.line_names.specs.Lines.{choice_at}
use Rattle.line_tape.specs.declared.events.Event.TheVariants.{Recv}
use Rattle.line_tape.specs.declared.limits.TheConstants.{MOST_EVENTS}
use Rattle.line_tape.specs.Chain.{next_lower, first_ceilings, lowered_ceilings, LeadsTo, IsRight}
use Rattle.line_tape.specs.Chain.{IsChain, IsLed}
use Rattle.line_tape.specs.Height.{height}
use Rattle.line_tape.specs.History.{Process, IsHistory}
use Rattle.line_tape.specs.Views.{MarksView}
use Rattle.line_laws.proofs.ChainLemmas.{first-length}
use Rattle.line_laws.proofs.LedLemmas.{LeadsTo-push, height-lowered, height-first}
use Rattle.line_tape.proofs.LineLemmas.{Contains-past}
use Rattle.line_check.specs.declared.faults.FaultCode.{FaultCode}
use Rattle.line_check.specs.Shape.{HasShape}
use Rattle.line_check.specs.Verdict.{IsEntryFault, not_top, not_received, not_orphan, IsFirstFault}
use Rattle.line_check.specs.Verdict.{misshapen, wrong_entry, other_line, inconsistent}

-- an entry that has a fault is not right
fault-wrong : (history : List Process) (ceilings : List Choice) (entry : Passed) {code : FaultCode}
    → IsEntryFault history ceilings entry code → IsRight history ceilings entry → ⊥
fault-wrong history ceilings entry (not_top other) right = other right.top
fault-wrong history ceilings entry (not_received top unreceived) right =
    unreceived right.orphan.received
fault-wrong history ceilings entry (not_orphan top received sent) right = right.orphan.unsent sent

module _ (history : List Process) (marks : MarksView) (failed : List Bool) where
  -- a chain goes on from the ceilings that its first entries leave
  led-rest : (start ceilings line : List Choice) (entries rest : List Passed)
      → LeadsTo history marks failed start entries ceilings → LeadsTo history marks failed start
      (entries ++ rest) line → LeadsTo history marks failed ceilings rest line
  led-rest start ceilings line [] rest e l =
      subst (λ (c : List Choice). LeadsTo history marks failed c rest line) e l
  led-rest start ceilings line (first ∷ entries) rest (r, l) (s, m) =
      led-rest (lowered_ceilings history marks failed start first.at) ceilings line entries rest l m

  -- entries lead to one line alone
  led-same : (start ceilings line : List Choice) (entries : List Passed)
      → LeadsTo history marks failed start entries ceilings
      → LeadsTo history marks failed start entries line → ceilings ≡ line
  led-same start ceilings line [] d e = sym d ∙ e
  led-same start ceilings line (first ∷ entries) (r, l) (s, m) =
      led-same (lowered_ceilings history marks failed start first.at) ceilings line entries l m

  -- each entry that is right costs height
  height-led : (ceilings line : List Choice) (entries : List Passed)
      → length ceilings ≡ length history → LeadsTo history marks failed ceilings entries line
      → length entries + height history line ≤ height history ceilings
  height-led ceilings line [] e l = omega (arith, ap (height history) l)
  height-led ceilings line (first ∷ entries) e (r, l) = elim (cases_lt first.at (length history)) [
    | inl within ↦ omega (
      arith,
      height-lowered history marks failed ceilings first.at first.message within e
          r.orphan,
      height-led (lowered_ceilings history marks failed ceilings first.at) line entries
          (length-set ceilings first.at
          (next_lower history marks failed first.at (choice_at ceilings first.at)) ∙ e) l,
    )
    | inr past ↦ absurd
        (Contains-past history ceilings first.at (Recv first.message) past r.orphan.received)
  ]

  -- so no more are right than there are choices
  pub few-led : (entries : List Passed) (k : ℕ) (ceilings : List Choice) → k ≤ length entries
      → IsHistory history → IsLed history marks failed (take k entries) ceilings
      → k ≤ length history * (MOST_EVENTS + 1)
  few-led entries k ceilings h is_history led =
      omega (
        arith,
        length-take-le k entries h,
        height-led
            (first_ceilings history marks failed) ceilings (take k entries)
            (first-length history marks failed) led,
        height-first history marks failed is_history,
      )

  -- one right entry more
  pub led-more : (entries : List Passed) (k : ℕ) (ceilings : List Choice) (entry : Passed)
      → k < length entries → entry ≡ get_or entries k entry
      → IsLed history marks failed (take k entries) ceilings → IsRight history ceilings entry
      → IsLed history marks failed (take (k + 1) entries)
      (lowered_ceilings history marks failed ceilings entry.at)
  led-more entries k ceilings entry h is led right =
      let more : take (k + 1) entries ≡ take k entries ++ entry ∷ [] = take_more entries k entry h ∙
      ap (λ (e : Passed). take k entries ++ e ∷ []) (sym is) in
      subst (λ (es : List Passed). IsLed history marks failed es
      (lowered_ceilings history marks failed ceilings entry.at)) (sym more)
      (LeadsTo-push history marks failed (first_ceilings history marks failed)
      (take k entries) ceilings entry led right)

  -- no chain has an entry with a fault
  wrong-led : (entries : List Passed) (line : List Choice) (k : ℕ) (entry : Passed)
      (ceilings : List Choice) (code : FaultCode) → IsLed history marks failed (take k entries)
      ceilings → slice_get entries k ≡ Some entry → IsEntryFault history ceilings entry code
      → IsLed history marks failed entries line → ⊥
  wrong-led entries line k entry ceilings code before here wrong led =
      let whole = subst (λ (es : List Passed). IsLed history marks failed es line)
      (sym (take-append-drop k entries)) led in
      let rest = led-rest (first_ceilings history marks failed) ceilings line (take k entries)
      (drop k entries) before whole in
      let next : drop k entries
      ≡ entry ∷ drop (k + 1) entries = drop_more entries k entry
      (slice_get_within entries k entry here) ∙ ap (λ (e : Passed). e ∷ drop (k + 1) entries)
      (get_or_from_slice_get entries k entry entry here) in
      let own = subst
      (λ (es : List Passed). LeadsTo history marks failed ceilings es line) next rest in
      fault-wrong history ceilings entry wrong own.0

  -- two lines that the entries lead to are one
  led-one : (entries : List Passed) (ceilings line : List Choice) → IsLed history marks failed
      entries ceilings → IsLed history marks failed entries line → ceilings ≡ line
  led-one entries ceilings line =
      led-same (first_ceilings history marks failed) ceilings line entries

  -- entries that lead to a line
  pub led-to : (entries : List Passed) (ceilings line : List Choice) → IsLed history marks failed
      entries ceilings → ceilings ≡ line → IsLed history marks failed entries line
  led-to entries ceilings line led same = subst (IsLed history marks failed entries) same led

  -- a claim that has a fault has not the shape, or its entries are no valid chain
  pub fault-chain : (entries : List Passed) (line : List Choice) {at : Option ℕ} {code : FaultCode}
      → IsFirstFault history marks failed entries line at code
      → HasShape history marks failed entries line → IsChain history marks failed entries line → ⊥
  fault-chain entries line (misshapen shapeless) shape chain = shapeless shape
  fault-chain entries line (wrong_entry k entry ceilings code own before here wrong) shape chain =
      wrong-led entries line k entry ceilings code before here wrong chain.leads
  fault-chain entries line (other_line ceilings own led other) shape chain =
      other (led-one entries ceilings line led chain.leads)
  fault-chain entries line (inconsistent own led unsound) shape chain = unsound chain.consistent
