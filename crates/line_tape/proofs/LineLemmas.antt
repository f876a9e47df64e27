-- What is received and sent before a line, as its events are gone through.
use Rattle.std.proofs.Common.{◌≡◌, ℕ, zero, suc, ◌<◌, ◌≤◌, List, [], ◌∷◌, ◌++◌, length, ◌⊎◌, inl}
use Rattle.std.proofs.Common.{inr, Option, Some, None, refl, ap, ◌∙◌, subst, sym, arith}
use Rattle.std.specs.List.{Contains}
use Rattle.std.proofs.lemmas.Bool.{cases_lt}
use Rattle.std.proofs.lemmas.List.{get_or_past}
use Rattle.std.proofs.lemmas.List.Elements.{Contains-push_cases, Contains-append_left}
use Rattle.std.proofs.lemmas.List.Elements.{Contains-push}
use Rattle.line_names.specs.declared.choices.Choice.{Choice}
use Rattle.line_names.specs.declared.choices.Choice.TheVariants.{Check as AtCheck, Now}
use Rattle.line_names.specs.declared.messages.MsgName.{MsgName}
use Rattle.line_names.specs.Lines.{choice_at}
use Rattle.line_tape.specs.declared.events.Event.{Event}
use Rattle.line_tape.specs.declared.events.Event.TheVariants.{Recv}
use Rattle.line_tape.specs.Front.{front}
use Rattle.line_tape.specs.History.{Process, fresh, tape_at}
use Rattle.line_tape.specs.Line.{events_before, IsSentBefore, IsOrphanAmong, AreSentBefore}
use Rattle.line_tape.specs.Line.{IsFoundAmong, IsConsistent}

module _ (history : List Process) (line : List Choice) (seen : List Event) (event : Event) where
  -- one event more, which receives nothing but what is sent before the line
  pub found-sent : (best : Option MsgName)
      → ((message : MsgName) → event ≡ Recv message → IsSentBefore history line message)
      → IsFoundAmong history line seen best → IsFoundAmong history line (seen ++ event ∷ []) best
  found-sent None sent before =
      λ message received. elim (Contains-push_cases seen event (Recv message) received) [
        | inl earlier ↦ before message earlier
        | inr now ↦ sent message now
      ]
  found-sent (Some best) sent before = record {
    received = Contains-append_left seen (event ∷ []) (Recv best) before.received;
    unsent = before.unsent;
  }

  -- the receipt of a message that is not sent before the line
  pub found-orphan : (best : Option MsgName) (message named : MsgName) → event ≡ Recv message
      → (IsSentBefore history line message → ⊥) → (named ≡ message) ⊎ (best ≡ Some named)
      → IsFoundAmong history line seen best → IsOrphanAmong history line (seen ++ event ∷ []) named
  found-orphan best message named is unsent (inl same) before = record {
    received =
        subst (Contains (seen ++ event ∷ [])) (is ∙ ap Recv (sym same)) (Contains-push seen event);
    unsent = λ sent. unsent (subst (IsSentBefore history line) same sent);
  }
  found-orphan best message named is unsent (inr same) before =
      let orphan : IsOrphanAmong history line seen named = subst
      (IsFoundAmong history line seen) same before in
      record {
        received = Contains-append_left seen (event ∷ [])
            (Recv named) orphan.received;
        unsent = orphan.unsent;
      }

-- past the processes of a history nothing happened
pub tape_at-past : (history : List Process) (p : ℕ) → length history ≤ p → tape_at history p ≡ []
tape_at-past history p past =
    ap (λ (process : Process). process.tape) (get_or_past history p fresh past)

-- a tape where nothing happened has empty fronts
pub front-empty : (choice : Choice) → front [] choice ≡ []
front-empty (AtCheck zero) = refl
front-empty (AtCheck (suc c)) = refl
front-empty Now = refl

-- so nothing is received there
pub Contains-past : (history : List Process) (line : List Choice) (q : ℕ) (event : Event)
    → length history ≤ q → Contains (events_before history line q) event → ⊥
Contains-past history line q event past received =
    let none : events_before history line q ≡ [] = ap (λ (tape : List Event). front tape
    (choice_at line q)) (tape_at-past history q past) ∙ front-empty (choice_at line q) in
    contains_nothing (subst (λ (xs : List Event). Contains xs event) none received)
  where
    contains_nothing : Contains [] event → ⊥
    contains_nothing (k, within, at) = absurd (omega arith)

-- it is enough to look at the processes that there are
pub IsConsistent-below : (history : List Process) (line : List Choice) → ((q : ℕ) → q < length
    history → AreSentBefore history line (events_before history line q)) → IsConsistent history line
IsConsistent-below history line each = λ q. elim (cases_lt q (length history)) [
  | inl within ↦ each q within
  | inr past ↦ λ message received. absurd
      (Contains-past history line q (Recv message) past received)
]
