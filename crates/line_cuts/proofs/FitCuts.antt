-- A history that is cut where no round is open fits links that keep their order.
use Rattle.std.proofs.Common.{◌≡◌, ℕ, zero, suc, ◌<◌, ◌≤◌, true, false, cond, List, [], ◌∷◌, Some}
use Rattle.std.proofs.Common.{None, refl, sym, ap, ◌∙◌, subst, arith, inl, inr}
use Rattle.std.specs.Prelude.{nat_le, nat_lt}
use Rattle.std.specs.List.{All, Contains, slice_get}
use Rattle.std.proofs.lemmas.Bool.{ltb-true}
use Rattle.std.proofs.lemmas.List.Elements.{All-head, All-tail, Contains-append_left}
use Rattle.std.proofs.lemmas.List.Elements.{Contains-append_right, Contains-push}
use Rattle.line_tape.specs.declared.events.Event.{Event}
use Rattle.line_tape.specs.declared.events.Event.TheVariants.{Send, Recv, Check, Mark}
use Rattle.line_tape.specs.Fit.{AreDistinct, IsFitFifo}
use Rattle.line_tape.specs.History.{Process, tape_at}
use Rattle.line_tape.specs.Rounds.{rounds_checked}
use Rattle.line_tape.proofs.CutLemmas.{cons_cases, contains_nothing}
use Rattle.line_cuts.specs.Cuts.{Floor, HasOldRounds, lost_sends, floor_check, is_left, cut_name}
use Rattle.line_cuts.specs.Cuts.{cut_round, cut_events, cut_history}
use Rattle.line_cuts.proofs.ConsistentCuts.{tape_cut}
use Rattle.line_cuts.proofs.LinkCuts.{order_cut}

module _ (floor : Floor) (p : ℕ) where
  abbrev older : ℕ → Type 0
  older round = round ≤ floor.round

  round_gone : (round : ℕ) → round ≤ floor.round → cut_round floor.round (Some round) ≡ None
  round_gone round h = elim (nat_lt floor.round round) as
      (λ b. b ≡ nat_lt floor.round round → cond b (Some round) None ≡ None) [
        | true ↦ λ e. let later : floor.round < round =
            ltb-true floor.round round (sym e) in absurd (omega arith)
        | false ↦ λ e. refl
      ] refl

  -- of checks of old rounds no round is left
  pub rounds_gone : (k skip : ℕ) (es : List Event) → All older (rounds_checked es)
      → rounds_checked (cut_events floor p k skip es) ≡ []
  rounds_gone k skip [] old = refl
  rounds_gone k skip (Send to inc body ∷ es) old =
      elim (nat_le (lost_sends floor p) k) as (λ b. rounds_checked (cond b (Send to inc body
      ∷ cut_events floor p (suc k) skip es) (cut_events floor p (suc k) skip es)) ≡ []) [
        | true ↦ rounds_gone (suc k) skip es old
        | false ↦ rounds_gone (suc k) skip es old
      ]
  rounds_gone k skip (Recv m ∷ es) old =
      elim (is_left floor m) as (λ b. rounds_checked (cond b (Recv (cut_name floor m)
      ∷ cut_events floor p k skip es) (cut_events floor p k skip es)) ≡ []) [
        | true ↦ rounds_gone k skip es old
        | false ↦ rounds_gone k skip es old
      ]
  rounds_gone k zero (Check state None ∷ es) old = rounds_gone k zero es old
  rounds_gone k (suc zero) (Check state None ∷ es) old = rounds_gone k zero es old
  rounds_gone k (suc (suc skip)) (Check state None ∷ es) old = rounds_gone k (suc skip) es old
  rounds_gone k zero (Check state (Some round) ∷ es) old =
      ap (λ o. rounds_checked (Check state o ∷ cut_events floor p k zero es))
      (round_gone round (All-head older round (rounds_checked es) old)) ∙ rounds_gone k zero es
      (All-tail older round (rounds_checked es) old)
  rounds_gone k (suc zero) (Check state (Some round) ∷ es) old =
      ap (λ o. rounds_checked (Check state o ∷ cut_events floor p k zero es))
      (round_gone round (All-head older round (rounds_checked es) old)) ∙ rounds_gone k zero es
      (All-tail older round (rounds_checked es) old)
  rounds_gone k (suc (suc skip)) (Check state (Some round) ∷ es) old =
      rounds_gone k (suc skip) es (All-tail older round (rounds_checked es) old)
  rounds_gone k skip (Mark from round ∷ es) old =
      elim (nat_lt floor.round round) as (λ b. rounds_checked (cond b
      (Mark from round ∷ cut_events floor p k skip es) (cut_events floor p k skip es)) ≡ []) [
        | true ↦ rounds_gone k skip es old
        | false ↦ rounds_gone k skip es old
      ]

  -- the marks of the events are of old rounds
  abbrev pub HaveOldMarks : List Event → Type 0
  HaveOldMarks es = (from round : ℕ) → Contains es (Mark from round) → round ≤ floor.round

  tail_in : (x : Event) (xs : List Event) (y : Event) → Contains xs y → Contains (x ∷ xs) y
  tail_in x xs y c = Contains-append_right (x ∷ []) xs y c

  marks_later : (x : Event) (es : List Event) → HaveOldMarks (x ∷ es) → HaveOldMarks es
  marks_later x es old from round c = old from round (tail_in x es (Mark from round) c)

  -- and then none is left
  skip_other : (x : Event) (xs : List Event) (from round : ℕ) → (x ≡ Mark from round → ⊥)
      → (Contains xs (Mark from round) → ⊥) → Contains (x ∷ xs) (Mark from round) → ⊥
  skip_other x xs from round other none c =
      elim (cons_cases x xs (Mark from round) c) [ inl e ↦ other e | inr d ↦ none d ]

  pub marks_gone : (k skip : ℕ) (es : List Event) → HaveOldMarks es → (from round : ℕ)
      → Contains (cut_events floor p k skip es) (Mark from round) → ⊥
  marks_gone k skip [] old from round c = contains_nothing (Mark from round) c
  marks_gone k skip (Send to inc body ∷ es) old from round c =
      let none = marks_gone (suc k) skip es (marks_later (Send to inc body) es old) from round in
      elim (nat_le (lost_sends floor p) k) as (λ b. Contains (cond b (Send to inc body ∷ cut_events
      floor p (suc k) skip es) (cut_events floor p (suc k) skip es)) (Mark from round) → ⊥) [
        | true ↦ skip_other (Send to inc body) (cut_events floor p (suc k) skip es) from round
            (λ e. cc) none
        | false ↦ none
      ] c
  marks_gone k skip (Recv m ∷ es) old from round c =
      let none = marks_gone k skip es (marks_later (Recv m) es old) from round in
      elim (is_left floor m) as (λ b. Contains (cond b (Recv (cut_name floor m)
      ∷ cut_events floor p k skip es) (cut_events floor p k skip es)) (Mark from round) → ⊥) [
        | true ↦ skip_other (Recv (cut_name floor m)) (cut_events floor p k skip es) from round
            (λ e. cc) none
        | false ↦ none
      ] c
  marks_gone k zero (Check state r ∷ es) old from round c = skip_other
      (Check state (cut_round floor.round r)) (cut_events floor p k zero es) from round (λ e. cc)
      (marks_gone k zero es (marks_later (Check state r) es old) from round) c
  marks_gone k (suc zero) (Check state r ∷ es) old from round c = skip_other
      (Check state (cut_round floor.round r)) (cut_events floor p k zero es) from round (λ e. cc)
      (marks_gone k zero es (marks_later (Check state r) es old) from round) c
  marks_gone k (suc (suc skip)) (Check state r ∷ es) old from round c =
      marks_gone k (suc skip) es (marks_later (Check state r) es old) from round c
  marks_gone k skip (Mark by r ∷ es) old from round c =
      let none = marks_gone k skip es (marks_later (Mark by r) es old) from round in
      let low : r ≤ floor.round = old by r
      (Contains-append_left (Mark by r ∷ []) es (Mark by r) (Contains-push [] (Mark by r))) in
      elim (nat_lt floor.round r) as (λ b. b ≡ nat_lt floor.round r → Contains (cond b (Mark by r
      ∷ cut_events floor p k skip es) (cut_events floor p k skip es)) (Mark from round) → ⊥) [
        | true ↦ λ e d. let later : floor.round < r =
            ltb-true floor.round r (sym e) in absurd (omega arith)
        | false ↦ λ e d. none d
      ] refl c

-- an element at a place is one of the list
get_in : (es : List Event) (i : ℕ) (e : Event) → slice_get es i ≡ Some e → Contains es e
get_in [] i e at = absurd (cc)
get_in (x ∷ es) zero e at =
    let same : x ≡ e = cc at in
    subst (Contains (x ∷ es)) same (Contains-append_left (x ∷ []) es x (Contains-push [] x))
get_in (x ∷ es) (suc i) e at = Contains-append_right (x ∷ []) es e (get_in es i e at)

no_pairs : {X : Type 0} (xs : List X) → xs ≡ [] → AreDistinct xs
no_pairs {X} xs e = subst (λ (v : List X). AreDistinct v) (sym e)
    (λ i j d l within. absurd (omega arith))

-- where all rounds are old, none is left
pub rounds_cut : (floor : Floor) (history : List Process)
    → ((p : ℕ) → All (λ round. round ≤ floor.round) (rounds_checked (tape_at history p))) → (p : ℕ)
    → rounds_checked (tape_at (cut_history floor history) p) ≡ []
rounds_cut floor history rounds p = ap rounds_checked (tape_cut floor history p) ∙ rounds_gone floor
    p 0 (floor_check floor p) (tape_at history p) (rounds p)

-- where all rounds and marks are old, what is left fits
pub fit_cut : (floor : Floor) (history : List Process) → IsFitFifo history
    → HasOldRounds history floor
    → ((p : ℕ) → All (λ round. round ≤ floor.round) (rounds_checked (tape_at history p)))
    → ((p : ℕ) → HaveOldMarks floor p (tape_at history p))
    → IsFitFifo (cut_history floor history)
fit_cut floor history fit before rounds marks = record {
  order = λ p q. order_cut floor history before fit p q;
  rounds = λ p. no_pairs (rounds_checked (tape_at (cut_history floor history) p))
      (rounds_cut floor history rounds p);
  marks = λ p i from round at. absurd
      (marks_gone floor p 0 (floor_check floor p) (tape_at history p) (marks p) from round
      (subst (λ (es : List Event). Contains es (Mark from round)) (tape_cut floor history p)
      (get_in (tape_at (cut_history floor history) p) i (Mark from round) at)));
}
