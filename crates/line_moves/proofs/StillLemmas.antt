-- Where only checks stand between two lines, the same was sent and received before both, and the
-- same is in transit at both.
use Rattle.std.proofs.Common.{◌≡◌, ℕ, zero, suc, ◌+◌, ◌<◌, ◌≤◌, not, List, [], ◌∷◌, length, take}
use Rattle.std.proofs.Common.{map, refl, sym, ap, ◌∙◌, subst, arith, inl, inr}
use Rattle.std.specs.Prelude.{◌==◌}
use Rattle.std.specs.List.{filter, list_any}
use Rattle.std.proofs.lemmas.Bool.{cases_lt}
use Rattle.std.proofs.lemmas.List.Elements.{filter_agree}
use Rattle.line_names.specs.declared.choices.Choice.{Choice}
use Rattle.line_names.specs.declared.messages.MsgName.{MsgName}
use Rattle.line_names.specs.Lines.{choice_at}
use Rattle.line_names.specs.Names.{is_name}
use Rattle.line_tape.specs.declared.events.Event.{Event}
use Rattle.line_tape.specs.declared.events.Event.TheVariants.{Send, Recv, Check, Mark}
use Rattle.line_tape.specs.Event.{checks}
use Rattle.line_tape.specs.Front.{front}
use Rattle.line_tape.specs.History.{Process, tape_at}
use Rattle.line_tape.specs.Line.{events_before}
use Rattle.line_tape.specs.Transit.{Letter, in_transit_between, is_open_letter, letters}
use Rattle.line_tape.specs.Transit.{names_received, open_letters}
use Rattle.line_tape.proofs.LineLemmas.{tape_at-past, front-empty}
use Rattle.line_tape.proofs.RowLemmas.{checks_le}

-- among checks alone nothing is sent
none_sent : (p k : ℕ) (es : List Event) → length es ≡ checks es → letters p k es ≡ []
none_sent p k [] all = refl
none_sent p k (Send to inc body ∷ es) all = absurd (omega (arith, all, checks_le es))
none_sent p k (Recv message ∷ es) all = absurd (omega (arith, all, checks_le es))
none_sent p k (Check state round ∷ es) all = none_sent p k es (omega (arith, all))
none_sent p k (Mark from round ∷ es) all = absurd (omega (arith, all, checks_le es))

-- and nothing received
none_received : (es : List Event) → length es ≡ checks es → names_received es ≡ []
none_received [] all = refl
none_received (Send to inc body ∷ es) all = absurd (omega (arith, all, checks_le es))
none_received (Recv message ∷ es) all = absurd (omega (arith, all, checks_le es))
none_received (Check state round ∷ es) all = none_received es (omega (arith, all))
none_received (Mark from round ∷ es) all = absurd (omega (arith, all, checks_le es))

-- so where a longer front has as many more checks as it has more events, it sends the same
pub same_sent : (p k : ℕ) (tape : List Event) (i j : ℕ)
    → length (take i tape) ≤ length (take j tape)
    → length (take j tape) + checks (take i tape) ≡ length (take i tape) + checks (take j tape)
    → letters p k (take i tape) ≡ letters p k (take j tape)
same_sent p k tape zero j longer more = sym (none_sent p k (take j tape) (omega (arith, more)))
same_sent p k [] (suc i) zero longer more = refl
same_sent p k [] (suc i) (suc j) longer more = refl
same_sent p k (e ∷ es) (suc i) zero longer more = absurd (omega (arith, longer))
same_sent p k (Send to inc body ∷ es) (suc i) (suc j) longer more =
    ap (λ (ls : List Letter). record {
      message = record { from = p; inc = inc; number = k };
      to =
          to;
    } ∷ ls) (same_sent p (suc k) es i j (omega (arith, longer)) (omega (arith, more)))
same_sent p k (Recv message ∷ es) (suc i) (suc j) longer more =
    same_sent p k es i j (omega (arith, longer)) (omega (arith, more))
same_sent p k (Check state round ∷ es) (suc i) (suc j) longer more =
    same_sent p k es i j (omega (arith, longer)) (omega (arith, more))
same_sent p k (Mark from round ∷ es) (suc i) (suc j) longer more =
    same_sent p k es i j (omega (arith, longer)) (omega (arith, more))

-- and receives the same
pub same_received : (tape : List Event) (i j : ℕ) → length (take i tape) ≤ length (take j tape)
    → length (take j tape) + checks (take i tape) ≡ length (take i tape) + checks (take j tape)
    → names_received (take i tape) ≡ names_received (take j tape)
same_received tape zero j longer more = sym (none_received (take j tape) (omega (arith, more)))
same_received [] (suc i) zero longer more = refl
same_received [] (suc i) (suc j) longer more = refl
same_received (e ∷ es) (suc i) zero longer more = absurd (omega (arith, longer))
same_received (Send to inc body ∷ es) (suc i) (suc j) longer more =
    same_received es i j (omega (arith, longer)) (omega (arith, more))
same_received (Recv message ∷ es) (suc i) (suc j) longer more = ap (λ (ms : List MsgName). message
    ∷ ms) (same_received es i j (omega (arith, longer)) (omega (arith, more)))
same_received (Check state round ∷ es) (suc i) (suc j) longer more =
    same_received es i j (omega (arith, longer)) (omega (arith, more))
same_received (Mark from round ∷ es) (suc i) (suc j) longer more =
    same_received es i j (omega (arith, longer)) (omega (arith, more))

-- a tape sends and receives the same before two choices
pub record IsStill (tape : List Event) (a b : Choice) : Type 0 where
  pub sent : (p : ℕ) → letters p 0 (front tape a) ≡ letters p 0 (front tape b)
  pub received : names_received (front tape a) ≡ names_received (front tape b)

-- where each does, the same is in transit at both lines
module _ (history : List Process) (a b : List Choice) (still : (q : ℕ) → q < length history
    → IsStill (tape_at history q) (choice_at a q) (choice_at b q)) where
  empty_past : (q : ℕ) (choice : Choice) → length history ≤ q
      → front (tape_at history q) choice ≡ []
  empty_past q choice past = ap (λ (tape : List Event). front tape choice)
      (tape_at-past history q past) ∙ front-empty choice

  still_at : (q : ℕ) → IsStill (tape_at history q) (choice_at a q) (choice_at b q)
  still_at q = elim (cases_lt q (length history)) [
    | inl within ↦ still q within
    | inr past ↦
        let same : front (tape_at history q) (choice_at a q) ≡ front (tape_at history q) (choice_at
        b q) = empty_past q (choice_at a q) past ∙ sym (empty_past q (choice_at b q) past) in
        record { sent = λ p. ap (letters p 0) same; received = ap names_received same }
  ]

  pub still_transit : (p q : ℕ)
      → in_transit_between history a p q ≡ in_transit_between history b p q
  still_transit p q =
      let opened : (letter : Letter)
      → is_open_letter history a letter ≡ is_open_letter history b letter =
      λ letter. ap (λ (ms : List MsgName). not (list_any (is_name letter.message) ms))
      (still_at letter.to).received in
      let same : open_letters history a p ≡ open_letters history b p =
      ap (filter (is_open_letter history a)) ((still_at p).sent p) ∙ filter_agree (is_open_letter
      history a) (is_open_letter history b) opened (letters p 0 (events_before history b p)) in
      ap (λ (ls : List Letter). map (λ (letter : Letter). letter.message)
      (filter (λ (letter : Letter). letter.to == q) ls)) same

-- and so it does where it is the same tape, with the same choices
pub still_as : (tape other : List Event) (a b c d : Choice) → tape ≡ other → a ≡ b → c ≡ d
    → IsStill tape a c → IsStill other b d
still_as tape other a b c d same_tape same_first same_second still =
    subst (λ (t : List Event). IsStill t b d) same_tape
    (subst (λ (v : Choice). IsStill tape v d) same_first (subst (IsStill tape a) same_second still))
