-- What one more event changes of a round of markers.
use Rattle.std.proofs.Common.{◌≡◌, ℕ, zero, suc, ◌+◌, ◌<◌, Bool, true, false, cond, not, List, []}
use Rattle.std.proofs.Common.{◌∷◌, ◌++◌, length, take, drop, get_or, refl, sym, ap, ◌∙◌, subst}
use Rattle.std.proofs.Common.{arith, inl, inr}
use Rattle.std.specs.Prelude.{◌==◌, ◌&&◌, ◌||◌}
use Rattle.std.specs.List.{list_any, list_all, range_with_len, before_first, after_first}
use Rattle.std.specs.List.{position_or_len}
use Rattle.std.proofs.lemmas.Bool.{eq-eqb, ne_eqb, and_parts, and_from, or_cases, or_left, or_right}
use Rattle.std.proofs.lemmas.Bool.{both_ways, cases_eq, cases_lt}
use Rattle.std.proofs.lemmas.List.{append-nil, take-append-le, take_at, take_all, drop-append-le}
use Rattle.std.proofs.lemmas.List.{drop_all, length_push, length-set}
use Rattle.std.proofs.lemmas.List.Elements.{filter_map-append, filter-append}
use Rattle.std.proofs.lemmas.List.Folds.{Any-from_list_any, position_or_len_push}
use Rattle.std.proofs.lemmas.List.Sums.{fails_before_first, passes_at_first, prefix_len-le-length}
use Rattle.line_names.specs.declared.messages.MsgName.{MsgName}
use Rattle.line_tape.specs.declared.events.Event.{Event}
use Rattle.line_tape.specs.History.{Process, tape_at, with_event}
use Rattle.line_tape.specs.Rounds.{is_check_of, is_mark_of, has_check_of, has_mark_of, after_check}
use Rattle.line_tape.specs.Rounds.{is_checked, is_completed_fifo, names_from, channel_on}
use Rattle.line_tape.specs.Transit.{received_name, names_received}
use Rattle.line_tape.proofs.EventLemmas.{tape_same, tape_other}
use Rattle.line_laws.proofs.RoundLemmas.{mark_is}
use Rattle.line_laws.proofs.RoundLines.{all_weaker}
use Rattle.line_tape.proofs.ListLemmas.{any_push}

pub any_at : {X : Type 0} (f : X → Bool) (xs : List X) (i : ℕ) (d : X) → i < length xs
    → f (get_or xs i d) ≡ true → list_any f xs ≡ true
any_at f [] i d l t = absurd (omega arith)
any_at f (x ∷ xs) zero d l t = or_left (f x) (list_any f xs) t
any_at f (x ∷ xs) (suc i) d l t = or_right (f x) (list_any f xs) (any_at f xs i d (omega arith) t)

module _ {X : Type 0} (f : X → Bool) (xs : List X) (y : X) where
  position_in : list_any f xs ≡ true → position_or_len f xs < length xs
  position_in t =
      let a = Any-from_list_any f xs t in
      elim (cases_lt (position_or_len f xs) (length xs)) [
        | inl l ↦ l
        | inr g ↦ absurd (both_ways (f a.1)
            (ap f (sym a.3) ∙ fails_before_first f xs a.0 a.1 (omega (arith, a.2, g))) a.4)
      ]

  position_out : list_any f xs ≡ false → position_or_len f xs ≡ length xs
  position_out t = elim (cases_lt (position_or_len f xs) (length xs)) [
    | inl l ↦ absurd (both_ways (list_any f xs) t
        (any_at f xs (position_or_len f xs) y l (passes_at_first f xs y l)))
    | inr g ↦ omega (arith, g, prefix_len-le-length (λ x. not (f x)) xs)
  ]

  position_push_in : list_any f xs ≡ true → position_or_len f (xs ++ y ∷ []) ≡ position_or_len f xs
  position_push_in t =
      position_or_len_push f xs y
      ∙ ap (λ b. cond b (length xs + cond (f y) 0 1) (position_or_len f xs))
      (ne_eqb (position_or_len f xs) (length xs) (λ e. omega (arith, e, position_in t)))

  position_push_out : list_any f xs ≡ false
      → position_or_len f (xs ++ y ∷ []) ≡ length xs + cond (f y) 0 1
  position_push_out t =
      position_or_len_push f xs y
      ∙ ap (λ b. cond b (length xs + cond (f y) 0 1) (position_or_len f xs))
      (eq-eqb (position_or_len f xs) (length xs) (position_out t))

  -- one that passes was there before: what stands before it stays, and what stands after it grows
  pub before_push_in : list_any f xs ≡ true → before_first f (xs ++ y ∷ []) ≡ before_first f xs
  before_push_in t = ap (λ n. take n (xs ++ y ∷ [])) (position_push_in t) ∙ take-append-le
      (position_or_len f xs) xs (y ∷ []) (omega (arith, position_in t))

  pub after_push_in : list_any f xs ≡ true
      → after_first f (xs ++ y ∷ []) ≡ after_first f xs ++ y ∷ []
  after_push_in t = ap (λ n. drop (n + 1) (xs ++ y ∷ [])) (position_push_in t) ∙ drop-append-le
      (position_or_len f xs + 1) xs (y ∷ []) (omega (arith, position_in t))

  -- none passed: all stands before
  before_out : list_any f xs ≡ false → before_first f xs ≡ xs
  before_out t = ap (λ n. take n xs) (position_out t) ∙ take_all (length xs) xs (omega arith)

  -- and the new one may be the first
  pub before_push_at : list_any f xs ≡ false → f y ≡ true → before_first f (xs ++ y ∷ []) ≡ xs
  before_push_at t at =
      ap (λ n. take n (xs ++ y ∷ [])) (position_push_out t ∙ ap (λ b. length xs + cond b 0 1) at) ∙
      take_at xs (y ∷ []) (length xs + 0) (omega arith)

  pub after_push_at : list_any f xs ≡ false → f y ≡ true → after_first f (xs ++ y ∷ []) ≡ []
  after_push_at t at =
      ap (λ n. drop (n + 1) (xs ++ y ∷ [])) (position_push_out t ∙ ap (λ b. length xs + cond b 0 1)
      at) ∙ drop_all (length xs + 0 + 1) (xs ++ y ∷ []) (omega (arith, length_push xs y))

  before_push_out : list_any f xs ≡ false → f y ≡ false
      → before_first f (xs ++ y ∷ []) ≡ xs ++ y ∷ []
  before_push_out t fails =
      ap (λ n. take n (xs ++ y ∷ [])) (position_push_out t ∙ ap (λ b. length xs + cond b 0 1) fails)
      ∙ take_all (length xs + 1) (xs ++ y ∷ []) (omega (arith, length_push xs y))

-- a tape has a check of a round more
pub has_check_push : (tape : List Event) (e : Event) (r : ℕ)
    → has_check_of r (tape ++ e ∷ []) ≡ (has_check_of r tape || is_check_of r e)
has_check_push tape e r = any_push (is_check_of r) tape e

-- its check opens each channel
pub channel_opened : (tape : List Event) (e : Event) (p r : ℕ) → has_check_of r tape ≡ false
    → is_check_of r e ≡ true
    → (channel_on p r (tape ++ e ∷ []) ≡ []) × (has_mark_of p r (tape ++ e ∷ []) ≡ false)
channel_opened tape e p r none is =
    let nothing : after_check r (tape ++ e ∷ [])
    ≡ [] = after_push_at (is_check_of r) tape e none is in (
      ap (λ (es : List Event). names_from p (names_received (before_first (is_mark_of p r) es)))
          nothing,
      ap (list_any (is_mark_of p r)) nothing,
    )

-- a marker more
pub has_mark_push : (tape : List Event) (e : Event) (p r : ℕ) → has_check_of r tape ≡ true
    → has_mark_of p r (tape ++ e ∷ []) ≡ (has_mark_of p r tape || is_mark_of p r e)
has_mark_push tape e p r t = ap (list_any (is_mark_of p r))
    (after_push_in (is_check_of r) tape e t) ∙ any_push (is_mark_of p r) (after_check r tape) e

-- and a channel grows until its marker is in
pub channel_push : (tape : List Event) (e : Event) (p r : ℕ) → has_check_of r tape ≡ true
    → channel_on p r (tape ++ e ∷ []) ≡ channel_on p r tape
    ++ cond (has_mark_of p r tape) [] (names_from p (names_received (e ∷ [])))
channel_push tape e p r t =
    let mark : Event → Bool = is_mark_of p r in
    let after : List Event = after_check r tape in
    let names : List Event → List MsgName = λ es. names_from p (names_received es) in
    let new : List MsgName = names (e ∷ []) in
    let old : List MsgName = names (before_first mark after) in
    let grown : channel_on p r (tape ++ e ∷ []) ≡ names (before_first mark (after ++ e ∷ [])) =
    ap (λ (es : List Event). names (before_first mark es))
    (after_push_in (is_check_of r) tape e t) in
    grown ∙ elim (list_any mark after) as (λ b. list_any mark after ≡ b
    → names (before_first mark (after ++ e ∷ [])) ≡ old ++ cond b [] new) [
      | true ↦ λ in_it. ap names (before_push_in mark after e in_it) ∙ sym (append-nil old)
      | false ↦ λ out. elim (mark e) as
          (λ b. mark e ≡ b → names (before_first mark (after ++ e ∷ [])) ≡ old ++ new) [
            | true ↦ λ is.
                let none : new ≡ [] = ap (λ (v : Event). names (v ∷ [])) (mark_is p r e is) in
                ap names (before_push_at mark after e out is ∙ sym (before_out mark after e out)) ∙
                sym
                (append-nil old) ∙ ap (λ (v : List MsgName). old ++ v) (sym none)
            | false ↦ λ fails.
                ap names (before_push_out mark after e out fails) ∙ ap (names_from p)
                (filter_map-append received_name after (e ∷ []))
                ∙ filter-append (λ (m : MsgName). m.from == p) (names_received after)
                (names_received (e ∷ []))
                ∙ ap (λ (es : List Event). names es ++ new) (sym (before_out mark after e out))
          ] refl
    ] refl

-- the tape of process q has its check of round r and the markers of n processes
abbrev pub is_closed : ℕ → ℕ → ℕ → List Event → Bool
is_closed n r q tape =
    has_check_of r tape && list_all (λ p. (p == q) || has_mark_of p r tape) (range_with_len 0 n)

closed_push : (n r q : ℕ) (tape : List Event) (e : Event) → is_closed n r q tape ≡ true
    → is_closed n r q (tape ++ e ∷ []) ≡ true
closed_push n r q tape e t =
    let parts = and_parts (has_check_of r tape)
    (list_all (λ p. (p == q) || has_mark_of p r tape) (range_with_len 0 n)) t in
    and_from (has_check_of r (tape ++ e ∷ []))
    (list_all (λ p. (p == q) || has_mark_of p r (tape ++ e ∷ [])) (range_with_len 0 n))
    (has_check_push tape e r ∙ or_left (has_check_of r tape) (is_check_of r e) parts.0)
    (all_weaker (λ p. (p == q) || has_mark_of p r tape) (λ p. (p == q) || has_mark_of p r
    (tape ++ e ∷ [])) 0 n (λ p has. elim (or_cases (p == q) (has_mark_of p r tape) has) [
      | inl a ↦ or_left (p == q) (has_mark_of p r (tape ++ e ∷ [])) a
      | inr b ↦ or_right (p == q) (has_mark_of p r (tape ++ e ∷ []))
          (has_mark_push tape e p r parts.0 ∙ or_left (has_mark_of p r tape) (is_mark_of p r e) b)
    ]) parts.1)

-- a round that is on every tape stays so
pub checked_event : (history : List Process) (at : ℕ) (e : Event) (r : ℕ) → at < length history
    → is_checked history r ≡ true → is_checked (with_event history at e) r ≡ true
checked_event history at e r h t =
    let new : List Process = with_event history at e in
    subst (λ (n : ℕ). list_all (λ q. has_check_of r (tape_at new q)) (range_with_len 0 n) ≡ true)
    (sym (length-set history at _))
    (all_weaker (λ q. has_check_of r (tape_at history q)) (λ q. has_check_of r (tape_at new q)) 0
    (length history) (λ q has. elim (cases_eq q at) [
      | inl same ↦ ap (has_check_of r) (tape_same history at e q h same) ∙ has_check_push (tape_at
          history q) e r ∙ or_left (has_check_of r (tape_at history q)) (is_check_of r e) has
      | inr other ↦ ap (has_check_of r) (tape_other history at e q other) ∙ has
    ]) t)

-- and a completed one stays completed
pub completed_event : (history : List Process) (at : ℕ) (e : Event) (r : ℕ) → at < length history
    → is_completed_fifo history r ≡ true → is_completed_fifo (with_event history at e) r ≡ true
completed_event history at e r h t =
    let new : List Process = with_event history at e in
    subst (λ (n : ℕ). list_all (λ q. is_closed n r q (tape_at new q)) (range_with_len 0 n) ≡ true)
    (sym (length-set history at _))
    (all_weaker (λ q. is_closed (length history) r q (tape_at history q)) (λ q. is_closed
    (length history) r q (tape_at new q)) 0 (length history) (λ q closed. elim (cases_eq q at) [
      | inl same ↦ ap (is_closed (length history) r q) (tape_same history at e q h same) ∙
          closed_push (length history) r q (tape_at history q) e closed
      | inr other ↦ ap (is_closed (length history) r q) (tape_other history at e q other) ∙ closed
    ]) t)
