-- When a round is on every tape or completed, which events change nothing of that, and what its
-- markers and checks say.
use Rattle.std.proofs.Common.{◌≡◌, ℕ, zero, suc, ◌+◌, ◌<◌, ◌≤◌, Bool, true, false, List, [], ◌∷◌}
use Rattle.std.proofs.Common.{◌++◌, length, take, drop, Some, None, refl, sym, ap, ◌∙◌, arith, inl}
use Rattle.std.proofs.Common.{inr}
use Rattle.std.specs.Prelude.{◌==◌, ◌&&◌, ◌||◌}
use Rattle.std.specs.List.{list_any, list_all, range_with_len, Contains}
use Rattle.std.proofs.lemmas.Bool.{eqb-true, eq-eqb, and_parts, and_from, or_cases, or_left}
use Rattle.std.proofs.lemmas.Bool.{or_right, both_ways, cases_eq, false_from_ne_true}
use Rattle.std.proofs.lemmas.List.{take-append-drop, length-set}
use Rattle.std.proofs.lemmas.List.Elements.{Contains-append_right}
use Rattle.std.proofs.lemmas.List.Folds.{list_any-append}
use Rattle.line_names.specs.declared.choices.Choice.{Choice}
use Rattle.line_tape.specs.declared.events.Event.{Event}
use Rattle.line_tape.specs.declared.events.Event.TheVariants.{Send, Recv, Check, Mark}
use Rattle.line_tape.specs.declared.items.Item.{Item}
use Rattle.line_tape.specs.declared.items.Item.TheVariants.{Marker}
use Rattle.line_tape.specs.Event.{checks}
use Rattle.line_tape.specs.Fit.{sent_between, received_from, link}
use Rattle.line_tape.specs.History.{Process, tape_at, with_event}
use Rattle.line_tape.specs.Line.{events_before}
use Rattle.line_tape.specs.Restart.{restarted_history, restarted_event}
use Rattle.line_tape.specs.Rounds.{checked_round, rounds_checked, is_check_of, is_mark_of}
use Rattle.line_tape.specs.Rounds.{has_check_of, has_mark_of, check_index, is_checked, is_closed_at}
use Rattle.line_tape.specs.Rounds.{is_completed_fifo}
use Rattle.std.specs.List.{filter_map}
use Rattle.line_tape.proofs.ListLemmas.{or-false}
use Rattle.line_laws.proofs.GrowthLemmas.{any_at, before_push_in, before_push_at, has_check_push}
use Rattle.line_laws.proofs.GrowthLemmas.{has_mark_push, is_closed}
use Rattle.line_tape.proofs.StayLemmas.{tape_restarted}
use Rattle.line_laws.proofs.LinkLemmas.{no_rounds}
use Rattle.line_tape.proofs.EventLemmas.{tape_same, tape_other}
use Rattle.line_laws.proofs.RoundLemmas.{is_marker, sent_lacks}
use Rattle.line_laws.proofs.RoundLines.{in_range, checked_has}

-- a test that passes at each number of a range
pub all_range : (f : ℕ → Bool) (a n : ℕ) → ((v : ℕ) → a ≤ v → v < a + n → f v ≡ true)
    → list_all f (range_with_len a n) ≡ true
all_range f a zero h = refl
all_range f a (suc n) h = and_from (f a) (list_all f (range_with_len (a + 1) n)) (h a (omega arith)
    (omega arith)) (all_range f (a + 1) n (λ v l k. h v (omega (arith, l)) (omega (arith, k))))

-- two tests that agree
pub all_same : (f g : ℕ → Bool) (a n : ℕ) → ((v : ℕ) → f v ≡ g v)
    → list_all f (range_with_len a n) ≡ list_all g (range_with_len a n)
all_same f g a zero e = refl
all_same f g a (suc n) e = ap (λ b. b && list_all f (range_with_len (a + 1) n)) (e a) ∙ ap
    (λ b. g a && b) (all_same f g (a + 1) n e)

-- a round is on every tape where each tape has its check
pub checked_from : (history : List Process) (r : ℕ) → ((q : ℕ) → q < length history
    → has_check_of r (tape_at history q) ≡ true) → is_checked history r ≡ true
checked_from history r h = all_range (λ q. has_check_of r (tape_at history q)) 0 (length history)
    (λ q l k. h q (omega (arith, k)))

-- a tape is closed in a round where it has its check and each other process's marker
pub closed_parts : (history : List Process) (r q : ℕ) → is_closed_at history r q ≡ true
    → (has_check_of r (tape_at history q) ≡ true)
    × ((p : ℕ) → p < length history → (p ≡ q → ⊥) → has_mark_of p r (tape_at history q) ≡ true)
closed_parts history r q t =
    let tape : List Event = tape_at history q in
    let marked : ℕ → Bool = λ p. (p == q) || has_mark_of p r tape in
    let parts = and_parts (has_check_of r tape)
    (list_all marked (range_with_len 0 (length history))) t in (
      parts.0,
      λ p within other. elim (or_cases (p == q) (has_mark_of p r tape)
          (in_range marked 0 (length history) p parts.1 (omega arith) (omega (arith, within)))) [
            | inl same ↦ absurd (other (eqb-true p q same))
            | inr mark ↦ mark
          ],
    )

pub closed_from : (history : List Process) (r q : ℕ) → has_check_of r (tape_at history q) ≡ true
    → ((p : ℕ) → p < length history → (p ≡ q → ⊥) → has_mark_of p r (tape_at history q) ≡ true)
    → is_closed_at history r q ≡ true
closed_from history r q has marks =
    let tape : List Event = tape_at history q in
    let marked : ℕ → Bool = λ p. (p == q) || has_mark_of p r tape in
    and_from (has_check_of r tape) (list_all marked (range_with_len 0 (length history))) has
    (all_range marked 0 (length history) (λ p l k. elim (cases_eq p q) [
      | inl same ↦ or_left (p == q) (has_mark_of p r tape) (eq-eqb p q same)
      | inr other ↦ or_right (p == q) (has_mark_of p r tape) (marks p (omega (arith, k)) other)
    ]))

-- a round of markers is completed where each tape is closed in it
pub completed_closed : (history : List Process) (r q : ℕ) → is_completed_fifo history r ≡ true
    → q < length history → is_closed_at history r q ≡ true
completed_closed history r q t h =
    in_range (is_closed_at history r) 0 (length history) q t (omega arith) (omega arith)

pub completed_from : (history : List Process) (r : ℕ) → ((q : ℕ) → q < length history
    → is_closed_at history r q ≡ true) → is_completed_fifo history r ≡ true
completed_from history r h =
    all_range (is_closed_at history r) 0 (length history) (λ q l k. h q (omega (arith, k)))

-- an event that is no check of a round leaves the tape's check as it is
pub check_stays : (tape : List Event) (e : Event) (r : ℕ) → is_check_of r e ≡ false
    → has_check_of r (tape ++ e ∷ []) ≡ has_check_of r tape
check_stays tape e r none = has_check_push tape e r ∙ ap
    (λ b. has_check_of r tape || b) none ∙ or-false (has_check_of r tape)

-- and one that is no marker of it either, whether the tape is closed
pub closed_idle : (n r q : ℕ) (tape : List Event) (e : Event) → is_check_of r e ≡ false
    → ((p : ℕ) → is_mark_of p r e ≡ false) → is_closed n r q (tape ++ e ∷ []) ≡ is_closed n r q tape
closed_idle n r q tape e none unmarked =
    let marked : List Event
    → Bool = λ es. list_all (λ p. (p == q) || has_mark_of p r es) (range_with_len 0 n) in
    ap (λ b. b && marked (tape ++ e ∷ [])) (check_stays tape e r none)
    ∙ elim (has_check_of r tape) as
    (λ b. has_check_of r tape ≡ b → (b && marked (tape ++ e ∷ [])) ≡ (b && marked tape)) [
      | true ↦ λ has. all_same (λ p. (p == q) || has_mark_of p r (tape ++ e ∷ []))
          (λ p. (p == q) || has_mark_of p r tape) 0 n
          (λ p. ap (λ b. (p == q) || b) (has_mark_push tape e p r has ∙ ap
          (λ b. has_mark_of p r tape || b) (unmarked p) ∙ or-false (has_mark_of p r tape)))
      | false ↦ λ out. refl
    ] refl

module _ (history : List Process) (at : ℕ) (e : Event) (r : ℕ) (h : at < length history)
    (none : is_check_of r e ≡ false) where
  -- an event that is no check of a round changes nothing of its being on every tape
  pub checked_idle : is_checked (with_event history at e) r ≡ is_checked history r
  checked_idle =
      let new : List Process = with_event history at e in
      ap (λ (n : ℕ). list_all (λ q. has_check_of r (tape_at new q)) (range_with_len 0 n))
      (length-set history at _)
      ∙ all_same (λ q. has_check_of r (tape_at new q)) (λ q. has_check_of r (tape_at history q)) 0
      (length history) (λ q. elim (cases_eq q at) [
        | inl same ↦ ap (has_check_of r) (tape_same history at e q h same) ∙ check_stays
            (tape_at history q) e r none
        | inr other ↦ ap (has_check_of r) (tape_other history at e q other)
      ])

  -- and one that is no marker of it either, of its being completed
  pub completed_idle : ((p : ℕ) → is_mark_of p r e ≡ false)
      → is_completed_fifo (with_event history at e) r ≡ is_completed_fifo history r
  completed_idle unmarked =
      let new : List Process = with_event history at e in
      let n : ℕ = length history in
      ap (λ (v : ℕ). list_all (λ q. is_closed v r q (tape_at new q)) (range_with_len 0 v))
      (length-set history at _)
      ∙ all_same (λ q. is_closed n r q (tape_at new q))
      (λ q. is_closed n r q (tape_at history q)) 0 n (λ q. elim (cases_eq q at) [
        | inl same ↦ ap (is_closed n r q) (tape_same history at e q h same) ∙ closed_idle n r q
            (tape_at history q) e none unmarked
        | inr other ↦ ap (is_closed n r q) (tape_other history at e q other)
      ])

module _ (history : List Process) (at : ℕ) (e : Event) (r : ℕ) (h : at < length history) where
  -- by its last check a round is on every tape
  pub checked_last : is_check_of r e ≡ true → ((q : ℕ) → q < length history → (q ≡ at → ⊥)
      → has_check_of r (tape_at history q) ≡ true) → is_checked (with_event history at e) r ≡ true
  checked_last is others =
      checked_from (with_event history at e) r (λ q within. elim (cases_eq q at) [
        | inl same ↦ ap (has_check_of r) (tape_same history at e q h same) ∙ has_check_push
            (tape_at history q) e r ∙ or_right (has_check_of r (tape_at history q))
            (is_check_of r e) is
        | inr other ↦
            let long : length (with_event history at e)
            ≡ length history = length-set history at _ in
            ap (has_check_of r) (tape_other history at e q other) ∙ others q
            (omega (arith, within, long)) other
      ])

  -- and not before
  pub checked_lacks : (q : ℕ) → q < length history → (q ≡ at → ⊥)
      → has_check_of r (tape_at history q) ≡ false → is_checked (with_event history at e) r ≡ false
  checked_lacks q within other none =
      false_from_ne_true (is_checked (with_event history at e) r) (λ done.
      let long : length (with_event history at e) ≡ length history = length-set history at _ in
      both_ways (has_check_of r (tape_at history q)) none
      (ap (has_check_of r) (sym (tape_other history at e q other)) ∙ checked_has
      (with_event history at e) r q done (omega (arith, within, long))))

-- a round that a tape has a check of is among the rounds of its checks
pub contains_round : (tape : List Event) (r : ℕ) → has_check_of r tape ≡ true
    → Contains (rounds_checked tape) r
contains_round [] r t = absurd (cc)
contains_round (Send to inc body ∷ es) r t = contains_round es r t
contains_round (Recv m ∷ es) r t = contains_round es r t
contains_round (Check state None ∷ es) r t = contains_round es r t
contains_round (Check state (Some s) ∷ es) r t = elim (or_cases (s == r) (has_check_of r es) t) [
  | inl a ↦ (0, omega arith, eqb-true s r a)
  | inr b ↦ Contains-append_right (s ∷ []) (rounds_checked es) r (contains_round es r b)
]
contains_round (Mark from s ∷ es) r t = contains_round es r t

-- a marker on a link is of a round that its sender has checked
pub marker_checked : (history : List Process) (p q r : ℕ) → Contains (link history p q) (Marker r)
    → has_check_of r (tape_at history p) ≡ true
marker_checked history p q r (k, l, e) =
    let items : List Item = sent_between history p q in
    let n : ℕ = length (received_from history q p) in
    let held : list_any (is_marker r) (drop n items) ≡ true = any_at (is_marker r) (drop n items) k
    (Marker r) l (ap (is_marker r) e ∙ eq-eqb r r refl) in
    let among : list_any (is_marker r) items ≡ true =
    ap (list_any (is_marker r)) (sym (take-append-drop n items)) ∙ list_any-append (is_marker r)
    (take n items) (drop n items) ∙ or_right (list_any (is_marker r) (take n items))
    (list_any (is_marker r) (drop n items)) held in
    elim (has_check_of r (tape_at history p)) as
    (λ b. has_check_of r (tape_at history p) ≡ b → b ≡ true) [
      | true ↦ λ has. refl
      | false ↦ λ none. absurd (both_ways (list_any (is_marker r) items)
          (sent_lacks r p q 0 (tape_at history p) none) among)
    ] refl

-- further events leave a check of a round where it is
pub check_of_push : (tape : List Event) (e : Event) (r : ℕ) → has_check_of r tape ≡ true
    → check_index r (tape ++ e ∷ []) ≡ check_index r tape
check_of_push tape e r has =
    ap (λ (es : List Event). suc (checks es)) (before_push_in (is_check_of r) tape e has)

-- and a new check of a round comes after the checks that there are
pub check_of_new : (tape : List Event) (e : Event) (r : ℕ) → has_check_of r tape ≡ false
    → is_check_of r e ≡ true → check_index r (tape ++ e ∷ []) ≡ suc (checks tape)
check_of_new tape e r none is =
    ap (λ (es : List Event). suc (checks es)) (before_push_at (is_check_of r) tape e none is)

-- an event that is no check of a round is a check of none
pub unchecked : (e : Event) (r : ℕ) → checked_round e ≡ None → is_check_of r e ≡ false
unchecked (Send to inc body) r none = refl
unchecked (Recv m) r none = refl
unchecked (Check state None) r none = refl
unchecked (Check state (Some s)) r none = absurd (cc)
unchecked (Mark from s) r none = refl

-- a restart leaves no check of a round
pub no_check_left : (r : ℕ) (es : List Event)
    → list_any (is_check_of r) (filter_map restarted_event es) ≡ false
no_check_left r [] = refl
no_check_left r (Send to inc body ∷ es) = no_check_left r es
no_check_left r (Recv m ∷ es) = no_check_left r es
no_check_left r (Check state s ∷ es) = no_check_left r es
no_check_left r (Mark from s ∷ es) = no_check_left r es

pub no_check_restarted : (history : List Process) (line : List Choice) (r p : ℕ) → length line
    ≡ length history → has_check_of r (tape_at (restarted_history history line) p) ≡ false
no_check_restarted history line r p e = ap (has_check_of r)
    (tape_restarted history line p e) ∙ no_check_left r (events_before history line p)

pub no_rounds_restarted : (history : List Process) (line : List Choice) (p : ℕ) → length line
    ≡ length history → rounds_checked (tape_at (restarted_history history line) p) ≡ []
no_rounds_restarted history line p e =
    ap rounds_checked (tape_restarted history line p e) ∙ no_rounds (events_before history line p)

-- nor a marker on a link
pub no_marker_restarted : (history : List Process) (line : List Choice) (p q r : ℕ) → length line
    ≡ length history → Contains (link (restarted_history history line) p q) (Marker r) → ⊥
no_marker_restarted history line p q r e on =
    both_ways (has_check_of r (tape_at (restarted_history history line) p)) (no_check_restarted
    history line r p e) (marker_checked (restarted_history history line) p q r on)
