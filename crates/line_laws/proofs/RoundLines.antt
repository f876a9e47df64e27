-- The line of a completed round of markers is consistent.
use Rattle.std.proofs.Common.{◌≡◌, ℕ, zero, suc, ◌+◌, ◌<◌, ◌≤◌, Bool, true, false, cond, List, []}
use Rattle.std.proofs.Common.{◌∷◌, ◌++◌, length, map, get_or, Some, None, refl, sym, ap, ◌∙◌, subst}
use Rattle.std.proofs.Common.{arith, inl, inr}
use Rattle.std.specs.Prelude.{◌==◌, ◌||◌}
use Rattle.std.specs.List.{filter_map, list_any, list_all, Contains, slice_get, before_first}
use Rattle.std.specs.List.{range_with_len}
use Rattle.std.proofs.lemmas.List.{append_assoc, append-nil, get_or_past, get_or-map, length-map}
use Rattle.std.proofs.lemmas.List.FromFn.{length-range_with_len}
use Rattle.std.proofs.lemmas.List.Elements.{filter_map-append}
use Rattle.std.proofs.lemmas.Bool.{eqb-true, and_parts, and_from, or_cases, cases_lt}
use Rattle.line_names.specs.declared.messages.MsgName.{MsgName}
use Rattle.line_names.specs.declared.choices.Choice.{Choice}
use Rattle.line_names.specs.declared.choices.Choice.TheVariants.{Check as AtCheck}
use Rattle.line_names.specs.Lines.{choice_at}
use Rattle.line_tape.specs.declared.events.Event.{Event}
use Rattle.line_tape.specs.declared.events.Event.TheVariants.{Send, Recv, Check, Mark}
use Rattle.line_tape.specs.declared.items.Item.{Item}
use Rattle.line_tape.specs.declared.items.Item.TheVariants.{Message, Marker}
use Rattle.line_tape.specs.Event.{is_check, checks, incarnations_sent}
use Rattle.line_tape.specs.Front.{front, HasChoice}
use Rattle.line_tape.specs.History.{Process, tape_at}
use Rattle.line_tape.specs.Line.{IsLine, IsConsistent}
use Rattle.line_tape.specs.Rounds.{is_check_of, is_mark_of, has_check_of, check_index, is_checked}
use Rattle.line_tape.specs.Rounds.{checks_of, after_check, is_closed_at, is_completed_fifo}
use Rattle.line_tape.specs.Rounds.{round_line, channel_fifo, IsSnapshot}
use Rattle.line_tape.specs.Fit.{items_sent, item_received, sent_between, link, IsFitFifo}
use Rattle.line_laws.proofs.SentLemmas.{messages, item_message, In, In-append_left, in_received}
use Rattle.line_tape.proofs.EventLemmas.{name_of}
use Rattle.line_laws.proofs.RoundLemmas.{split_first, check_is, sent_to_check, received_to_check}
use Rattle.line_laws.proofs.RoundLemmas.{channel_follows, short_of_marker}
use Rattle.line_laws.proofs.LinkLemmas.{transit_is}
use Rattle.line_laws.proofs.OrderLemmas.{receipt_in}

pub in_range : (f : ℕ → Bool) (a n p : ℕ) → list_all f (range_with_len a n) ≡ true → a ≤ p
    → p < a + n → f p ≡ true
in_range f a zero p t l h = absurd (omega arith)
in_range f a (suc n) p t l h =
    let x = and_parts (f a) (list_all f (range_with_len (a + 1) n)) t in
    elim (cases_lt p (a + 1)) [
      | inl k ↦ let same : a ≡ p = omega arith in subst (λ (v : ℕ). f v ≡ true) same x.0
      | inr k ↦ in_range f (a + 1) n p x.1 k (omega arith)
    ]

pub get_range : {X : Type 0} (f : ℕ → X) (a n p : ℕ) (d : X) → p < n
    → get_or (map f (range_with_len a n)) p d ≡ f (a + p)
get_range f a zero p d h = absurd (omega arith)
get_range f a (suc n) zero d h = ap f (omega arith)
get_range f a (suc n) (suc p) d h = get_range f (a + 1) n p d (omega arith) ∙ ap f (omega arith)

-- the choice of a process in the line of a round
pub round_choice : (history : List Process) (r p : ℕ) → p < length history
    → choice_at (round_line history r) p ≡ AtCheck (check_index r (tape_at history p))
round_choice history r p h =
    let within : p < length (checks_of history r) = omega (
      arith,
      length-map (range_with_len 0 (length history))
          (λ q. check_index r (tape_at history q)),
      length-range_with_len 0 (length history),
    ) in
    get_or-map (λ c. AtCheck c) (checks_of history r) p 0 (AtCheck 0) within
    ∙ ap (λ c. AtCheck c)
    (get_range (λ q. check_index r (tape_at history q)) 0 (length history) p 0 h)
    ∙ ap (λ v. AtCheck (check_index r (tape_at history v))) (omega arith)

-- each tape has its check of a round that is on every tape
pub checked_has : (history : List Process) (r q : ℕ) → is_checked history r ≡ true
    → q < length history → has_check_of r (tape_at history q) ≡ true
checked_has history r q t h = in_range (λ v. has_check_of r (tape_at history v)) 0
    (length history) q t (omega arith) (omega arith)

pub all_weaker : (f g : ℕ → Bool) (a n : ℕ) → ((v : ℕ) → f v ≡ true → g v ≡ true)
    → list_all f (range_with_len a n) ≡ true → list_all g (range_with_len a n) ≡ true
all_weaker f g a zero w t = refl
all_weaker f g a (suc n) w t =
    let x = and_parts _ _ t in and_from _ _ (w a x.0) (all_weaker f g (a + 1) n w x.1)

-- a completed round is on every tape
pub completed_checked : (history : List Process) (r : ℕ) → is_completed_fifo history r ≡ true
    → is_checked history r ≡ true
completed_checked history r t = all_weaker (is_closed_at history r)
    (λ q. has_check_of r (tape_at history q)) 0 (length history) (λ v c. (and_parts _ _ c).0) t

-- a list's checks are those of its parts
pub checks-append : (xs ys : List Event) → checks (xs ++ ys) ≡ checks xs + checks ys
checks-append [] ys = omega arith
checks-append (x ∷ xs) ys =
    let ih = checks-append xs ys in
    elim (is_check x) as (λ b. cond b (suc (checks (xs ++ ys))) (checks (xs ++ ys)) ≡ cond b
    (suc (checks xs)) (checks xs) + checks ys) [ true ↦ omega (arith, ih) | false ↦ ih ]

-- the tape has its check of a round that is on it
pub check_of_within : (tape : List Event) (r : ℕ) → has_check_of r tape ≡ true
    → check_index r tape ≤ checks tape
check_of_within tape r t =
    let before : List Event = before_first (is_check_of r) tape in
    let after : List Event = after_check r tape in
    let s = split_first (is_check_of r) tape t in
    let c = check_is r s.0 s.1 in
    let split : tape ≡ before
    ++ (Check c.0 (Some r) ∷ after) = s.2 ∙ ap (λ (v : Event). before ++ (v ∷ after)) c.1 in
    let count : checks tape ≡ checks before + suc
    (checks after) = ap checks split ∙ checks-append before (Check c.0 (Some r) ∷ after) in
    omega (arith, count)

-- past the processes the line of a round has initial states
pub round_past : (history : List Process) (r q : ℕ) → length history ≤ q
    → choice_at (round_line history r) q ≡ AtCheck 0
round_past history r q h =
    get_or_past (round_line history r) q (AtCheck 0)
    (omega (
      arith,
      length-map (checks_of history r) (λ c. AtCheck c),
      length-map
          (range_with_len 0 (length history))
          (λ p. check_index r (tape_at history p)),
      length-range_with_len 0 (length history),
    ))

-- the checks of a round that is on every tape make a line
pub round_is_line : (history : List Process) (r : ℕ) → is_checked history r ≡ true
    → IsLine history (round_line history r)
round_is_line history r t = record {
  length_is = length-map (checks_of history r) (λ c. AtCheck c) ∙ length-map
      (range_with_len 0 (length history))
      (λ p. check_index r (tape_at history p)) ∙ length-range_with_len 0 (length history);
  exist = λ p. elim (cases_lt p (length history)) [
    | inl within ↦ subst (HasChoice (tape_at history p)) (sym (round_choice history r p within))
        (check_of_within (tape_at history p) r (checked_has history r p t within))
    | inr past ↦ subst (HasChoice (tape_at history p)) (sym (round_past history r p past))
        (omega arith)
  ];
}

pub closed_has_check : (history : List Process) (r q : ℕ) → is_completed_fifo history r ≡ true
    → q < length history → has_check_of r (tape_at history q) ≡ true
closed_has_check history r q t h = (and_parts _ _
    (in_range (is_closed_at history r) 0 (length history) q t (omega arith) (omega arith))).0

pub closed_has_mark : (history : List Process) (r p q : ℕ) → is_completed_fifo history r ≡ true
    → p < length history → q < length history → (p ≡ q → ⊥)
    → list_any (is_mark_of p r) (after_check r (tape_at history q)) ≡ true
closed_has_mark history r p q t hp hq other =
    let marked : ℕ
    → Bool = λ v. (v == q) || list_any (is_mark_of v r) (after_check r (tape_at history q)) in
    let all : list_all marked (range_with_len 0 (length history))
    ≡ true = (and_parts (has_check_of r (tape_at history q))
    (list_all marked (range_with_len 0 (length history)))
    (in_range (is_closed_at history r) 0 (length history) q t (omega arith) (omega arith))).1 in
    elim (or_cases _ _ (in_range marked 0 (length history) p all (omega arith) (omega arith))) [
      | inl e ↦ absurd (other (eqb-true p q e))
      | inr m ↦ m
    ]

-- a message that is sent stands at its number, with its incarnation
pub sent_at_number : (p q k : ℕ) (es : List Event) (m : MsgName) → In m (messages (items_sent p q k
    es)) → (j : ℕ) × (m.number ≡ k + j) × (slice_get (incarnations_sent es) j ≡ Some m.inc)
sent_at_number p q k [] m i = absurd i
sent_at_number p q k (Send to inc body ∷ es) m i =
    elim (to == q) as
    (λ b. In m (messages
    (cond b (Message (name_of p inc k) ∷ items_sent p q (suc k) es)
    (items_sent p q (suc k) es))) → (j : ℕ) × (m.number ≡ k + j)
    × (slice_get (incarnations_sent (Send to inc body ∷ es)) j ≡ Some m.inc)) [
      | true ↦ λ h. elim h [
        | inl e ↦ (
          0,
          omega (arith, ap (λ (v : MsgName). v.number) e),
          ap
              (λ (v : MsgName). Some v.inc) e,
        )
        | inr h' ↦ let ih =
            sent_at_number p q (suc k) es m h' in (suc ih.0, omega (arith, ih.1), ih.2)
      ]
      | false ↦ λ h. let ih =
          sent_at_number p q (suc k) es m h in (suc ih.0, omega (arith, ih.1), ih.2)
    ] i
sent_at_number p q k (Recv c ∷ es) m i = sent_at_number p q k es m i
sent_at_number p q k (Check state None ∷ es) m i = sent_at_number p q k es m i
sent_at_number p q k (Check state (Some s) ∷ es) m i = sent_at_number p q k es m i
sent_at_number p q k (Mark from s ∷ es) m i = sent_at_number p q k es m i

-- nothing stands before the choice of a process that is not there
pub nothing_past : (history : List Process) (r q : ℕ) → length history ≤ q
    → front (tape_at history q) (choice_at (round_line history r) q) ≡ []
nothing_past history r q h =
    let empty : tape_at history q ≡ [] = ap (λ (v : Process). v.tape) (get_or_past history q _ h) in
    let past : choice_at (round_line history r) q ≡ AtCheck 0 = round_past history r q h in
    ap (λ (v : List Event). front v (choice_at (round_line history r) q)) empty ∙ ap (front []) past

-- the line of a completed round is consistent
pub round_consistent : (history : List Process) (r : ℕ) → IsFitFifo history
    → is_checked history r ≡ true → IsConsistent history (round_line history r)
round_consistent history r fit done q m seen =
    let p : ℕ = m.from in
    let early_in : (es : List Event) → Contains es (Recv m) → In m (messages
    (filter_map (item_received p) es)) = λ es h. in_received p es m (receipt_in es m h) refl in
    elim (cases_lt q (length history)) [
      | inr gq ↦
          let nothing : front (tape_at history q) (choice_at (round_line history r) q)
          ≡ [] = nothing_past history r q gq in
          let none = subst (λ (v : List Event). Contains v (Recv m)) nothing seen in
          absurd (omega (arith, none.1))
      | inl lq ↦
          let at_q = round_choice history r q lq in
          let g = received_to_check history fit r p q (checked_has history r q done lq) in
          let early : List Item = filter_map (item_received p)
          (before_first (is_check_of r) (tape_at history q)) in
          let later : List Item = filter_map (item_received p)
          (after_check r (tape_at history q)) in
          let front_is : filter_map (item_received p)
          (front (tape_at history q) (choice_at (round_line history r) q)) ≡ early = ap (λ (v :
          Choice). filter_map (item_received p) (front (tape_at history q) v)) at_q ∙ g.2 in
          let got : In m (messages early) = subst (λ (v : List Item). In m (messages v)) front_is
          (early_in (front (tape_at history q) (choice_at (round_line history r) q)) seen) in
          let held : List Item = link history p q in
          let whole : early ++ (later ++ held) ≡ sent_between history p q = sym (append_assoc early
          later held) ∙ ap (λ (v : List Item). v ++ held) (sym g.1) ∙ fit.order p q in
          elim (cases_lt p (length history)) [
            | inl lp ↦
                let s = sent_to_check history r p q (checked_has history r p done lp) in
                let before : List Item = items_sent p q 0
                (before_first (is_check_of r) (tape_at history p)) in
                let z = short_of_marker r early before (later ++ held) s.0 (whole ∙ s.1) g.0 in
                let among : In m (messages (items_sent p q 0
                (front (tape_at history p) (AtCheck (check_index r (tape_at history p)))))) =
                subst (In m)
                (sym (ap messages s.2 ∙ filter_map-append item_message before
                (Marker r ∷ []) ∙ append-nil
                (messages before) ∙ ap messages z.1 ∙ filter_map-append item_message early z.0))
                (In-append_left m (messages early) (messages z.0) got) in
                let at = sent_at_number p q 0 (front (tape_at history p)
                (AtCheck (check_index r (tape_at history p)))) m among in
                let number_is : at.0 ≡ m.number = omega (arith, at.1) in
                ap (λ (v : Choice). slice_get (incarnations_sent (front (tape_at history p) v))
                m.number) (round_choice history r p lp)
                ∙ ap (slice_get (incarnations_sent (front (tape_at history p)
                (AtCheck (check_index r (tape_at history p)))))) (sym number_is) ∙ at.2
            | inr gp ↦
                let empty : tape_at history p
                ≡ [] = ap (λ (v : Process). v.tape) (get_or_past history p _ gp) in
                let nothing : early ++ (later ++ held) ≡ [] = whole ∙ ap (items_sent p q 0) empty in
                let none : In m [] = subst (λ (v : List Item). In m (messages v)) nothing
                (subst (In m) (sym (filter_map-append item_message early (later ++ held)))
                (In-append_left m (messages early) (messages (later ++ held)) got)) in
                absurd none
          ]
    ]

-- a completed round of markers is a snapshot
pub marker_snapshot : (history : List Process) (r : ℕ) → IsFitFifo history → is_completed_fifo
    history r ≡ true → IsSnapshot history (checks_of history r) (channel_fifo history r)
marker_snapshot history r fit done = record {
  line = round_is_line history r (completed_checked history r done);
  consistent = round_consistent history r fit (completed_checked history r done);
  transit = λ p q lp lq other. sym
      (transit_is history (round_line history r) p q (channel_fifo history r p q)
      (ap (λ (v : Choice). messages (items_sent p q 0 (front (tape_at history p) v)))
      (round_choice history r p lp)
      ∙ channel_follows history fit r p q (closed_has_check history r p done lp)
      (closed_has_check history r q done lq) (closed_has_mark history r p q done lp lq other)
      ∙ ap (λ (v : Choice). messages (filter_map (item_received p) (front (tape_at history q) v))
      ++ channel_fifo history r p q) (sym (round_choice history r q lq))));
}
