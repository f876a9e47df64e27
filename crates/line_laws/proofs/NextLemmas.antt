-- How links change by one event, and that a fit history stays fit.
use Rattle.std.proofs.Common.{◌≡◌, ℕ, zero, suc, ◌+◌, ◌<◌, true, false, cond, List, [], ◌∷◌, ◌++◌}
use Rattle.std.proofs.Common.{length, drop, get_or, Option, Some, None, refl, sym, ap, ◌∙◌, subst}
use Rattle.std.proofs.Common.{arith, inl, inr}
use Rattle.std.specs.Prelude.{◌==◌}
use Rattle.std.specs.List.{filter_map, cons_option, list_any, Contains}
use Rattle.std.proofs.lemmas.List.{append_assoc, append-nil, take-append-le, take_at}
use Rattle.std.proofs.lemmas.List.{get_or_default, drop_at}
use Rattle.std.proofs.lemmas.List.Elements.{filter_map-append, Contains-append_cases}
use Rattle.std.proofs.lemmas.List.Quantifiers.{all_pairs_push}
use Rattle.std.proofs.lemmas.Bool.{eq-eqb, ne_eqb, cases_eq, both_ways, or_left, or_right}
use Rattle.line_tape.specs.declared.events.Event.{Event}
use Rattle.line_tape.specs.declared.events.Event.TheVariants.{Send, Recv, Check, Mark}
use Rattle.line_tape.specs.declared.items.Item.{Item}
use Rattle.line_tape.specs.declared.items.Item.TheVariants.{Message, Marker}
use Rattle.line_tape.specs.Event.{incarnations_sent}
use Rattle.line_tape.specs.History.{Process, tape_at, with_event}
use Rattle.line_tape.specs.Rounds.{checked_round, rounds_checked, is_check_of, has_check_of}
use Rattle.line_tape.specs.Fit.{items_sent, item_received, sent_between, received_from, link}
use Rattle.line_tape.specs.Fit.{IsPrefix, AreDistinct, MarksFollow, IsFitFifo, IsNextFifo}
use Rattle.line_tape.specs.Fit.{items_put, items_got}
use Rattle.line_names.specs.declared.messages.MsgName.{MsgName}
use Rattle.line_tape.proofs.ListLemmas.{slice_get_push}
use Rattle.line_tape.proofs.EventLemmas.{tape_same, tape_other}

abbrev name_of : ℕ → ℕ → ℕ → MsgName
name_of p inc k = record { from = p; inc = inc; number = k }

pub prefix_from : (xs ys zs : List Item) → ys ≡ xs ++ zs → IsPrefix xs ys
prefix_from xs ys zs e = ap (λ (v : List Item). xs ++ v)
    (ap (drop (length xs)) e ∙ drop_at xs zs (length xs) refl) ∙ sym e

pub rest_from : (xs ys zs : List Item) → ys ≡ xs ++ zs → drop (length xs) ys ≡ zs
rest_from xs ys zs e = ap (drop (length xs)) e ∙ drop_at xs zs (length xs) refl

-- a tape that names a round among its checks has a check of it
pub check_in : (r : ℕ) (es : List Event) → Contains (rounds_checked es) r
    → list_any (is_check_of r) es ≡ true
check_in r [] (k, l, e) = absurd (omega arith)
check_in r (Send to inc body ∷ es) h = check_in r es h
check_in r (Recv m ∷ es) h = check_in r es h
check_in r (Check state None ∷ es) h = check_in r es h
check_in r (Check state (Some s) ∷ es) h =
    elim (Contains-append_cases (s ∷ []) (rounds_checked es) r h) [
      | inl (zero, l, e) ↦ or_left _ _ (eq-eqb s r e)
      | inl (suc k, l, e) ↦ absurd (omega arith)
      | inr j ↦ or_right _ _ (check_in r es j)
    ]
check_in r (Mark from s ∷ es) h = check_in r es h

pub sent_push : (p q k : ℕ) (es : List Event) (e : Event) → items_sent p q k (es ++ e ∷ [])
    ≡ items_sent p q k es ++ items_sent p q (k + length (incarnations_sent es)) (e ∷ [])
sent_push p q k [] e = ap (λ n. items_sent p q n (e ∷ [])) (omega arith)
sent_push p q k (Send to inc body ∷ es) e =
    let ih = sent_push p q (suc k) es e ∙ ap
    (λ n. items_sent p q (suc k) es ++ items_sent p q n (e ∷ [])) (omega arith) in
    elim (to == q) as
    (λ b. cond b (Message (name_of p inc k) ∷ items_sent p q (suc k) (es ++ e ∷ []))
    (items_sent p q (suc k) (es ++ e ∷ []))
    ≡ cond b (Message (name_of p inc k) ∷ items_sent p q (suc k) es) (items_sent p q (suc k) es)
    ++ items_sent p q (k + suc (length (incarnations_sent es))) (e ∷ []))
    [ true ↦ ap (λ (xs : List Item). Message (name_of p inc k) ∷ xs) ih | false ↦ ih ]
sent_push p q k (Recv m ∷ es) e = sent_push p q k es e
sent_push p q k (Check st None ∷ es) e = sent_push p q k es e
sent_push p q k (Check st (Some s) ∷ es) e =
    ap (λ (xs : List Item). Marker s ∷ xs) (sent_push p q k es e)
sent_push p q k (Mark from s ∷ es) e = sent_push p q k es e

module _ (history : List Process) (at : ℕ) (e : Event) (h : at < length history) where
  pub sent_grows : (p q : ℕ) → sent_between (with_event history at e) p q
      ≡ sent_between history p q ++ items_put history at e p q
  sent_grows p q = elim (cases_eq p at) [
    | inl same ↦ ap (items_sent p q 0) (tape_same history at e p h same) ∙ sent_push p q 0
        (tape_at history p) e
        ∙ ap (λ n. sent_between history p q ++ items_sent p q n (e ∷ [])) (omega arith)
        ∙ ap (λ b. sent_between history p q ++ cond b (items_sent p q
        (length (incarnations_sent (tape_at history p))) (e ∷ [])) []) (sym (eq-eqb p at same))
    | inr other ↦ ap (items_sent p q 0) (tape_other history at e p other) ∙ sym
        (append-nil (sent_between history p q))
        ∙ ap (λ b. sent_between history p q ++ cond b (items_sent p q
        (length (incarnations_sent (tape_at history p))) (e ∷ [])) []) (sym (ne_eqb p at other))
  ]

  pub received_grows : (p q : ℕ) → received_from (with_event history at e) q p
      ≡ received_from history q p ++ items_got at e p q
  received_grows p q = elim (cases_eq q at) [
    | inl same ↦ ap (filter_map (item_received p)) (tape_same history at e q h same) ∙
        filter_map-append (item_received p) (tape_at history q) (e ∷ [])
        ∙ ap (λ b. received_from history q p ++ cond b (filter_map (item_received p) (e ∷ [])) [])
        (sym (eq-eqb q at same))
    | inr other ↦ ap (filter_map (item_received p)) (tape_other history at e q other) ∙ sym
        (append-nil (received_from history q p))
        ∙ ap (λ b. received_from history q p ++ cond b (filter_map (item_received p) (e ∷ [])) [])
        (sym (ne_eqb q at other))
  ]

  -- what the event takes is first on its link
  pub taken_first : IsNextFifo history at e → (p : ℕ)
      → (rest : List Item) × (link history p at ≡ filter_map (item_received p) (e ∷ []) ++ rest)
  taken_first next p = first_of e next where
    first_of : (v : Event) → IsNextFifo history at v
        → (rest : List Item) × (link history p at ≡ filter_map (item_received p) (v ∷ []) ++ rest)
    first_of (Send to inc body) n = (link history p at, refl)
    first_of (Recv m) n = elim (cases_eq m.from p) [
      | inl same ↦ (
        n.0,
        ap (λ (v : ℕ). link history v at) (sym same) ∙ n.1 ∙ ap (λ b. cons_option
            (cond b (Some (Message m)) None) [] ++ n.0) (sym (eq-eqb m.from p same)),
      )
      | inr other ↦ (
        link history p at,
        ap (λ b. cons_option (cond b (Some (Message m)) None) []
            ++ link history p at) (sym (ne_eqb m.from p other)),
      )
    ]
    first_of (Check state None) n = (link history p at, refl)
    first_of (Check state (Some r)) n = (link history p at, refl)
    first_of (Mark from r) n = elim (cases_eq from p) [
      | inl same ↦ (
        n.0.0,
        ap (λ (v : ℕ). link history v at) (sym same) ∙ n.0.1 ∙ ap
            (λ b. cons_option (cond b (Some (Marker r)) None) [] ++ n.0.0)
            (sym (eq-eqb from p same)),
      )
      | inr other ↦ (
        link history p at,
        ap (λ b. cons_option (cond b (Some (Marker r)) None) []
            ++ link history p at) (sym (ne_eqb from p other)),
      )
    ]

  pub got_first : IsNextFifo history at e → (p q : ℕ)
      → (rest : List Item) × (link history p q ≡ items_got at e p q ++ rest)
  got_first next p q = elim (cases_eq q at) [
    | inl same ↦ let f = taken_first next p in (
      f.0,
      ap (λ (v : ℕ). link history p v) same ∙ f.1 ∙ ap (λ b. cond b
          (filter_map (item_received p) (e ∷ [])) [] ++ f.0) (sym (eq-eqb q at same)),
    )
    | inr other ↦ (
      link history p q,
      ap (λ b. cond b (filter_map (item_received p) (e ∷ [])) []
          ++ link history p q) (sym (ne_eqb q at other)),
    )
  ]

  -- all that is sent, in its new parts
  pub sent_parts : IsFitFifo history → (p q : ℕ) (rest : List Item)
      → link history p q ≡ items_got at e p q ++ rest
      → sent_between (with_event history at e) p q
      ≡ received_from (with_event history at e) q p ++ (rest ++ items_put history at e p q)
  sent_parts fit p q rest f =
      let r : List Item = received_from history q p in
      let g : List Item = items_got at e p q in
      let w : List Item = items_put history at e p q in
      let old : sent_between history p q ≡ (r ++ g) ++ rest = sym (fit.order p q) ∙ ap
      (λ (v : List Item). r ++ v) f ∙ sym (append_assoc r g rest) in
      sent_grows p q ∙ ap (λ (v : List Item). v ++ w) old ∙ append_assoc (r ++ g) rest w ∙ ap
      (λ (v : List Item). v ++ (rest ++ w)) (sym (received_grows p q))

pub rounds_push : (tape : List Event) (e : Event) → AreDistinct (rounds_checked tape)
    → ((r : ℕ) → checked_round e ≡ Some r → has_check_of r tape ≡ false)
    → AreDistinct (rounds_checked (tape ++ e ∷ []))
rounds_push tape e a fresh =
    subst (λ (rs : List ℕ). AreDistinct rs) (sym (filter_map-append checked_round tape (e ∷ [])))
    (added (checked_round e) fresh) where
      added : (o : Option ℕ) → ((r : ℕ) → o ≡ Some r → has_check_of r tape ≡ false)
          → AreDistinct (rounds_checked tape ++ cons_option o [])
      added None f =
          subst (λ (rs : List ℕ). AreDistinct rs) (sym (append-nil (rounds_checked tape))) a
      added (Some r) f = all_pairs_push (λ (x y : ℕ). x ≡ y → ⊥) (rounds_checked tape) r a
          (λ k d l same. both_ways (has_check_of r tape) (f r refl)
          (check_in r tape (k, l, read k d l same)))
        where
          read : (k d : ℕ) → k < length (rounds_checked tape) → get_or (rounds_checked tape) k d ≡ r
              → get_or (rounds_checked tape) k r ≡ r
          read k d l same = get_or_default (rounds_checked tape) k r d l ∙ same

pub marks_push : (tape : List Event) (e : Event) → MarksFollow tape → ((from r : ℕ)
    → e ≡ Mark from r → Contains (rounds_checked tape) r) → MarksFollow (tape ++ e ∷ [])
marks_push tape e follow after i from r at = elim (slice_get_push tape e (Mark from r) i at) [
  | inl a ↦ subst (λ (v : List Event). Contains (rounds_checked v) r)
      (sym (take-append-le i tape (e ∷ []) (omega (arith, a.0)))) (follow i from r a.1)
  | inr b ↦ subst (λ (v : List Event). Contains (rounds_checked v) r)
      (sym (take_at tape (e ∷ []) i (sym b.0))) (after from r b.1)
]

pub next_round : (history : List Process) (p : ℕ) (e : Event) → IsNextFifo history p e → (r : ℕ)
    → checked_round e ≡ Some r → has_check_of r (tape_at history p) ≡ false
next_round history p (Send to inc body) n r t = absurd (cc)
next_round history p (Recv m) n r t = absurd (cc)
next_round history p (Check state None) n r t = absurd (cc)
next_round history p (Check state (Some s)) n r t =
    let same : s ≡ r = cc in subst (λ (v : ℕ). has_check_of v (tape_at history p) ≡ false) same n
next_round history p (Mark from s) n r t = absurd (cc)

pub next_mark : (history : List Process) (p : ℕ) (e : Event) → IsNextFifo history p e → (from r : ℕ)
    → e ≡ Mark from r → Contains (rounds_checked (tape_at history p)) r
next_mark history p (Send to inc body) n from r t = absurd (cc)
next_mark history p (Recv m) n from r t = absurd (cc)
next_mark history p (Check state s) n from r t = absurd (cc)
next_mark history p (Mark f s) n from r t = let same : s
    ≡ r = cc in subst (λ (v : ℕ). Contains (rounds_checked (tape_at history p)) v) same n.1

pub stays_fit : (history : List Process) (at : ℕ) (e : Event) → IsFitFifo history
    → at < length history → IsNextFifo history at e → IsFitFifo (with_event history at e)
stays_fit history at e fit h next = record {
  order = λ p q.
      let f = got_first history at e h next p q in
      prefix_from (received_from (with_event history at e) q p) (sent_between (with_event history at
      e) p q) (f.0 ++ items_put history at e p q) (sent_parts history at e h fit p q f.0 f.1);
  rounds = λ p. elim (cases_eq p at) [
    | inl same ↦ subst (λ (v : List Event). AreDistinct (rounds_checked v))
        (sym (tape_same history at e p h same))
        (rounds_push (tape_at history p) e (fit.rounds p)
        (subst (λ (v : ℕ). (r : ℕ) → checked_round e ≡ Some r → has_check_of r
        (tape_at history v) ≡ false) (sym same) (next_round history at e next)))
    | inr other ↦ subst (λ (v : List Event). AreDistinct (rounds_checked v))
        (sym (tape_other history at e p other)) (fit.rounds p)
  ];
  marks = λ p. elim (cases_eq p at) [
    | inl same ↦ subst MarksFollow (sym (tape_same history at e p h same))
        (marks_push (tape_at history p) e (fit.marks p)
        (subst (λ (v : ℕ). (from r : ℕ) → e ≡ Mark from r → Contains
        (rounds_checked (tape_at history v)) r) (sym same) (next_mark history at e next)))
    | inr other ↦ subst MarksFollow (sym (tape_other history at e p other)) (fit.marks p)
  ];
}

-- the link afterwards: the rest after what the event takes, and then what it puts there
pub link_after : (history : List Process) (at : ℕ) (e : Event) → IsFitFifo history → at < length
    history → (p q : ℕ) (rest : List Item) → link history p q ≡ items_got at e p q ++ rest
    → link (with_event history at e) p q ≡ rest ++ items_put history at e p q
link_after history at e fit h p q rest f = rest_from (received_from (with_event history at e) q p)
    (sent_between (with_event history at e) p q) (rest ++ items_put history at e p q)
    (sent_parts history at e h fit p q rest f)
