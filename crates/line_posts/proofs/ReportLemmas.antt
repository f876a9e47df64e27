-- Reports keep what holds of a worker and of a collector.
use Rattle.std.proofs.Common.{zero, suc, ◌≡◌, ◌≢◌, ◌∙◌, ◌+◌, ◌-◌, ◌<◌, ◌≤◌, ◌⊎◌, ◌++◌, ◌∷◌, [], ℕ}
use Rattle.std.proofs.Common.{List, length, refl, sym, ap, inl, inr, arith, subst}
use Rattle.std.specs.Prelude.{Option}
use Rattle.std.proofs.lemmas.Bool.{cases_eq, cases_lt}
use Rattle.std.proofs.lemmas.List.FromFn.{length-map-range_with_len, get_or-map-range_with_len}
use Rattle.std.proofs.lemmas.Option.{slice_get_past}
use Rattle.std.proofs.lemmas.List.{append_assoc, get_or_past, append-nil, length_push, length-set}
use Rattle.std.proofs.lemmas.List.{get_or-set_same, get_or-set_other}
use Rattle.line_tape.specs.declared.events.Event.{Event}
use Rattle.line_tape.specs.History.{Process, fresh, process_at, tape_at, incarnation_at, with_event}
use Rattle.line_tape.proofs.EventLemmas.{tape_same, tape_other}
use mathlib.Core.List.{IsPrefix}
use Rattle.line_posts.specs.Ends.{End, items_at, items_of, ring_at, row_at, with_item, AreFresh}
use Rattle.line_posts.proofs.EndLemmas.{items_same, items_other, prefix_behind, prefix_self}
use Rattle.line_posts.proofs.EndLemmas.{prefix_then, ring_item}
use Rattle.line_tape.specs.Views.{MarksView}
use Rattle.line_posts.specs.Collected.{passed_count, CollectorView}
use Rattle.line_posts.specs.Collected.{HasCollectedMore, HasLeft, HasOnlyLooked, IsCollector}
use Rattle.line_posts.specs.Collected.{ShowsNone}
use Rattle.line_posts.specs.Forgotten.{taken_history}
use Rattle.line_posts.specs.Kept.{collector_at, floor_of, whole_marks}
use Rattle.line_posts.specs.declared.forgetting.Forgotten.{Forgotten}
use Rattle.line_cuts.proofs.StepCuts.{same_history}
use Rattle.line_posts.specs.Extension.{Extends}

incarnation_kept : (history : List Process) (p q : ℕ) (event : Event) → p < length history
    → incarnation_at (with_event history p event) q ≡ incarnation_at history q
incarnation_kept history p q event lt = elim (cases_eq q p) [
  | inl e ↦ subst (λ v. incarnation_at (with_event history p event) v ≡ incarnation_at history v)
      (sym e) (ap (λ (t : Process). t.incarnation) (get_or-set_same history p _ fresh lt))
  | inr ne ↦ ap (λ (t : Process). t.incarnation) (get_or-set_other history p q _ fresh ne)
]

-- what the history of what was taken has of a process
pub taken_at : (opening : List Process) (lines : List (End Event)) (p : ℕ) → p < length opening
    → process_at (taken_history opening lines) p
    ≡ record (process_at opening p) { tape = tape_at opening p ++ items_at lines p }
taken_at opening lines p within = get_or-map-range_with_len
    (λ q. record (process_at opening q) { tape = tape_at opening q ++ items_at lines q }) 0
    (length opening) p p fresh within (omega arith)

pub taken_long : (opening : List Process) (lines : List (End Event))
    → length (taken_history opening lines) ≡ length opening
taken_long opening lines = length-map-range_with_len (λ q. record
    (process_at opening q) { tape = tape_at opening q ++ items_at lines q }) 0 (length opening)

taken_past : (opening : List Process) (lines : List (End Event)) (p : ℕ) → length opening ≤ p
    → process_at (taken_history opening lines) p ≡ process_at opening p
taken_past opening lines p past = get_or_past (taken_history opening lines) p fresh
    (omega (arith, past, taken_long opening lines)) ∙ sym (get_or_past opening p fresh past)

-- one report more
pub taken_more : (opening : List Process) (lines : List (End Event)) (p : ℕ) (event : Event)
    → p < length opening → length lines ≡ length opening → taken_history opening
    (with_item lines p event) ≡ with_event (taken_history opening lines) p event
taken_more opening lines p event lt long =
    let old : List Process = taken_history opening lines in
    let new : Process = record (process_at old p) { tape = tape_at old p ++ event ∷ [] } in
    same_history (taken_history opening (with_item lines p event)) (with_event old p event)
    (taken_long opening (with_item lines p event) ∙ sym (taken_long opening lines) ∙ sym
    (length-set old p new))
    (λ q h.
    let within : q < length opening = omega
    (arith, h, taken_long opening (with_item lines p event)) in
    taken_at opening (with_item lines p event) q within
    ∙ elim (cases_eq q p) [
      | inl same ↦
          ap (λ (es : List Event). record {
            incarnation = (process_at opening q).incarnation;
            tape =
                tape_at opening q ++ es;
          }) (items_same lines p q event (omega (arith, lt, long)) same)
          ∙ ap (λ (es : List Event). record {
            incarnation = (process_at opening q).incarnation;
            tape
                = es;
          }) (sym (append_assoc (tape_at opening q) (items_at lines q) (event ∷ [])))
          ∙ ap (λ (t : Process). record t { tape = t.tape ++ event ∷ [] })
          (sym (taken_at opening lines q within))
          ∙ ap (λ (v : ℕ). record (process_at old v) { tape = tape_at old v ++ event ∷ [] }) same
          ∙ sym (ap (process_at (with_event old p event)) same ∙ get_or-set_same old p new fresh
          (omega (arith, lt, taken_long opening lines)))
      | inr apart ↦
          ap (λ (es : List Event). record {
            incarnation = (process_at opening q).incarnation;
            tape =
                tape_at opening q ++ es;
          }) (items_other lines p q event apart)
          ∙ sym (taken_at opening lines q within)
          ∙ sym (get_or-set_other old p q new fresh apart)
    ])

-- none
pub taken_fresh : (opening : List Process) (lines : List (End Event)) → AreFresh lines
    → taken_history opening lines ≡ opening
taken_fresh opening lines none =
    same_history (taken_history opening lines) opening (taken_long opening lines)
    (λ p h.
    taken_at opening lines p (omega (arith, h, taken_long opening lines))
    ∙ ap (λ (es : List Event). record
    { incarnation = (process_at opening p).incarnation; tape = es }) (ap
    (λ (es : List Event). tape_at opening p ++ es) (none p) ∙ append-nil (tape_at opening p)))

-- what is known of a collector at any time
pub collects : (opening : List Process) (forgotten : Option Forgotten) (marks : MarksView) (lines :
    List (End Event)) (seen : List (List Event)) (capacity : ℕ) → length lines ≡ length opening
    → IsCollector (collector_at opening forgotten marks lines seen capacity)
collects opening forgotten marks lines seen capacity long = record {
  count = taken_long opening lines;
  line_count = long;
  tapes = λ p. elim (cases_lt p (length opening)) [
    | inl within ↦ ap (λ (t : Process). t.tape) (taken_at opening lines p within)
    | inr past ↦
        ap (λ (t : Process). t.tape) (taken_past opening lines p past)
        ∙ sym (append-nil (tape_at opening p))
        ∙ ap (λ (es : List Event). tape_at opening p ++ es)
        (sym (ap items_of (slice_get_past lines p (omega (arith, past, long)))))
  ];
  incarnations = λ p. elim (cases_lt p (length opening)) [
    | inl within ↦ ap (λ (t : Process). t.incarnation) (taken_at opening lines p within)
    | inr past ↦ ap (λ (t : Process). t.incarnation) (taken_past opening lines p past)
  ];
}

pub same_first : {X : Type 0} (x y : X) (xs ys : List X) → x ∷ xs ≡ y ∷ ys → x ≡ y
same_first x y xs ys e = cc e

-- one report more
length_passed : (lines : List (End Event)) (p : ℕ) (event : Event) → p < length lines
    → passed_count (with_item lines p event) ≡ passed_count lines + 1
length_passed [] p event lt = absurd (omega (arith, lt))
length_passed (e ∷ es) zero event lt = (let l = length_push e.items event in omega (arith, l))
length_passed (e ∷ es) (suc p) event lt =
    (let ih = length_passed es p event (omega (arith, lt)) in omega (arith, ih))

pub more_self : (c : CollectorView) → HasCollectedMore c c
more_self c = record {
  opening = refl;
  marks = refl;
  capacity = refl;
  floor = refl;
  count = refl;
  incarnations = λ p. refl;
  rings = λ p. refl;
  tapes = λ p. (
    [],
    sym (append-nil (tape_at c.processes p)),
    sym
        (append-nil (items_at c.lines p)),
    prefix_self (row_at c.seen p),
  );
}

-- a look alone takes nothing
pub more_seen : (a b : CollectorView) → HasOnlyLooked a b → HasCollectedMore a b
more_seen a b (e, seen) = record {
  opening = ap (λ (v : CollectorView). v.opening) e;
  marks = ap (λ (v : CollectorView). v.marks) e;
  capacity = ap (λ (v : CollectorView). v.capacity) e;
  floor = ap (λ (v : CollectorView). v.floor) e;
  count = ap (λ (v : CollectorView). length v.processes) e;
  incarnations = λ p. ap (λ (v : CollectorView). incarnation_at v.processes p) e;
  rings = λ p. ap (λ (v : CollectorView). ring_at v.lines p) e;
  tapes = λ p. (
    [],
    ap (λ (v : CollectorView). tape_at v.processes p) e ∙ sym (append-nil (tape_at a.processes p)),
    ap (λ (v : CollectorView). items_at v.lines p) e ∙ sym (append-nil (items_at a.lines p)),
    seen p,
  );
}

pub more_extends : (a b : CollectorView) → HasCollectedMore a b → Extends b.processes a.processes
more_extends a b h = record {
  count = h.count;
  incarnations = h.incarnations;
  tapes = λ p. ((h.tapes p).0, sym (h.tapes p).1);
}

pub more_then : (a b c : CollectorView) → HasCollectedMore a b → HasCollectedMore b c
    → HasCollectedMore a c
more_then a b c h k = record {
  opening = k.opening ∙ h.opening;
  marks = k.marks ∙ h.marks;
  capacity = k.capacity ∙ h.capacity;
  floor = k.floor ∙ h.floor;
  count = k.count ∙ h.count;
  incarnations = λ p. k.incarnations p ∙ h.incarnations p;
  rings = λ p. k.rings p ∙ h.rings p;
  tapes = λ p.
      let (first, t, i, s) = h.tapes p in
      let (second, u, j, r) = k.tapes p in (
        first ++ second,
        u ∙ (ap (λ v. v ++ second) t ∙ append_assoc (tape_at a.processes p) first second),
        j ∙ (ap (λ v. v ++ second) i ∙ append_assoc (items_at a.lines p) first second),
        prefix_then (row_at a.seen p) (first ++ row_at b.seen p)
            ((first ++ second) ++ row_at c.seen p) s
            (subst (λ v. IsPrefix (first ++ row_at b.seen p) v)
            (sym (append_assoc first second (row_at c.seen p)))
            (prefix_behind first (row_at b.seen p) (second ++ row_at c.seen p) r)),
      );
}

-- the collector after one more report, with what it has seen then
abbrev pub collected : CollectorView → ℕ → Event → List (List Event) → CollectorView
collected c p event seen = record c
    { processes = with_event c.processes p event; lines = with_item c.lines p event; seen = seen }

pub more_one : (c : CollectorView) (p : ℕ) (event : Event) (seen : List (List Event))
    → IsCollector c → p < length c.opening → IsPrefix (row_at c.seen p) (event ∷ row_at seen p)
    → ((q : ℕ) → (q ≡ p → ⊥) → row_at seen q ≡ row_at c.seen q) → HasCollectedMore c (collected c p
    event seen) × (passed_count (with_item c.lines p event) ≡ passed_count c.lines + 1)
more_one c p event seen h lt first others =
    let n = h.count in
    let m = h.line_count in
    let within : p < length c.processes = omega (arith, lt, n) in
    let there : p < length c.lines = omega (arith, lt, m) in (
      record {
        opening = refl;
        marks = refl;
        capacity = refl;
        floor = refl;
        count = length-set c.processes p _;
        incarnations = λ q. incarnation_kept c.processes p q event within;
        rings = λ q. ring_item c.lines p q event;
        tapes = λ q. elim (cases_eq q p) [
          | inl same ↦ (
            event ∷ [],
            tape_same c.processes p event q within same,
            items_same c.lines p q event there same,
            subst (λ v. IsPrefix (row_at c.seen v) (event ∷ row_at seen v)) (sym same) first,
          )
          | inr ne ↦ (
            [],
            tape_other c.processes p event q ne ∙ sym (append-nil (tape_at c.processes q)),
            items_other c.lines p q event ne ∙ sym (append-nil (items_at c.lines q)),
            subst (λ v. IsPrefix (row_at c.seen q) v) (sym (others q ne))
                (prefix_self (row_at c.seen q)),
          )
        ];
      },
      length_passed c.lines p event there,
    )

-- the same, of the view that comes of it
pub more_is : (now old new : CollectorView) (p : ℕ) (event : Event) → old ≡ now
    → new ≡ collected old p event new.seen → IsCollector old → p < length old.opening
    → IsPrefix (row_at old.seen p) (event ∷ row_at new.seen p)
    → ((q : ℕ) → (q ≡ p → ⊥) → row_at new.seen q ≡ row_at old.seen q)
    → HasCollectedMore now new × (passed_count new.lines ≡ passed_count now.lines + 1)
more_is now old new p event v e h lt first others =
    let both = more_one old p event new.seen h lt first others in
    let more : HasCollectedMore old new = subst (HasCollectedMore old) (sym e) both.0 in
    let count : passed_count new.lines ≡ passed_count old.lines + 1 = ap
    (λ (t : CollectorView). passed_count t.lines) e ∙ both.1 in (
      subst (λ (t : CollectorView). HasCollectedMore t new) v more,
      subst
          (λ (t : CollectorView). passed_count new.lines ≡ passed_count t.lines + 1) v count,
    )

-- a collector whose parts are told, after a look and after a report
module _ (now : CollectorView) (opening : List Process) (forgotten : Option Forgotten)
    (marks : MarksView) (lines : List (End Event)) (seen : List (List Event)) (capacity : ℕ)
    (is : collector_at opening forgotten marks lines seen capacity ≡ now) where
  pub looked_only : (marks' : MarksView) (lines' : List (End Event)) (seen' : List (List Event))
      → marks' ≡ marks → lines' ≡ lines
      → ((p : ℕ) → IsPrefix (row_at seen p) (row_at seen' p))
      → HasOnlyLooked now (collector_at opening forgotten marks' lines' seen' capacity)
  looked_only marks' lines' seen' em el s =
      subst (λ (t : CollectorView). HasOnlyLooked t
      (collector_at opening forgotten marks' lines' seen' capacity)) is (rw (em, el) (refl, s))

  pub left_others : (p : ℕ) (lines' : List (End Event)) (seen' : List (List Event))
      → ((q : ℕ) → (q ≡ p → ⊥) → items_at lines' q ≡ items_at lines q)
      → ((q : ℕ) → (q ≡ p → ⊥) → row_at seen' q ≡ row_at seen q)
      → (q : ℕ) → (q ≡ p → ⊥)
      → (items_at lines' q ≡ items_at now.lines q) × (row_at seen' q ≡ row_at now.seen q)
  left_others p lines' seen' hi hs q ne = subst (λ (t : CollectorView). (items_at lines' q
      ≡ items_at t.lines q) × (row_at seen' q ≡ row_at t.seen q)) is (hi q ne, hs q ne)

  pub collected_is : (p : ℕ) (event : Event) (marks' : MarksView) (lines' : List (End Event))
      (seen' : List (List Event)) → p < length opening → length lines ≡ length opening
      → marks' ≡ marks → lines' ≡ with_item lines p event
      → collector_at opening forgotten marks' lines' seen' capacity ≡ collected now p event seen'
  collected_is p event marks' lines' seen' lt long em el =
      let more : taken_history opening lines' ≡ with_event (taken_history opening lines) p event =
      ap (taken_history opening) el ∙ taken_more opening lines p event lt long in
      subst (λ (t : CollectorView). collector_at opening forgotten marks' lines' seen' capacity
      ≡ collected t p event seen') is
      (ap (λ (h : List Process). let v : CollectorView = record {
        opening = opening;
        processes = h;
        marks = whole_marks forgotten marks';
        lines = lines';
        seen = seen';
        capacity = capacity;
        floor = floor_of forgotten;
      } in v) more
      ∙ ap (λ (m : MarksView). let v : CollectorView = record {
        opening = opening;
        processes = with_event
            (taken_history opening lines) p event;
        marks = whole_marks forgotten m;
        lines = lines';
        seen = seen';
        capacity = capacity;
        floor = floor_of forgotten;
      } in v) em
      ∙ ap (λ (l : List (End Event)). let v : CollectorView = record {
        opening = opening;
        processes = with_event
            (taken_history opening lines) p event;
        marks = whole_marks forgotten marks;
        lines = l;
        seen = seen';
        capacity = capacity;
        floor = floor_of forgotten;
      } in v) el)

pub left_then : (a b c : CollectorView) (q : ℕ) → HasLeft a q b → HasLeft b q c → HasLeft a q c
left_then a b c q h k = (k.0 ∙ h.0, k.1 ∙ h.1)

-- so far each process in turn: up to p the lines show none, or so many were taken as were asked
-- for; nothing was taken of p and those after it
pub record InTurn (old now : CollectorView) (p taken limit : ℕ) : Type 0 where
  pub later : (q : ℕ) → p ≤ q → items_at now.lines q ≡ items_at old.lines q
  pub none : (taken ≡ limit) ⊎ ((q : ℕ) → q < p → ShowsNone now q)
  pub turns : (a b : ℕ) → a < b → items_at now.lines b ≢ items_at old.lines b → ShowsNone now a

pub turn_start : (c : CollectorView) (limit : ℕ) → InTurn c c 0 0 limit
turn_start c limit = record {
  later = λ q le. refl;
  none = inr (λ q lt. absurd (omega (arith, lt)));
  turns = λ a b lt ne. absurd (ne refl);
}

-- what was taken of p, where something was asked for
pub turn_more : (old now new : CollectorView) (p taken limit : ℕ) → InTurn old now p taken limit
    → ((q : ℕ) → q < p → ShowsNone now q) → ((q : ℕ) → (q ≡ p → ⊥) → HasLeft now q new)
    → (a b : ℕ) → a < b → items_at new.lines b ≢ items_at old.lines b → ShowsNone new a
turn_more old now new p taken limit h none others a b lt ne = elim (cases_eq b p) [
  | inl same ↦ (let below : a < p = omega (arith, lt, same) in
      (others a (λ e. omega (arith, e, below))).1 ∙ none a below)
  | inr apart ↦ elim (cases_eq a p) [
    | inl here ↦ absurd (ne ((others b apart).0 ∙ h.later b (omega (arith, lt, here))))
    | inr else ↦ (others a else).1 ∙ h.turns a b lt (λ e. ne ((others b apart).0 ∙ e))
  ]
]

pub turn_step : (old now new : CollectorView) (p taken k limit : ℕ) → InTurn old now p taken limit
    → ((q : ℕ) → (q ≡ p → ⊥) → HasLeft now q new) → k ≤ limit - taken
    → (k ≡ 0 → items_at new.lines p ≡ items_at now.lines p)
    → (k ≡ limit - taken) ⊎ ShowsNone new p → taken ≤ limit
    → InTurn old new (p + 1) (taken + k) limit
turn_step old now new p taken k limit h others few nothing all le = record {
  later = λ q past. (others q (λ e. omega (arith, e, past))).0 ∙ h.later q (omega (arith, past));
  none = elim all [
    | inl many ↦ inl (omega (arith, many, le))
    | inr shows ↦ elim h.none [
      | inl full ↦ inl (omega (arith, full, few))
      | inr none ↦ inr (λ q lt. elim (cases_eq q p) [
        | inl same ↦ subst (λ v. ShowsNone new v) (sym same) shows
        | inr apart ↦ (others q apart).1 ∙ none q (omega (arith, lt, apart))
      ])
    ]
  ];
  turns = elim h.none [
    | inl full ↦ λ a b lt ne.
        (let none_taken : k ≡ 0 = omega (arith, full, few) in
        elim (cases_eq b p) [
          | inl same ↦ absurd (ne (subst (λ v. items_at new.lines v ≡ items_at old.lines v)
              (sym same) (nothing none_taken ∙ h.later p (omega arith))))
          | inr apart ↦ elim (cases_eq a p) [
            | inl here ↦ absurd (ne ((others b apart).0 ∙ h.later b (omega (arith, lt, here))))
            | inr else ↦ (others a else).1 ∙ h.turns a b lt (λ e. ne ((others b apart).0 ∙ e))
          ]
        ])
    | inr none ↦ turn_more old now new p taken limit h none others
  ];
}

-- where something was asked for and not had
pub turn_none : (old now : CollectorView) (p taken limit : ℕ) → InTurn old now p taken limit
    → 0 < limit - taken → (q : ℕ) → q < p → ShowsNone now q
turn_none old now p taken limit h some =
    elim h.none [ inl full ↦ absurd (omega (arith, full, some)) | inr none ↦ none ]

-- the same, of a process that is told otherwise
pub turn_step_at : (old now new : CollectorView) (at p taken k limit : ℕ) → at ≡ p
    → InTurn old now p taken limit → ((q : ℕ) → (q ≡ at → ⊥) → HasLeft now q new)
    → k ≤ limit - taken → (k ≡ 0 → items_at new.lines at ≡ items_at now.lines at)
    → (k ≡ limit - taken) ⊎ ShowsNone new at → taken ≤ limit
    → InTurn old new (p + 1) (taken + k) limit
turn_step_at old now new at p taken k limit is h others few nothing all le =
    turn_step old now new p taken k limit h
    (subst (λ (x : ℕ). (q : ℕ) → (q ≡ x → ⊥) → HasLeft now q new) is others) few
    (subst (λ (x : ℕ). k ≡ 0 → items_at new.lines x ≡ items_at now.lines x) is nothing)
    (subst (λ (x : ℕ). (k ≡ limit - taken) ⊎ ShowsNone new x) is all) le

pub turn_more_at : (old now new : CollectorView) (at p taken limit : ℕ) → at ≡ p → InTurn old now p
    taken limit → ((q : ℕ) → q < p → ShowsNone now q) → ((q : ℕ) → (q ≡ at → ⊥) → HasLeft now q new)
    → (a b : ℕ) → a < b → items_at new.lines b ≢ items_at old.lines b → ShowsNone new a
turn_more_at old now new at p taken limit is h none others = turn_more old now new p taken limit h
    none (subst (λ (x : ℕ). (q : ℕ) → (q ≡ x → ⊥) → HasLeft now q new) is others)
