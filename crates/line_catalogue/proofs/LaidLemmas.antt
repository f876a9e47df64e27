-- What rows show of the lanes, as rows and vectors come and go.
use Rattle.std.proofs.Common.{◌≡◌, ℕ, ◌+◌, ◌*◌, ◌-◌, ◌<◌, ◌≤◌, Bool, false, true, List, []}
use Rattle.std.proofs.Common.{◌∷◌, ◌++◌, length, take, drop, map, get_or, set, inl, inr, sym, ap}
use Rattle.std.proofs.Common.{◌/◌, ◌%◌, ◌∙◌, subst, arith}
use Rattle.std.proofs.lemmas.Bool.{cases_eq, cases_lt}
use Rattle.std.proofs.lemmas.List.{ext_get_or, get_or-map}
use Rattle.std.proofs.lemmas.List.{get_or-drop, get_or-set_other, get_or-set_same, get_or-take}
use Rattle.std.proofs.lemmas.List.{get_or_append_left, get_or_default, get_or_past, get_or_push}
use Rattle.std.proofs.lemmas.List.{length-drop, length-map, length-take}
use Rattle.std.proofs.lemmas.List.{length-take-le}
use Rattle.std.proofs.lemmas.List.{length_push, map-append, map-set}
use Rattle.std.proofs.lemmas.List.{take-map}
use Rattle.std.proofs.lemmas.Nat.{mul-le}
use Rattle.std.proofs.Math.Nat.{add-mul}
use Rattle.line_names.specs.declared.limits.TheConstants.{MOST_PROCESSES}
use Rattle.line_tape.specs.declared.limits.TheConstants.{MOST_EVENTS}
use Rattle.line_catalogue.specs.declared.laid.TheConstants.{NOT_LAID}
use Rattle.line_names.specs.declared.choices.Choice.TheVariants.{Check as AtCheck}
use Rattle.line_tape.specs.declared.events.Event.{Event}
use Rattle.line_tape.specs.Front.{place}
use Rattle.line_vectors.specs.declared.parts.TheConstants.{PART}
use Rattle.line_vectors.specs.Parts.{ArePartsAmong, part_count}
use Rattle.line_vectors.specs.Parts.{place_in_parts}
use Rattle.line_vectors.proofs.PartLemmas.{lane-parted, length-parted}
use Rattle.line_catalogue.specs.declared.kept_rows.KeptRow.{KeptRow}
use Rattle.line_catalogue.specs.declared.kept_rows.Row.{Row}
use Rattle.line_catalogue.specs.Laid.{AreAmong, AreHeld, AreLaid, EndWith, IsAmong, row_of}
use Rattle.line_catalogue.specs.Laid.{starts_at, vector_after, width_of}
use Rattle.line_catalogue.specs.Rows.{AreInStep, WithPlaces, new_row, no_row, with_damage}

-- a row of nothing, for a check that there isn't
abbrev pub no_kept : KeptRow
no_kept = record { place = 0; sends = 0; start = 0; damaged = false }

-- ---- vectors among lanes

-- both lists begin with the same numbers, so many
abbrev pub BeginAlike : ℕ → List ℕ → List ℕ → Type 0
BeginAlike m one other = (i : ℕ) → i < m → get_or one i 0 ≡ get_or other i 0

-- where a part of a vector begins, read among the lanes
pub start-in : (n start : ℕ) (lanes : List ℕ) (p : ℕ) → p < n
    → get_or (starts_at n lanes start) (p / PART) 0 ≡ get_or lanes (start + p / PART) 0
start-in n start lanes p within =
    get_or-take (part_count n) (drop start lanes) (p / PART) 0 (omega (arith, within))
    ∙ get_or-drop start lanes (p / PART) 0

module _ (n start m : ℕ) (one other : List ℕ) (told : start + part_count n ≤ m)
    (alike : BeginAlike m one other) where
  place-same : (p : ℕ) → p < n
      → place_in_parts (starts_at n one start) p ≡ place_in_parts (starts_at n other start) p
  place-same p within = ap (λ i. i + p % PART)
      (start-in n start one p within ∙ alike (start + p / PART) (omega (arith, told, within)) ∙ sym
      (start-in n start other p within))

  -- what is among the one is among the other
  pub among-same : IsAmong n one start → m ≤ length other → IsAmong n other start
  among-same among long = record {
    told = omega (arith, told, long);
    before = λ p h. omega (arith, among.before p h, place-same p h);
  }

  -- and is the same vector there
  pub vector-same : IsAmong n one start → vector_after n one start ≡ vector_after n other start
  vector-same among =
      let starts : List ℕ = starts_at n one start in
      let others : List ℕ = starts_at n other start in
      ext_get_or 0 (vector_after n one start) (vector_after n other start)
      (length-parted n starts one ∙ sym (length-parted n others other)) (λ p h.
      let within : p < n = omega (arith, h, length-parted n starts one) in
      lane-parted n starts one p 0 within
      ∙ alike (place_in_parts starts p) (omega (arith, among.before p within, told))
      ∙ ap (λ i. get_or other i 0) (place-same p within)
      ∙ sym (lane-parted n others other p 0 within))

-- a row whose vector is the same
row-same : (n : ℕ) (one other : List ℕ) (row : KeptRow)
    → vector_after n one row.start ≡ vector_after n other row.start
    → row_of n one row ≡ row_of n other row
row-same n one other row same =
    ap (λ (vector : List ℕ). record {
      place = row.place;
      sends = row.sends;
      damaged = row.damaged;
      reach = vector;
    }) same

-- rows are shown the same where each is
map-same : (f g : KeptRow → Row) (rows : List KeptRow) → ((c : ℕ) → c < length rows
    → f (get_or rows c no_kept) ≡ g (get_or rows c no_kept)) → map f rows ≡ map g rows
map-same f g rows same = ext_get_or no_row (map f rows) (map g rows)
    (length-map rows f ∙ sym (length-map rows g)) (λ c h.
    let within : c < length rows = omega (arith, h, length-map rows f) in
    get_or-map f rows c no_kept no_row within ∙ same c within ∙ sym
    (get_or-map g rows c no_kept no_row within))

-- rows are shown the same among lanes that begin alike
rows-same : (n m : ℕ) (one other : List ℕ) (rows : List KeptRow) → AreAmong n one rows
    → ((c : ℕ) → c < length rows → (get_or rows c no_kept).start + part_count n ≤ m)
    → BeginAlike m one other → map (row_of n one) rows ≡ map (row_of n other) rows
rows-same n m one other rows among told alike =
    map-same (row_of n one) (row_of n other) rows (λ c h.
    let row : KeptRow = get_or rows c no_kept in
    row-same n one other row
    (vector-same n row.start m one other (told c h) alike (among c no_kept h)))

-- ---- a row more

-- the rows are laid among the lanes, and show these
pub record Shows (lanes : List ℕ) (rows : List KeptRow) (heard : Bool) (starts present : List ℕ)
    (n : ℕ) (shown : List Row) : Type 0 where
  pub laid : AreLaid lanes rows heard starts present
  pub shows : map (row_of n lanes) rows ≡ shown

module _ (lanes longer old_starts starts present : List ℕ) (rows : List KeptRow) (heard : Bool)
    (place sends : ℕ) (laid : AreLaid lanes rows heard old_starts present)
    (kept : take (length lanes) longer ≡ lanes) (more : length lanes ≤ length longer)
    (few : length longer ≤ length lanes + width_of (length present))
    (ends : EndWith longer present) (held : AreHeld longer starts present) where
  abbrev n : ℕ
  n = length present

  abbrev added-row : KeptRow
  added-row = record {
    place = place;
    sends = sends;
    start = length longer - part_count n;
    damaged = false;
  }

  alike : BeginAlike (length lanes) lanes longer
  alike i h =
      sym (ap (λ (xs : List ℕ). get_or xs i 0) kept) ∙ get_or-take (length lanes) longer i 0 h

  -- the start of an old row, and of the new one
  start-old : (c : ℕ) (d : KeptRow) → c < length rows
      → (get_or (rows ++ added-row ∷ []) c d).start ≡ (get_or rows c d).start
  start-old c d h = ap (λ (r : KeptRow). r.start) (get_or_append_left rows (added-row ∷ []) d c h)

  start-new : (c : ℕ) (d : KeptRow) → c < length (rows ++ added-row ∷ []) → length rows ≤ c
      → (get_or (rows ++ added-row ∷ []) c d).start ≡ length longer - part_count n
  start-new c d h behind = ap (λ (r : KeptRow). r.start)
      (get_or_push rows added-row d c (omega (arith, behind, h, length_push rows added-row)))

  added-among : AreAmong n longer (rows ++ added-row ∷ [])
  added-among c d h = elim (cases_lt c (length rows)) [
    | inl before ↦ subst (IsAmong n longer) (sym (start-old c d before))
        (among-same n (get_or rows c d).start (length lanes) lanes longer
        (laid.among c d before).told alike (laid.among c d before) more)
    | inr behind ↦ subst (IsAmong n longer) (sym (start-new c d h behind)) ends.among
  ]

  added-ordered : (k c : ℕ) (d : KeptRow) → k ≤ c → c < length (rows ++ added-row ∷ [])
      → (get_or (rows ++ added-row ∷ []) k d).start ≤ (get_or (rows ++ added-row ∷ []) c d).start
  added-ordered k c d below h = elim (cases_lt c (length rows)) [
    | inl before ↦ omega (
      arith,
      laid.ordered k c d below before,
      start-old c d before,
      start-old k
          d (omega (arith, below, before)),
    )
    | inr behind ↦ elim (cases_lt k (length rows)) [
      | inl first ↦ omega (
        arith,
        (laid.among k d first).told,
        start-old k d first,
        start-new c d h behind,
        more,
      )
      | inr last ↦ omega
          (arith, start-new k d (omega (arith, below, h)) last, start-new c d h behind)
    ]
  ]

  -- where the new row's vector is told of, the lanes end
  ended : length longer - part_count n + part_count n ≡ length longer
  ended = omega (arith, ends.among.told)

  added-early : (c : ℕ) (d : KeptRow) → c < length (rows ++ added-row ∷ [])
      → (get_or (rows ++ added-row ∷ []) c d).start + part_count n ≤ (c + 1) * width_of n
  added-early c d h = elim (cases_lt c (length rows)) [
    | inl before ↦ omega (arith, laid.early c d before, start-old c d before)
    | inr behind ↦
        let here : length rows ≡ c = omega (arith, behind, h, length_push rows added-row) in
        omega (
          arith,
          start-new c d h behind,
          ended,
          laid.few,
          few,
          add-mul c 1 (width_of n),
          ap (λ k. k * width_of n) here,
        )
  ]

  added-few : length longer ≤ length (rows ++ added-row ∷ []) * width_of n
  added-few = omega (
    arith,
    laid.few,
    few,
    ap (λ k. k * width_of n) (length_push rows added-row),
    add-mul (length rows) 1 (width_of n),
  )

  pub row-laid : Shows longer (rows ++ added-row ∷ []) false starts present n
      (map (row_of n lanes) rows ++ new_row place sends present ∷ [])
  row-laid = record {
    laid = record {
      some = laid.some;
      among = added-among;
      ordered = added-ordered;
      early = added-early;
      few = added-few;
      held = held;
      last = λ same. ends;
    };
    shows = map-append (row_of n longer) rows (added-row ∷ [])
        ∙ ap (λ (xs : List Row). xs ++ row_of n longer added-row ∷ []) (sym
        (rows-same n (length lanes) lanes longer rows laid.among
        (λ c h. (laid.among c no_kept h).told) alike))
        ∙ ap (λ (vector : List ℕ). map (row_of n lanes) rows ++ new_row place sends vector ∷ [])
        ends.vector;
  }

-- ---- back to a row

module _ (lanes starts present : List ℕ) (rows : List KeptRow) (heard : Bool) (c : ℕ)
    (row : KeptRow) (laid : AreLaid lanes rows heard starts present) (within : c < length rows)
    (is : row ≡ get_or rows c row) where
  abbrev w : ℕ
  w = length present

  abbrev back-starts : List ℕ
  back-starts = starts_at w lanes row.start

  abbrev back-vector : List ℕ
  back-vector = vector_after w lanes row.start

  abbrev back-lanes : List ℕ
  back-lanes = take (row.start + part_count w) lanes

  pub back-is-among : IsAmong w lanes row.start
  back-is-among =
      subst (IsAmong w lanes) (ap (λ (r : KeptRow). r.start) (sym is)) (laid.among c row within)

  pub back-within : row.start + part_count w ≤ length lanes
  back-within = back-is-among.told

  pub back-wide : length back-vector ≡ w
  back-wide = length-parted w back-starts lanes

  -- the parts of the vector begin among the lanes
  pub back-parts : ArePartsAmong w back-starts (length lanes)
  back-parts = record {
    enough = omega (
      arith,
      back-within,
      length-take (part_count w) (drop row.start lanes),
      length-drop row.start lanes,
    );
    within = λ p h. omega (arith, back-is-among.before p h, back-within);
  }

  pub back-count : length back-starts ≡ part_count w
  back-count = omega (
    arith,
    back-within,
    length-take (part_count w) (drop row.start lanes),
    length-drop row.start lanes,
  )

  back-many : length back-lanes ≡ row.start + part_count w
  back-many = length-take-le (row.start + part_count w) lanes back-within

  back-alike : BeginAlike (row.start + part_count w) lanes back-lanes
  back-alike i h = sym (get_or-take (row.start + part_count w) lanes i 0 h)

  back-rows : length (take (c + 1) rows) ≡ c + 1
  back-rows = length-take-le (c + 1) rows (omega (arith, within))

  back-start : (k : ℕ) (d : KeptRow) → k < length (take (c + 1) rows)
      → (get_or (take (c + 1) rows) k d).start ≡ (get_or rows k d).start
  back-start k d h =
      ap (λ (r : KeptRow). r.start) (get_or-take (c + 1) rows k d (omega (arith, h, back-rows)))

  back-before : (k : ℕ) (d : KeptRow) → k < length (take (c + 1) rows)
      → (get_or rows k d).start ≤ row.start
  back-before k d h = omega (
    arith,
    laid.ordered k c d (omega (arith, h, back-rows)) within,
    ap
        (λ (r : KeptRow). r.start) (get_or_default rows c d row within ∙ sym is),
  )

  -- the kept rows are among the lanes that are left, as they were among all
  back-kept : (k : ℕ) (d : KeptRow) → k < length (take (c + 1) rows)
      → IsAmong w lanes (get_or (take (c + 1) rows) k d).start
  back-kept k d h = subst (IsAmong w lanes) (sym (back-start k d h))
      (laid.among k d (omega (arith, h, back-rows, within)))

  back-told : (k : ℕ) (d : KeptRow) → k < length (take (c + 1) rows)
      → (get_or (take (c + 1) rows) k d).start + part_count w ≤ row.start + part_count w
  back-told k d h = omega (arith, back-start k d h, back-before k d h)

  back-among : AreAmong w back-lanes (take (c + 1) rows)
  back-among k d h =
      among-same w (get_or (take (c + 1) rows) k d).start
      (row.start + part_count w) lanes back-lanes
      (back-told k d h) back-alike (back-kept k d h) (omega (arith, back-many))

  back-last : EndWith back-lanes back-vector
  back-last =
      let at : length back-lanes - part_count (length back-vector) ≡ row.start = omega
      (arith, back-many, ap part_count back-wide) in
      record {
        among = rw (at, back-wide) (among-same w row.start (row.start + part_count w) lanes
            back-lanes (omega arith) back-alike back-is-among (omega (arith, back-many)));
        vector = rw (at, back-wide) (sym (vector-same w row.start (row.start + part_count w) lanes
            back-lanes (omega arith) back-alike back-is-among));
      }

  -- starts that begin with those of the vector hold its parts
  back-held : (new : List ℕ) → BeginAlike (part_count w) back-starts new
      → AreHeld back-lanes new back-vector
  back-held new begin p h there =
      let below : p < w = omega (arith, h, back-wide) in
      let place : place_in_parts back-starts p < row.start = back-is-among.before p below in
      let same : place_in_parts new p ≡ place_in_parts back-starts p = ap (λ i. i + p % PART)
      (sym (begin (p / PART) (omega (arith, below)))) in (
        omega (arith, same, place, back-many),
        ap (λ i. get_or back-lanes i 0) same
            ∙ sym (back-alike (place_in_parts back-starts p) (omega (arith, place)))
            ∙ sym (lane-parted w back-starts lanes p 0 below),
      )

  pub back-laid : (new : List ℕ) → BeginAlike (part_count w) back-starts new
      → Shows back-lanes (take (c + 1) rows) false new back-vector w
      (take (c + 1) (map (row_of w lanes) rows))
  back-laid new begin = record {
    laid = record {
      some = omega (arith, laid.some, back-wide);
      among = subst (λ m. AreAmong m back-lanes (take (c + 1) rows)) (sym back-wide) back-among;
      ordered = λ k j d below h. omega (
        arith,
        laid.ordered k j d below (omega (
          arith,
          h,
          back-rows,
          within,
        )),
        back-start k d (omega (arith, below, h)),
        back-start j d h,
      );
      early = λ k d h. subst
          (λ m. (get_or (take (c + 1) rows) k d).start + part_count m ≤ (k + 1) * width_of m)
          (sym back-wide)
          (omega (arith, laid.early k d (omega (arith, h, back-rows, within)), back-start k d h));
      few = subst (λ m. length back-lanes ≤ length (take (c + 1) rows) * width_of m)
          (sym back-wide) (omega (
            arith,
            back-many,
            laid.early c row within,
            ap (λ (r : KeptRow). r.start) is,
            ap (λ k. k * width_of w) back-rows,
          ));
      held = back-held new begin;
      last = λ same. back-last;
    };
    shows = sym (rows-same w (row.start + part_count w) lanes back-lanes (take (c + 1) rows)
        (λ k d h. back-kept k d h) (λ k h. back-told k no_kept h) back-alike)
        ∙ sym (take-map (row_of w lanes) (c + 1) rows);
  }

-- ---- other places, or damage, in the same rows

module _ (old new : List KeptRow) (count : length new ≡ length old)
    (start_same : (k : ℕ) (d : KeptRow) → (get_or new k d).start ≡ (get_or old k d).start) where
  pub laid-same : (lanes : List ℕ) (heard : Bool) (starts present : List ℕ)
      → AreLaid lanes old heard starts present → AreLaid lanes new heard starts present
  laid-same lanes heard starts present laid = record {
    some = laid.some;
    among = λ c d h. subst (IsAmong (length present) lanes) (sym (start_same c d))
        (laid.among c d (omega (arith, h, count)));
    ordered = λ k c d below h. omega
        (arith, start_same k d, start_same c d, laid.ordered k c d below (omega (arith, h, count)));
    early = λ c d h. omega (arith, start_same c d, laid.early c d (omega (arith, h, count)));
    few = omega (arith, laid.few, ap (λ k. k * width_of (length present)) count);
    held = laid.held;
    last = laid.last;
  }

-- what is seen of each row is the same, past the last one too
seen-each : {X : Type 0} (see : Row → X) (show : KeptRow → Row) (old new : List KeptRow)
    → length new ≡ length old
    → ((k : ℕ) → k < length old
    → see (show (get_or new k no_kept)) ≡ see (show (get_or old k no_kept))) → (c : ℕ) (d : Row)
    → see (get_or (map show new) c d) ≡ see (get_or (map show old) c d)
seen-each see show old new count same c d = elim (cases_lt c (length old)) [
  | inl before ↦ ap see (get_or-map show new c no_kept d (omega (arith, before, count))) ∙ same c
      before ∙ sym (ap see (get_or-map show old c no_kept d before))
  | inr behind ↦ ap see
      (get_or_past (map show new) c d (omega (arith, behind, count, length-map new show))) ∙ sym
      (ap see (get_or_past (map show old) c d (omega (arith, behind, length-map old show))))
]

-- the same rows with their places
pub record ArePlaced (tape : List Event) (old new : List KeptRow) : Type 0 where
  pub count : length new ≡ length old
  pub places : (k : ℕ) (d : KeptRow) → k < length old
      → (get_or new k d).place ≡ place tape (AtCheck k)
  pub sends_same : (k : ℕ) (d : KeptRow) → (get_or new k d).sends ≡ (get_or old k d).sends
  pub damaged_same : (k : ℕ) (d : KeptRow) → (get_or new k d).damaged ≡ (get_or old k d).damaged
  pub start_same : (k : ℕ) (d : KeptRow) → (get_or new k d).start ≡ (get_or old k d).start

pub placed-shown : (tape : List Event) (old new : List KeptRow) (n : ℕ) (lanes : List ℕ)
    → ArePlaced tape old new → WithPlaces tape (map (row_of n lanes) old) (map (row_of n lanes) new)
placed-shown tape old new n lanes placed =
    let show : KeptRow → Row = row_of n lanes in
    record {
      count = length-map new show ∙ placed.count ∙ sym (length-map old show);
      places = λ c d h.
          let within : c < length old = omega (arith, h, length-map old show) in
          ap (λ (r : Row). r.place) (get_or-map show new c no_kept d
          (omega (arith, within, placed.count))) ∙ placed.places c no_kept within;
      sends_same = seen-each (λ (r : Row). r.sends) show old new placed.count
          (λ k h. placed.sends_same k no_kept);
      damaged_same = seen-each (λ (r : Row). r.damaged) show old new placed.count
          (λ k h. placed.damaged_same k no_kept);
      reach_same = seen-each (λ (r : Row). r.reach) show old new placed.count
          (λ k h. ap (vector_after n lanes) (placed.start_same k no_kept));
    }

-- what rows in step say of the kept ones
pub step-kept : (tape : List Event) (rows : List KeptRow) (n : ℕ) (lanes : List ℕ)
    → AreInStep tape (map (row_of n lanes) rows) → (k c : ℕ) (d : KeptRow) → k ≤ c → c < length rows
    → (get_or rows c d).place ≡ place tape (AtCheck c)
    → (get_or rows k d).place ≡ place tape (AtCheck k)
step-kept tape rows n lanes step k c d below within here =
    let show : KeptRow → Row = row_of n lanes in
    sym (ap (λ (r : Row). r.place) (get_or-map show rows k d no_row (omega (arith, below, within))))
    ∙ step.each k c no_row below (omega (arith, within, length-map rows show))
    (ap (λ (r : Row). r.place) (get_or-map show rows c d no_row within) ∙ here)

-- a row that is damaged from now on
module _ (rows : List KeptRow) (c : ℕ) (row : KeptRow) (within : c < length rows)
    (is : row ≡ get_or rows c row) where
  pub damage-shown : (n : ℕ) (lanes : List ℕ) → map (row_of n lanes)
      (set rows c (record row { damaged = true })) ≡ with_damage (map (row_of n lanes) rows) c
  damage-shown n lanes =
      map-set (row_of n lanes) rows c (record row { damaged = true })
      ∙ ap (λ (r : Row). set (map (row_of n lanes) rows) c (record r { damaged = true }))
      (ap (row_of n lanes) is ∙ sym (get_or-map (row_of n lanes) rows c row no_row within))

  pub damage-start : (k : ℕ) (d : KeptRow)
      → (get_or (set rows c (record row { damaged = true })) k d).start ≡ (get_or rows k d).start
  damage-start k d = elim (cases_eq k c) [
    | inl here ↦ subst
        (λ j. (get_or (set rows c (record row { damaged = true })) j d).start
        ≡ (get_or rows j d).start) (sym here)
        (ap (λ (r : KeptRow). r.start) (get_or-set_same rows c (record row { damaged = true }) d
        within) ∙ ap (λ (r : KeptRow). r.start) (is ∙ get_or_default rows c row d within))
    | inr apart ↦ ap (λ (r : KeptRow). r.start)
        (get_or-set_other rows c k (record row { damaged = true }) d apart)
  ]

-- how many lanes there are at most, before a row more
pub few-lanes : (rows lanes n : ℕ) → rows ≤ MOST_EVENTS → n ≤ MOST_PROCESSES
    → lanes ≤ rows * width_of n → lanes + width_of n < NOT_LAID
few-lanes rows lanes n few narrow laid =
    omega (
      arith,
      laid,
      narrow,
      mul-le rows (width_of n) MOST_EVENTS 272 few
          (omega (arith, narrow)),
    )
