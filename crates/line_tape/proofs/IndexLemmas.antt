-- What a cut and a restart leave of what a tape keeps beside its events.
use Rattle.std.proofs.Common.{◌≡◌, ℕ, suc, ◌+◌, ◌-◌, ◌<◌, ◌≤◌, true, false, cond, List, [], ◌∷◌}
use Rattle.std.proofs.Common.{◌++◌, length, take, drop, get_or, set, Option, Some, None, refl, sym}
use Rattle.std.proofs.Common.{ap, ◌∙◌, subst, arith, inl, inr}
use Rattle.std.specs.Prelude.{min}
use Rattle.std.specs.List.{All, Contains, filter_map, cons_option, swap}
use Rattle.std.proofs.lemmas.Bool.{cases_lt, cases_eq}
use Rattle.std.proofs.lemmas.List.{length-take, length-take-le, length_push, length-set, take_more}
use Rattle.std.proofs.lemmas.List.{take_more_set, take-set-le, take-take, take_at, take_all}
use Rattle.std.proofs.lemmas.List.{take-append-le, take-append-drop, drop_more, drop-set-lt}
use Rattle.std.proofs.lemmas.List.{get_or-take, get_or_default, get_or-set_same, get_or-set_other}
use Rattle.std.proofs.lemmas.List.{append-nil}
use Rattle.std.proofs.lemmas.List.Edits.{swap_is}
use Rattle.std.proofs.lemmas.List.Elements.{All-nil, All-cons, All-append, All-take, All-head}
use Rattle.std.proofs.lemmas.List.Elements.{All-tail, All-contains_itself, All-weaker}
use Rattle.std.proofs.lemmas.List.Elements.{filter_map-append}
use Rattle.line_tape.specs.declared.events.Event.{Event}
use Rattle.line_tape.specs.declared.events.Event.TheVariants.{Send, Recv, Check, Mark}
use Rattle.line_tape.specs.declared.tapes.CheckRow.{CheckRow}
use Rattle.line_tape.specs.Event.{is_check, checks, incarnations_sent, sends, IsShort}
use Rattle.line_tape.specs.declared.limits.TheConstants.{MOST_EVENTS}
use Rattle.line_tape.specs.Front.{check_place}
use Rattle.line_tape.specs.History.{IsTape}
use Rattle.line_tape.specs.Kept.{IsCheckRow, AreCheckRows, HaveCheckPlaces, IsSettled, AreSettled}
use Rattle.line_tape.specs.Restart.{restarted_event}
use Rattle.line_tape.specs.Transit.{addressee_of, addressees, names_received}
use Rattle.line_tape.proofs.EventLemmas.{length_addressees}
use Rattle.line_tape.proofs.CutLemmas.{checks_left, checks_take, comes_from, sent_left}
use Rattle.line_tape.proofs.FrontLemmas.{check_place-le}
use Rattle.line_tape.proofs.StayLemmas.{addressees_restarted, front_restarted, names_restarted}
use Rattle.line_tape.proofs.RowLemmas.{check_place-append, check_place-last, checks-push}
use Rattle.line_tape.proofs.RowLemmas.{sent_front, told_front}

-- a row serves the first events too, if its check is among them
IsRow-take : (events : List Event) (n c : ℕ) (row : CheckRow) → c < checks (take n events)
    → IsCheckRow events c row → IsCheckRow (take n events) c row
IsRow-take events n c row h r =
    let at : ℕ = check_place (take n events) (suc c) in
    let same : check_place events (suc c)
    ≡ at = ap (λ xs. check_place xs (suc c)) (sym (take-append-drop n events)) ∙
    check_place-append (take n events) (drop n events) (suc c) h in
    let le : at ≤ n = omega (arith, check_place-le (take n events) (suc c), length-take n events) in
    let fronts : take at (take n events) ≡ take (check_place events (suc c)) events = take-take at n
    events le ∙ ap (λ k. take k events) (sym same) in
    record {
      place_is = r.place_is ∙ same;
      sends_is = r.sends_is ∙ ap (λ xs. length (incarnations_sent xs)) (sym fronts);
      receipts_is = r.receipts_is ∙ ap (λ xs. length (names_received xs)) (sym fronts);
    }

-- the first rows, incarnations and addressees are those of the first events
pub AreRows-take : (events : List Event) (rows : List CheckRow) (incarnations addressed : List ℕ)
    (n : ℕ) → AreCheckRows events rows incarnations addressed
    → AreCheckRows (take n events) (take (checks (take n events)) rows)
    (take (sends (take n events)) incarnations) (take (sends (take n events)) addressed)
AreRows-take events rows incarnations addressed n r =
    let few : ℕ = checks (take n events) in
    let sent : ℕ = sends (take n events) in
    record {
      sent = ap (take sent) r.sent ∙ sym (sent_front events n);
      named = ap (take sent) r.named ∙ ap (λ k. take k (addressees events))
          (sym (length_addressees (take n events))) ∙ sym (told_front addressee_of events n);
      count = omega (arith, length-take few rows, r.count, checks_take events n);
      each = λ c d k.
          let within : c < few = omega (arith, length-take few rows) in
          subst (IsCheckRow (take n events) c) (sym (get_or-take few rows c d within))
          (IsRow-take events n c (get_or rows c d) within
          (r.each c d (omega (arith, r.count, checks_take events n))));
    }

-- a tape keeps within the limits where there is room under them
pub IsTape-push : (events : List Event) (e : Event) → length events < MOST_EVENTS → IsShort e
    → IsTape events → IsTape (events ++ e ∷ [])
IsTape-push events e room short t =
    record {
      few = omega (arith, room, length_push events e);
      short = All-append IsShort events
          (e ∷ []) t.short (All-cons IsShort e [] short (All-nil IsShort));
    }

-- an event more leaves settled what was
pub AreSettled-push : (events : List Event) (e : Event) (settled : ℕ) → AreSettled events settled
    → AreSettled (events ++ e ∷ []) settled
AreSettled-push events e settled s =
    record {
      within = omega (arith, s.within, length_push events e);
      each = subst (All IsSettled) (sym (take-append-le settled events (e ∷ []) s.within)) s.each;
    }

-- of the first events as many are settled as were, or all
pub AreSettled-take : (events : List Event) (settled n : ℕ) → n ≤ length events
    → AreSettled events settled → AreSettled (take n events) (min settled n)
AreSettled-take events settled n le s =
    let k : ℕ = min settled n in
    let same : take k (take settled events) ≡ take k (take n events) = take-take k settled events
    (omega arith) ∙ sym (take-take k n events (omega arith)) in
    record {
      within = omega (arith, length-take n events);
      each = subst (All IsSettled) same (All-take IsSettled k (take settled events) s.each);
    }

-- what leaves each element as it is leaves the list
pub same_each : {A : Type 0} (left : A → Option A) (xs : List A) → All (λ x. left x ≡ Some x) xs
    → filter_map left xs ≡ xs
same_each left [] all = refl
same_each {A} left (x ∷ xs) all =
    let Stays : A → Type 0 = λ y. left y ≡ Some y in
    ap (λ o. cons_option o (filter_map left xs)) (All-head Stays x xs all) ∙ ap (λ ys. x ∷ ys)
    (same_each left xs (All-tail Stays x xs all))

-- a restart leaves settled events as they are
settled_same : (events : List Event) → All IsSettled events
    → filter_map restarted_event events ≡ events
settled_same events all = same_each restarted_event events all

settles : (x y : Event) → restarted_event x ≡ Some y → IsSettled y
settles (Send to inc body) y e = let same : Send to inc body ≡ y = cc e in subst IsSettled same refl
settles (Recv message) y e = let same : Recv message ≡ y = cc e in subst IsSettled same refl
settles (Check state round) y e =
    let same : Check state None ≡ y = cc e in subst IsSettled same refl
settles (Mark from round) y e = absurd (cc e)

-- what a restart leaves is settled
pub settled_left : (events : List Event)
    → AreSettled (filter_map restarted_event events) (length (filter_map restarted_event events))
settled_left events =
    let left : List Event = filter_map restarted_event events in
    let all : All IsSettled left = All-weaker (Contains left) IsSettled (λ y c.
    let from = comes_from restarted_event events y c in
    settles from.source y from.gives) left (All-contains_itself left) in
    record {
      within = omega arith;
      each = subst (All IsSettled)
          (sym (take_all (length left) left (omega arith))) all;
    }

module _ {A : Type 0} (left : A → Option A) (old events : List A) (i end : ℕ) (x y : A)
    (within : i < length old) (many : length events ≡ length old) (le : end ≤ i)
    (rest : drop i events ≡ drop i old) (done : take end events ≡ filter_map left (take i old))
    (is : x ≡ get_or events i x) where
  heads : get_or events i x ∷ drop (i + 1) events ≡ get_or old i x ∷ drop (i + 1) old
  heads = sym (drop_more events i x (omega (arith, many))) ∙ rest ∙ drop_more old i x within

  told : filter_map left (take (i + 1) old)
      ≡ filter_map left (take i old) ++ cons_option (left x) []
  told =
      let item : get_or old i x ≡ x = cc (heads, is) in
      ap (filter_map left) (take_more old i x within) ∙ filter_map-append left (take i old)
      (get_or old i x ∷ []) ∙ ap
      (λ (e : A). filter_map left (take i old) ++ cons_option (left e) []) item

  -- an event that stays moves down to the end of those that stayed
  pub settle-kept : left x ≡ Some y
      → take (end + 1) (swap (set events i y) i end) ≡ filter_map left (take (i + 1) old)
  settle-kept stays =
      let zs : List A = set events i y in
      let at : i < length zs = omega (arith, many, length-set events i y) in
      let w : A = get_or zs end x in
      let end_in : end < length (set zs i w) = omega (arith, length-set zs i w) in
      let swapped : swap zs i end
      ≡ set (set zs i w) end y = sym (swap_is zs i end x at (omega arith)) ∙ ap
      (set (set zs i w) end) (get_or-set_same events i y x (omega (arith, many))) in
      let before : take end (set zs i w)
      ≡ take end events = take-set-le end zs i w le ∙ take-set-le end events i y le in
      ap (take (end + 1)) swapped ∙ take_more_set (set zs i w) end y end_in ∙ ap
      (λ xs. xs ++ y ∷ []) (before ∙ done) ∙ ap
      (λ o. filter_map left (take i old) ++ cons_option o []) (sym stays) ∙ sym told

  pub settle-kept_rest : drop (i + 1) (swap (set events i y) i end) ≡ drop (i + 1) old
  settle-kept_rest =
      let zs : List A = set events i y in
      let w : A = get_or zs end x in
      let at : i < length zs = omega (arith, many, length-set events i y) in
      let swapped : swap zs i end
      ≡ set (set zs i w) end (get_or zs i x) = sym (swap_is zs i end x at (omega arith)) in
      ap (drop (i + 1)) swapped ∙ drop-set-lt (i + 1) (set zs i w) end (get_or zs i x)
      (omega arith) ∙ drop-set-lt (i + 1) zs i w (omega arith) ∙ drop-set-lt (i + 1) events i y
      (omega arith) ∙ cc heads

  -- an event that goes is passed by
  pub settle-gone : left x ≡ None → take end (set events i y) ≡ filter_map left (take (i + 1) old)
  settle-gone none =
      take-set-le end events i y le ∙ done ∙ sym (append-nil (filter_map left (take i old))) ∙ ap
      (λ o. filter_map left (take i old) ++ cons_option o []) (sym none) ∙ sym told

  pub settle-gone_rest : drop (i + 1) (set events i y) ≡ drop (i + 1) old
  settle-gone_rest = drop-set-lt (i + 1) events i y (omega arith) ∙ cc heads

-- how far the rows behind a check have the places of their checks
pub record ArePlaced (events : List Event) (old new : List CheckRow) (i index : ℕ) : Type 0 where
  pub count : index ≡ checks (take i events)
  pub same_length : length new ≡ length old
  pub places : (k : ℕ) (d : CheckRow) → index ≤ k → k < length old
      → (get_or new k d).place ≡ check_place events (suc k)
  pub others : (k : ℕ) (d : CheckRow) → k < index → get_or new k d ≡ get_or old k d
  pub sends_same : (k : ℕ) (d : CheckRow) → (get_or new k d).sends ≡ (get_or old k d).sends
  pub receipts_same : (k : ℕ) (d : CheckRow) → (get_or new k d).receipts ≡ (get_or old k d).receipts

pub placed-start : (events : List Event) (rows : List CheckRow) (n : ℕ)
    → length rows ≡ checks events → n ≡ length rows → ArePlaced events rows rows (length events) n
placed-start events rows n many is =
    record {
      count = is ∙ many ∙ ap checks (sym (take_all (length events) events (omega arith)));
      same_length = refl;
      places = λ k d from within. absurd (omega arith);
      others = λ k d within. refl;
      sends_same = λ k d. refl;
      receipts_same = λ k d. refl;
    }

module _ (events : List Event) (old new : List CheckRow) (i index : ℕ) (x : Event) (below : 1 ≤ i)
    (within : i ≤ length events) (is : x ≡ get_or events (i - 1) x)
    (h : ArePlaced events old new i index) where
  grown : checks (take i events) ≡ checks (take (i - 1) events) + cond (is_check x) 1 0
  grown =
      let next : i ≡ i - 1 + 1 = omega arith in
      ap (λ k. checks (take k events)) next ∙ ap checks
      (take_more events (i - 1) x (omega arith) ∙ ap (λ (e : Event). take (i - 1) events
      ++ e ∷ []) (sym is)) ∙ checks-push (take (i - 1) events) x

  -- an event that is no check
  pub placed-other : is_check x ≡ false → ArePlaced events old new (i - 1) index
  placed-other other = record {
    count = omega (arith, h.count, grown, ap {B = ℕ} (λ b. cond b 1 0) other);
    same_length = h.same_length;
    places = h.places;
    others = h.others;
    sends_same = h.sends_same;
    receipts_same = h.receipts_same;
  }

  stands : is_check x ≡ true → check_place events (suc (checks (take (i - 1) events))) ≡ i
  stands check =
      let before : List Event = take (i - 1) events in
      let next : i ≡ i - 1 + 1 = omega arith in
      let front : take i events ≡ before ++ x ∷ [] = ap (λ k. take k events) next ∙ take_more events
      (i - 1) x (omega arith) ∙ ap (λ (e : Event). before ++ e ∷ []) (sym is) in
      let whole : events ≡ (before ++ x ∷ []) ++ drop i events = sym
      (take-append-drop i events) ∙ ap (λ xs. xs ++ drop i events) front in
      let here : check_place events (suc (checks before))
      ≡ check_place (before ++ x ∷ []) (suc (checks before)) = ap
      (λ xs. check_place xs (suc (checks before))) whole ∙ check_place-append (before ++ x ∷ [])
      (drop i events) (suc (checks before))
      (omega (arith, checks-push before x, ap {B = ℕ} (λ b. cond b 1 0) check)) in
      omega (arith, here, check_place-last before x check, length-take (i - 1) events)

  -- a check has a row, which is the one before
  pub placed-some : is_check x ≡ true → 1 ≤ index
  placed-some check = omega (arith, h.count, grown, ap {B = ℕ} (λ b. cond b 1 0) check)

  pub placed-within : is_check x ≡ true → length old ≡ checks events → index - 1 < length new
  placed-within check many =
      omega (arith, h.count, h.same_length, many, checks_take events i, placed-some check)

  pub placed-check : (row row' : CheckRow) → is_check x ≡ true → length old ≡ checks events
      → row ≡ get_or new (index - 1) row → row'.place ≡ i → row'.sends ≡ row.sends → row'.receipts
      ≡ row.receipts → ArePlaced events old (set new (index - 1) row') (i - 1) (index - 1)
  placed-check row row' check many at place sends_as receipts_as =
      let some : 1 ≤ index = placed-some check in
      let inside : index - 1 < length new = placed-within check many in
      let last : index - 1 ≡ checks (take (i - 1) events) = omega
      (arith, h.count, grown, ap {B = ℕ} (λ b. cond b 1 0) check) in
      let k' : ℕ = index - 1 in
      let old_at : (d : CheckRow)
      → get_or new k' d ≡ row = λ d. get_or_default new k' d row inside ∙ sym at in
      let new_at : (d : CheckRow)
      → get_or (set new k' row') k' d ≡ row' = λ d. get_or-set_same new k' row' d inside in
      record {
        count = last;
        same_length = length-set new k' row' ∙ h.same_length;
        places = λ k d from within. elim (cases_eq k k') [
          | inl e ↦ ap (λ j. (get_or (set new k' row') j d).place) e ∙ ap
              (λ (r : CheckRow). r.place) (new_at d) ∙ place ∙ sym (stands check) ∙ ap
              (λ j. check_place events (suc j)) (sym last ∙ sym e)
          | inr apart ↦ ap (λ (r : CheckRow). r.place)
              (get_or-set_other new k' k row' d apart) ∙ h.places k d (omega arith) within
        ];
        others = λ k d within. get_or-set_other new k' k row' d (omega arith) ∙ h.others k d
            (omega arith);
        sends_same = λ k d. elim (cases_eq k k') [
          | inl e ↦ ap (λ j. (get_or (set new k' row') j d).sends) e ∙ ap
              (λ (r : CheckRow). r.sends) (new_at d) ∙ sends_as ∙ ap (λ (r : CheckRow). r.sends)
              (sym (old_at d)) ∙ ap (λ j. (get_or new j d).sends) (sym e) ∙ h.sends_same k d
          | inr apart ↦ ap (λ (r : CheckRow). r.sends)
              (get_or-set_other new k' k row' d apart) ∙ h.sends_same k d
        ];
        receipts_same = λ k d. elim (cases_eq k k') [
          | inl e ↦ ap (λ j. (get_or (set new k' row') j d).receipts) e ∙ ap
              (λ (r : CheckRow). r.receipts) (new_at d) ∙ receipts_as ∙ ap
              (λ (r : CheckRow). r.receipts) (sym (old_at d)) ∙ ap (λ j. (get_or new j d).receipts)
              (sym e) ∙ h.receipts_same k d
          | inr apart ↦ ap (λ (r : CheckRow). r.receipts)
              (get_or-set_other new k' k row' d apart) ∙ h.receipts_same k d
        ];
      }

-- the rows have all their places once the loop has come to those that were right
pub placed-done : (events : List Event) (old new : List CheckRow) (i index : ℕ)
    → ArePlaced events old new i index → ((k : ℕ) (d : CheckRow) → k < checks (take i events)
    → (get_or old k d).place ≡ check_place events (suc k)) → HaveCheckPlaces events old new
placed-done events old new i index h early =
    record {
      same_length = h.same_length;
      places = λ k d within. elim (cases_lt k index) [
        | inl low ↦ ap (λ (r : CheckRow). r.place) (h.others k d low) ∙ early k d
            (omega (arith, h.count))
        | inr high ↦ h.places k d (omega arith) within
      ];
      sends_same = h.sends_same;
      receipts_same = h.receipts_same;
    }

module _ (events : List Event) (rows : List CheckRow) (incarnations addressed : List ℕ)
    (r : AreCheckRows events rows incarnations addressed) where
  -- the rows serve what a restart leaves, with new places
  pub AreRows-restarted : (rows' : List CheckRow)
      → HaveCheckPlaces (filter_map restarted_event events) rows rows'
      → AreCheckRows (filter_map restarted_event events) rows' incarnations addressed
  AreRows-restarted rows' w =
      record {
        sent = r.sent ∙ sym (sent_left events);
        named = r.named ∙ sym (addressees_restarted events);
        count = w.same_length ∙ r.count ∙ sym (checks_left events);
        each = λ c d k.
            let inside : c < length rows = omega (arith, w.same_length) in
            let old : IsCheckRow events c (get_or rows c d) = r.each c d inside in
            let before : List Event = take (check_place events (suc c)) events in
            record {
              place_is = w.places c d inside;
              sends_is = w.sends_same c d ∙ old.sends_is ∙ sym
                  (ap (λ (xs : List Event). length (incarnations_sent xs))
                  (front_restarted events (suc c)) ∙ ap length (sent_left before));
              receipts_is = w.receipts_same c d ∙ old.receipts_is ∙ sym
                  (ap (λ (xs : List Event). length (names_received xs))
                  (front_restarted events (suc c)) ∙ ap length (names_restarted before));
            };
      }

  module _ (settled : ℕ) (s : AreSettled events settled) where
    parts : filter_map restarted_event events
        ≡ take settled events ++ filter_map restarted_event (drop settled events)
    parts =
        ap (filter_map restarted_event)
        (sym (take-append-drop settled events)) ∙ filter_map-append restarted_event
        (take settled events) (drop settled events) ∙ ap (λ xs. xs ++ filter_map restarted_event
        (drop settled events)) (settled_same (take settled events) s.each)

    front_same : take settled (filter_map restarted_event events) ≡ take settled events
    front_same = ap (take settled) parts ∙ take_at (take settled events) (filter_map restarted_event
        (drop settled events)) settled (length-take-le settled events s.within)

    -- no settled event goes
    pub settled_within : settled ≤ length (filter_map restarted_event events)
    settled_within = omega (
      arith,
      ap (λ (xs : List Event). length xs) front_same,
      length-take-le
          settled events s.within,
      length-take settled (filter_map restarted_event events),
    )

    -- the places of the settled checks are right as they are
    pub settled_places : (c : ℕ) (d : CheckRow)
        → c < checks (take settled (filter_map restarted_event events))
        → (get_or rows c d).place ≡ check_place (filter_map restarted_event events) (suc c)
    settled_places c d within =
        let early : c < checks (take settled events) = omega (arith, ap checks front_same) in
        let row : IsCheckRow events c (get_or rows c d) = r.each c d
        (omega (arith, r.count, checks_take events settled)) in
        row.place_is ∙ ap (λ (xs : List Event). check_place xs (suc c))
        (sym (take-append-drop settled events)) ∙ check_place-append (take settled events)
        (drop settled events) (suc c) early
        ∙ sym (check_place-append (take settled events) (filter_map restarted_event (drop settled
        events)) (suc c) early) ∙ ap (λ (xs : List Event). check_place xs (suc c)) (sym parts)

-- what is at most the lesser of two is at most each of them, and the other way round
under_first : (n a b : ℕ) → n ≤ min a b → n ≤ a
under_first n a b h = omega arith

under_second : (n a b : ℕ) → n ≤ min a b → n ≤ b
under_second n a b h = omega arith

under_both : (n a b : ℕ) → n ≤ a → n ≤ b → n ≤ min a b
under_both n a b h k = omega arith

one_less : (n a b : ℕ) → n ≤ a → a ≤ b + 1 → n - 1 ≤ b
one_less n a b h k = omega arith

pub lower : (n a b : ℕ) → n ≤ a → a ≤ b → n ≤ b
lower n a b h k = omega arith

-- a list that has at most one element more has room for one less at most
pub room_left : (capacity len more longer : ℕ) → (capacity ≤ more) × (longer ≤ len + 1)
    → capacity - len ≤ more - longer + 1
room_left capacity len more longer (h, k) = omega arith

-- a count of further events that have room, once one is added
pub counted-push :
    (spare log receipts incarnations addressees log' receipts' incarnations' addressees' : ℕ)
    → spare ≤ min (min log receipts) (min incarnations addressees)
    → log ≤ log' + 1 → receipts ≤ receipts' + 1 → incarnations ≤ incarnations' + 1
    → addressees ≤ addressees' + 1
    → spare - 1 ≤ min (min log' receipts') (min incarnations' addressees')
counted-push spare log receipts incarnations addressees log' receipts' incarnations' addressees'
    most a b c d =
    let seen = under_first spare (min log receipts) (min incarnations addressees) most in
    let sent = under_second spare (min log receipts) (min incarnations addressees) most in
    under_both (spare - 1) (min log' receipts') (min incarnations' addressees')
    (under_both (spare - 1) log' receipts' (one_less spare log log' (under_first spare log receipts
    seen) a) (one_less spare receipts receipts' (under_second spare log receipts seen) b))
    (under_both (spare - 1) incarnations' addressees'
    (one_less spare incarnations incarnations'
    (under_first spare incarnations addressees sent) c)
    (one_less spare addressees addressees' (under_second spare incarnations addressees sent) d))
