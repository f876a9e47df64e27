-- Which sends are received, as the receipts of the processes are gone through, and what is in
-- transit by that.
use Rattle.std.proofs.Common.{◌≡◌, ℕ, zero, suc, ◌+◌, ◌<◌, ◌≤◌, Bool, true, false, not, cond, List}
use Rattle.std.proofs.Common.{[], ◌∷◌, ◌++◌, length, take, drop, get_or, set, map, filter}
use Rattle.std.proofs.Common.{replicate, Some, refl, sym, ap, ◌∙◌, subst, arith, ◌||◌, inl, inr}
use Rattle.std.proofs.Common.{length-append}
use Rattle.std.specs.Prelude.{◌==◌}
use Rattle.std.specs.List.{list_any, slice_get}
use Rattle.std.proofs.Math.Bool.{or-false}
use Rattle.std.proofs.lemmas.Bool.{cases_lt, cases_eq, eq-eqb, ne_eqb, le-ltb, lt-ltb}
use Rattle.std.proofs.lemmas.List.{append_assoc, append-nil, length-set, length-replicate}
use Rattle.std.proofs.lemmas.List.{get_or-set_same, get_or-set_other, take-append-drop, take_more}
use Rattle.std.proofs.lemmas.List.{get_or_default, get_or_past, map-append}
use Rattle.std.proofs.lemmas.List.Elements.{Contains-push, filter_map-append, filter-append}
use Rattle.std.proofs.lemmas.Option.{same_Some, slice_get_within}
use Rattle.line_names.specs.declared.choices.Choice.{Choice}
use Rattle.line_names.specs.declared.messages.MsgName.{MsgName}
use Rattle.line_names.specs.Lines.{choice_at}
use Rattle.line_names.specs.Names.{is_name}
use Rattle.line_names.proofs.NameLemmas.{is_name-true}
use Rattle.line_tape.specs.declared.events.Event.{Event}
use Rattle.line_tape.specs.declared.events.Event.TheVariants.{Send, Recv, Check, Mark}
use Rattle.line_tape.specs.Event.{incarnations_sent, sends}
use Rattle.line_tape.specs.Fit.{IsSentTo}
use Rattle.line_tape.specs.Front.{front, place}
use Rattle.line_tape.specs.History.{Process, tape_at}
use Rattle.line_tape.specs.Line.{events_before}
use Rattle.line_tape.specs.Received.{with_seen, seen_below, AreCleared, AreTold, HasFlags, IsTold}
use Rattle.line_tape.specs.Transit.{Letter, letters, is_open_letter, received_name, names_received}
use Rattle.line_tape.specs.Transit.{has_received, addressee_of, addressees}
use Rattle.line_tape.proofs.FrontLemmas.{slice_get-append_left}
use Rattle.line_tape.proofs.ListLemmas.{any_push, slice_get_front}
use Rattle.line_tape.proofs.LineLemmas.{tape_at-past, front-empty}
use Rattle.line_tape.proofs.RowLemmas.{told-some}
use Rattle.line_tape.proofs.EventLemmas.{name_of}
use Rattle.line_tape.proofs.StayLemmas.{holds_whole}
use Rattle.line_tape.proofs.TransitLemmas.{has_received-iff, letter_of}

-- the same is told where the same is received
pub told-alike : (history : List Process) (line : List Choice) (seen seen' : ℕ → List Event)
    (rows : List (List Bool)) → ((to : ℕ) (m : MsgName) → has_received (seen to) m
    ≡ has_received (seen' to) m) → AreTold history line seen rows → AreTold history line seen' rows
told-alike history line seen seen' rows alike told =
    record {
      whole = told.whole;
      each = λ p within. record {
        each = λ k inc to i a.
            (told.each p within).each k inc to i a ∙ alike to (name_of p inc k);
      };
    }

-- and where the same is seen
pub told-same : (history : List Process) (line : List Choice) (seen seen' : ℕ → List Event)
    (rows : List (List Bool)) → ((to : ℕ) → seen to ≡ seen' to) → AreTold history line seen rows
    → AreTold history line seen' rows
told-same history line seen seen' rows same told = told-alike history line seen seen' rows
    (λ to m. ap (λ (es : List Event). has_received es m) (same to)) told

-- the receipts of these messages
abbrev pub receipts_of : List MsgName → List Event
receipts_of names = map (λ (m : MsgName). Recv m) names

pub receipt_of : (names : List MsgName) (i : ℕ) (m : MsgName) → slice_get names i ≡ Some m
    → slice_get (receipts_of names) i ≡ Some (Recv m)
receipt_of [] i m h = absurd (omega (arith, slice_get_within [] i m h))
receipt_of (x ∷ xs) zero m h = ap (λ (y : MsgName). Some (Recv y)) (same_Some x m h)
receipt_of (x ∷ xs) (suc i) m h = receipt_of xs i m h

names_of_receipts : (names : List MsgName) → names_received (receipts_of names) ≡ names
names_of_receipts [] = refl
names_of_receipts (x ∷ xs) = ap (λ (ys : List MsgName). x ∷ ys) (names_of_receipts xs)

-- what was received before a choice is the first that its tape received
pub names_split : (tape : List Event) (n : ℕ)
    → names_received tape ≡ names_received (take n tape) ++ names_received (drop n tape)
names_split tape n = ap names_received
    (sym (take-append-drop n tape)) ∙ filter_map-append received_name (take n tape) (drop n tape)

pub names_within : (tape : List Event) (n i : ℕ) → i < length (names_received (take n tape))
    → i < length (names_received tape)
names_within tape n i within = omega (
  arith,
  ap length (names_split tape n),
  length-append
      (names_received (take n tape)) (names_received (drop n tape)),
)

pub name_before : (tape : List Event) (n i : ℕ) (m : MsgName)
    → i < length (names_received (take n tape)) → slice_get (names_received tape) i ≡ Some m
    → slice_get (names_received (take n tape)) i ≡ Some m
name_before tape n i m within at = slice_get_front (names_received (take n tape))
    (names_received (drop n tape)) i m within
    (ap (λ (ms : List MsgName). slice_get ms i) (sym (names_split tape n)) ∙ at)

-- a row that has a place is one of the rows
pub row_within : (rows : List (List Bool)) (p k : ℕ) → k < length (get_or rows p [])
    → p < length rows
row_within [] zero k h = absurd (omega (arith, h))
row_within [] (suc p) k h = absurd (omega (arith, h))
row_within (r ∷ rows) zero k h = omega arith
row_within (r ∷ rows) (suc p) k h = omega (arith, row_within rows p k h)

module _ (seen : ℕ → List Event) (q : ℕ) where
  -- what is seen of q
  pub seen-at : (es : List Event) → with_seen seen q es q ≡ es
  seen-at es = ap (λ b. cond b es (seen q)) (eq-eqb q q refl)

  -- nothing more
  pub seen-start : (to : ℕ) → seen to ≡ with_seen seen q (seen q ++ []) to
  seen-start to = elim (cases_eq to q) [
    | inl e ↦ ap seen e ∙ sym (append-nil (seen q)) ∙ sym
        (ap (λ b. cond b (seen q ++ []) (seen to)) (eq-eqb to q e))
    | inr apart ↦ sym (ap (λ b. cond b (seen q ++ []) (seen to)) (ne_eqb to q apart))
  ]

  -- more of q in place of what was seen of it
  seen-again : (es more : List Event) (to : ℕ)
      → with_seen (with_seen seen q es) q more to ≡ with_seen seen q more to
  seen-again es more to = elim (to == q) as (λ b. cond b more (cond b es (seen to))
      ≡ cond b more (seen to)) [ true ↦ refl | false ↦ refl ]

  -- one event more
  pub seen-next : (events : List Event) (i : ℕ) (e : Event) → i < length events
      → e ≡ get_or events i e → (to : ℕ)
      → with_seen (with_seen seen q (seen q ++ take i events)) q (with_seen seen q (seen q
      ++ take i events) q ++ e ∷ []) to ≡ with_seen seen q (seen q ++ take (i + 1) events) to
  seen-next events i e within is to =
      let so_far : List Event = seen q ++ take i events in
      let more : with_seen seen q so_far q ++ e ∷ []
      ≡ seen q ++ take (i + 1) events = ap (λ xs. xs ++ e ∷ []) (seen-at so_far) ∙ append_assoc
      (seen q) (take i events) (e ∷ []) ∙ ap (λ (x : Event). seen q ++ (take i events
      ++ x ∷ [])) is ∙ ap (λ xs. seen q ++ xs) (sym (take_more events i e within)) in
      seen-again so_far (with_seen seen q so_far q ++ e ∷ []) to ∙ ap
      (λ xs. with_seen seen q xs to) more

  -- the receipts alone of more of q
  pub seen-receipts : (es : List Event) (to : ℕ) (m : MsgName)
      → has_received (with_seen seen q (seen q ++ receipts_of (names_received es)) to) m
      ≡ has_received (with_seen seen q (seen q ++ es) to) m
  seen-receipts es to m =
      let old : List Event = seen q in
      let names : names_received (old ++ receipts_of (names_received es))
      ≡ names_received (old ++ es) =
      filter_map-append received_name old (receipts_of (names_received es))
      ∙ ap (λ (ms : List MsgName). names_received old ++ ms) (names_of_receipts (names_received es))
      ∙ sym (filter_map-append received_name old es) in
      elim (to == q) as (λ b. has_received (cond b (old ++ receipts_of (names_received es))
      (seen to)) m ≡ has_received (cond b (old ++ es) (seen to)) m) [
        | true ↦ ap (list_any (is_name m)) names
        | false ↦ refl
      ]

-- the rows of the first n processes have no flag that is set
pub record IsClearing (old new : List (List Bool)) (n : ℕ) : Type 0 where
  pub processes : length new ≡ length old
  pub sends_of : (p : ℕ) → length (get_or new p []) ≡ length (get_or old p [])
  pub none : (p k : ℕ) → p < n → get_or (get_or new p []) k false ≡ false

-- one row more
pub clearing-next : (old rows : List (List Bool)) (n : ℕ) (row : List Bool) → n < length rows
    → row ≡ get_or rows n row → IsClearing old rows n
    → IsClearing old (set rows n (replicate (length row) false)) (n + 1)
clearing-next old rows n row within is so_far =
    let clear : List Bool = replicate (length row) false in
    let same : get_or rows n [] ≡ row = get_or_default rows n [] row within ∙ sym is in
    let here : get_or (set rows n clear) n [] ≡ clear = get_or-set_same rows n clear [] within in
    record {
      processes = length-set rows n clear ∙ so_far.processes;
      sends_of = λ p. elim (cases_eq p n) [
        | inl at ↦ ap (λ j. length (get_or (set rows n clear) j [])) at ∙ ap
            (λ (xs : List Bool). length xs) here ∙ length-replicate (length row) false ∙ ap
            (λ (xs : List Bool). length xs) (sym same) ∙ ap (λ j. length (get_or rows j []))
            (sym at) ∙ so_far.sends_of p
        | inr apart ↦ ap (λ (xs : List Bool). length xs)
            (get_or-set_other rows n p clear [] apart) ∙ so_far.sends_of p
      ];
      none = λ p k low. elim (cases_eq p n) [
        | inl at ↦ ap (λ j. get_or (get_or (set rows n clear) j []) k false) at ∙ ap
            (λ (xs : List Bool). get_or xs k false) here ∙ nothing (length row) k
        | inr apart ↦ ap (λ (xs : List Bool). get_or xs k false)
            (get_or-set_other rows n p clear [] apart) ∙ so_far.none p k (omega arith)
      ];
    }
  where
    nothing : (n k : ℕ) → get_or (replicate n false) k false ≡ false
    nothing zero k = refl
    nothing (suc n) zero = refl
    nothing (suc n) (suc k) = nothing n k

-- all rows
pub clearing-all : (old new : List (List Bool)) (n : ℕ) → length old ≤ n → IsClearing old new n
    → AreCleared old new
clearing-all old new n all so_far =
    record {
      processes = so_far.processes;
      sends_of = so_far.sends_of;
      none = λ p k. elim (cases_lt p n) [
        | inl low ↦ so_far.none p k low
        | inr high ↦ ap (λ (xs : List Bool). get_or xs k false)
            (get_or_past new p [] (omega (arith, so_far.processes)))
      ];
    }

module _ (history : List Process) (line : List Choice) where
  -- one process more
  pub seen-further : (q to : ℕ) → with_seen (seen_below history line q) q (seen_below history line q
      q ++ events_before history line q) to ≡ seen_below history line (q + 1) to
  seen-further q to =
      let of : ℕ → List Event = events_before history line in
      let here : seen_below history line q q ++ of q
      ≡ of q = ap (λ b. cond b (of q) [] ++ of q) (le-ltb q q (omega arith)) in
      elim (cases_eq to q) [
        | inl e ↦ ap
            (λ b. cond b (seen_below history line q q ++ of q) (seen_below history line q to))
            (eq-eqb to q e) ∙ here ∙ ap of (sym e) ∙ sym
            (ap (λ b. cond b (of to) []) (lt-ltb to (q + 1) (omega arith)))
        | inr apart ↦ ap (λ b. cond b (seen_below history line q q ++ of q)
            (seen_below history line q to)) (ne_eqb to q apart) ∙ elim (cases_lt to q) [
              | inl low ↦ ap (λ b. cond b (of to) []) (lt-ltb to q low) ∙ sym
                  (ap (λ b. cond b (of to) []) (lt-ltb to (q + 1) (omega arith)))
              | inr high ↦ ap (λ b. cond b (of to) []) (le-ltb to q (omega arith)) ∙ sym
                  (ap (λ b. cond b (of to) []) (le-ltb to (q + 1) (omega arith)))
            ]
      ]

  -- all processes
  pub seen-all : (n to : ℕ) → length history ≤ n
      → seen_below history line n to ≡ events_before history line to
  seen-all n to all = elim (cases_lt to n) [
    | inl low ↦ ap (λ b. cond b (events_before history line to) []) (lt-ltb to n low)
    | inr high ↦ ap (λ b. cond b (events_before history line to) [])
        (le-ltb to n (omega arith)) ∙ sym (ap (λ (t : List Event). front t (choice_at line to))
        (tape_at-past history to (omega arith)) ∙ front-empty (choice_at line to))
  ]

  -- none is received as long as nothing is seen
  pub told-start : (old rows : List (List Bool)) → HasFlags history line old → AreCleared old rows
      → AreTold history line (seen_below history line 0) rows
  told-start old rows whole cleared =
      record {
        whole = record {
          processes = omega (arith, whole.processes, cleared.processes);
          sends_of = λ p within. omega (arith, whole.sends_of p within, cleared.sends_of p);
        };
        each = λ p within. record {
          each = λ k inc to i a.
              let unseen : seen_below history line 0 to ≡ [] = ap
              (λ b. cond b (events_before history line to) []) (le-ltb to 0 (omega arith)) in
              cleared.none p k ∙ sym
              (ap (λ (es : List Event). has_received es (name_of p inc k)) unseen);
        };
      }

  -- whom a send before the line names, its sender's tape says
  whole_to : (p k to : ℕ) → slice_get (addressees (events_before history line p)) k ≡ Some to
      → slice_get (addressees (tape_at history p)) k ≡ Some to
  whole_to p k to h =
      let tape : List Event = tape_at history p in
      let n : ℕ = place tape (choice_at line p) in
      ap (λ (es : List Event). slice_get (addressees es) k) (sym (take-append-drop n tape)) ∙ ap
      (λ xs. slice_get xs k) (filter_map-append addressee_of (take n tape) (drop n tape)) ∙
      slice_get-append_left (addressees (take n tape)) (addressees (drop n tape)) k to h

  module _ (seen : ℕ → List Event) (q : ℕ) where
    -- an event more of q
    has_more : (e : Event) (to : ℕ) (m : MsgName)
        → (to ≡ q → has_received (seen q ++ e ∷ []) m ≡ has_received (seen q) m)
        → has_received (seen to) m ≡ has_received (with_seen seen q (seen q ++ e ∷ []) to) m
    has_more e to m f = elim (cases_eq to q) [
      | inl same ↦ sym (ap (λ b. has_received (cond b (seen q ++ e ∷ []) (seen to)) m)
          (eq-eqb to q same) ∙ f same ∙ ap (λ p. has_received (seen p) m) (sym same))
      | inr apart ↦ sym
          (ap (λ b. has_received (cond b (seen q ++ e ∷ []) (seen to)) m) (ne_eqb to q apart))
    ]

    -- that receives another message
    has_other : (m name : MsgName) → (name ≡ m → ⊥)
        → has_received (seen q ++ Recv m ∷ []) name ≡ has_received (seen q) name
    has_other m name apart =
        ap (list_any (is_name name)) (told-some received_name (seen q) (Recv m) m refl) ∙ any_push
        (is_name name) (names_received (seen q)) m ∙ ap (λ b. has_received (seen q) name || b)
        (differs (is_name name m) refl) ∙ or-false (has_received (seen q) name)
      where
        differs : (b : Bool) → is_name name m ≡ b → is_name name m ≡ false
        differs true t = absurd (apart (is_name-true name m t))
        differs false t = t

    -- that receives a message which was not sent to q
    pub told-unsent : (m : MsgName) (rows : List (List Bool)) → (IsSentTo history q m → ⊥)
        → AreTold history line seen rows
        → AreTold history line (with_seen seen q (seen q ++ Recv m ∷ [])) rows
    told-unsent m rows unsent told =
        record {
          whole = told.whole;
          each = λ p within. record {
            each = λ k inc to i a. (told.each p within).each k inc to i a ∙ has_more (Recv m) to
                (name_of p inc k)
                (λ same. has_other m (name_of p inc k)
                (λ e. unsent (subst (IsSentTo history q) e (record {
                  held = holds_whole history line
                      p inc k i;
                  to_is = whole_to p k to a ∙ ap Some same;
                }))));
          };
        }

    -- there are as many flags as before
    flags-set : (m : MsgName) (rows : List (List Bool)) (row : List Bool) → m.from < length history
        → row ≡ get_or rows m.from row → HasFlags history line rows
        → HasFlags history line (set rows m.from (set row m.number true))
    flags-set m rows row inside is whole =
        let there : m.from < length rows = omega (arith, whole.processes) in
        record {
          processes =
              omega (arith, length-set rows m.from (set row m.number true), whole.processes);
          sends_of = λ p within. elim (cases_eq p m.from) [
            | inl same ↦
                let old_row : get_or rows p [] ≡ row = ap (λ j. get_or rows j []) same ∙
                get_or_default rows m.from [] row there ∙ sym is in
                let new_row : get_or (set rows m.from (set row m.number true)) p []
                ≡ set row m.number true = ap
                (λ j. get_or (set rows m.from (set row m.number true)) j []) same ∙
                get_or-set_same rows m.from (set row m.number true) [] there in
                omega (
                  arith,
                  whole.sends_of p within,
                  ap (λ (xs : List Bool). length xs) old_row,
                  ap (λ (xs : List Bool). length xs) new_row,
                  length-set row m.number true,
                )
            | inr apart ↦ omega (
              arith,
              whole.sends_of p within,
              ap (λ (xs : List Bool). length xs)
                  (get_or-set_other rows m.from p (set row m.number true) [] apart),
            )
          ];
        }

    -- that receives a message which was
    pub told-sent : (m : MsgName) (rows : List (List Bool)) (row : List Bool) → IsSentTo history q m
        → m.from < length history → row ≡ get_or rows m.from row → AreTold history line seen rows
        → AreTold history line (with_seen seen q (seen q ++ Recv m ∷ []))
        (set rows m.from (set row m.number true))
    told-sent m rows row sent inside is told =
        let seen' : ℕ → List Event = with_seen seen q (seen q ++ Recv m ∷ []) in
        let new : List (List Bool) = set rows m.from (set row m.number true) in
        let there : m.from < length rows = omega (arith, told.whole.processes) in
        record {
          whole = flags-set m rows row inside is told.whole;
          each = λ p within.
              let t : IsTold history line seen p (get_or rows p []) = told.each p within in
              elim (cases_eq p m.from) [
                | inl same ↦
                    let old_row : get_or rows p [] ≡ row = ap (λ j. get_or rows j []) same ∙
                    get_or_default rows m.from [] row there ∙ sym is in
                    let new_row : get_or new p [] ≡ set row m.number true = ap (λ j. get_or new j
                    []) same ∙ get_or-set_same rows m.from (set row m.number true) [] there in
                    record {
                      each = λ k inc to i a. elim (cases_eq k m.number) [
                        | inl at ↦
                            let held : slice_get
                            (incarnations_sent (tape_at history m.from)) m.number
                            ≡ Some inc = ap
                            (λ j. slice_get (incarnations_sent (tape_at history m.from)) j)
                            (sym at) ∙ ap (λ j. slice_get (incarnations_sent (tape_at history
                            j)) k) (sym same) ∙ holds_whole history line p inc k i in
                            let named : slice_get (addressees (tape_at history m.from)) m.number
                            ≡ Some to = ap
                            (λ j. slice_get (addressees (tape_at history m.from)) j)
                            (sym at) ∙ ap (λ j. slice_get (addressees (tape_at history j)) k)
                            (sym same) ∙ whole_to p k to a in
                            let to_q : to ≡ q = same_Some _ _ (sym named ∙ sent.to_is) in
                            let inc_m : inc ≡ m.inc = same_Some _ _ (sym held ∙ sent.held) in
                            let name : name_of p inc k
                            ≡ m = ap (λ j. name_of j inc k) same ∙ ap (λ j. name_of m.from j k)
                            inc_m ∙ ap (λ j. name_of m.from m.inc j) at in
                            let short : m.number < length row = omega (
                              arith,
                              at,
                              ap
                                  (λ (xs : List Bool). length xs) old_row,
                              told.whole.sends_of p
                                  within,
                              slice_get_within
                                  (incarnations_sent (events_before history line p)) k inc i,
                            ) in
                            let set_there : get_or (get_or new p []) k false
                            ≡ true = ap (λ (xs : List Bool). get_or xs k false) new_row ∙ ap
                            (λ j. get_or (set row m.number true) j false) at ∙ get_or-set_same
                            row m.number true false short in
                            let found : has_received (seen' to) (name_of p inc k)
                            ≡ true = ap (λ b. has_received
                            (cond b (seen q ++ Recv m ∷ []) (seen to)) (name_of p inc k))
                            (eq-eqb to q to_q) ∙ ap
                            (has_received (seen q ++ Recv m ∷ [])) name ∙ (has_received-iff
                            (seen q ++ Recv m ∷ []) m).1 (Contains-push (seen q) (Recv m)) in
                            set_there ∙ sym found
                        | inr other ↦
                            let kept : get_or (get_or new p []) k false
                            ≡ get_or (get_or rows p []) k false = ap
                            (λ (xs : List Bool). get_or xs k false) new_row ∙ get_or-set_other
                            row m.number k true false other ∙ ap
                            (λ (xs : List Bool). get_or xs k false) (sym old_row) in
                            kept ∙ t.each k inc to i a ∙ has_more (Recv m) to (name_of p inc k)
                            (λ _. has_other m (name_of p inc k)
                            (λ e. other (ap (λ (x : MsgName). x.number) e)))
                      ];
                    }
                | inr apart ↦
                    let kept : get_or new p [] ≡ get_or rows p [] = get_or-set_other rows m.from p
                    (set row m.number true) [] apart in
                    record {
                      each = λ k inc to i a. ap
                          (λ (xs : List Bool). get_or xs k false) kept ∙ t.each k inc to i a ∙
                          has_more (Recv m) to (name_of p inc k) (λ _. has_other m (name_of p inc k)
                          (λ e. apart (ap (λ (x : MsgName). x.from) e)));
                    }
              ];
        }

-- the sender of a message that was sent is one of the processes
pub sent_within : (history : List Process) (q : ℕ) (m : MsgName) → IsSentTo history q m
    → m.from < length history
sent_within history q m sent = elim (cases_lt m.from (length history)) [
  | inl h ↦ h
  | inr past ↦
      let none : slice_get (incarnations_sent []) m.number
      ≡ Some m.inc = ap (λ (es : List Event). slice_get (incarnations_sent es) m.number)
      (sym (tape_at-past history m.from (omega arith))) ∙ sent.held in
      absurd (omega (arith, slice_get_within (incarnations_sent []) m.number m.inc none))
]

-- the letter of each send
letter_at : (p n : ℕ) (es : List Event) (k inc to : ℕ) (d : Letter)
    → slice_get (incarnations_sent es) k ≡ Some inc → slice_get (addressees es) k ≡ Some to
    → get_or (letters p n es) k d ≡ letter_of p inc (n + k) to
letter_at p n [] k inc to d i a = absurd (omega (arith, slice_get_within [] k inc i))
letter_at p n (Send x y body ∷ es) zero inc to d i a =
    let inc_is : y ≡ inc = same_Some _ _ i in
    let to_is : x ≡ to = same_Some _ _ a in
    let at : n ≡ n + 0 = omega arith in
    ap (λ j. letter_of p j n x) inc_is ∙ ap (λ j. letter_of p inc n j) to_is ∙ ap
    (λ j. letter_of p inc j to) at
letter_at p n (Send x y body ∷ es) (suc k) inc to d i a =
    let at : suc n + k ≡ n + suc k = omega arith in
    letter_at p (suc n) es k inc to d i a ∙ ap (λ j. letter_of p inc j to) at
letter_at p n (Recv message ∷ es) k inc to d i a = letter_at p n es k inc to d i a
letter_at p n (Check state round ∷ es) k inc to d i a = letter_at p n es k inc to d i a
letter_at p n (Mark from round ∷ es) k inc to d i a = letter_at p n es k inc to d i a

-- as many letters as sends
pub length-letters : (p n : ℕ) (es : List Event) → length (letters p n es) ≡ sends es
length-letters p n [] = refl
length-letters p n (Send to inc body ∷ es) = ap suc (length-letters p (suc n) es)
length-letters p n (Recv message ∷ es) = length-letters p n es
length-letters p n (Check state round ∷ es) = length-letters p n es
length-letters p n (Mark from round ∷ es) = length-letters p n es

-- the open messages among the first k sends of process p
abbrev pub open_first : List Process → List Choice → ℕ → ℕ → List MsgName
open_first history line p k = map (λ (letter : Letter). letter.message)
    (filter (is_open_letter history line) (take k (letters p 0 (events_before history line p))))

-- one send more, which is open if no receipt of it is told
pub open-next : (history : List Process) (line : List Choice) (p k inc to : ℕ)
    (received : List Bool) → IsTold history line (events_before history line) p received
    → slice_get (incarnations_sent (events_before history line p)) k ≡ Some inc
    → slice_get (addressees (events_before history line p)) k ≡ Some to
    → open_first history line p (k + 1)
    ≡ open_first history line p k ++ cond (get_or received k false) [] (name_of p inc k ∷ [])
open-next history line p k inc to received told i a =
    let all : List Letter = letters p 0 (events_before history line p) in
    let d : Letter = letter_of p inc k to in
    let within : k < length all = omega (
      arith,
      length-letters p 0 (events_before history line p),
      slice_get_within (incarnations_sent (events_before history line p)) k inc i,
    ) in
    let number : 0 + k ≡ k = omega arith in
    let letter : get_or all k d ≡ d = letter_at p 0
    (events_before history line p) k inc to d i a ∙ ap (λ j. letter_of p inc j to) number in
    let passes : is_open_letter history line d
    ≡ not (get_or received k false) = ap not (sym (told.each k inc to i a)) in
    let last : map (λ (letter : Letter). letter.message)
    (filter (is_open_letter history line) (get_or all k d ∷ []))
    ≡ cond (get_or received k false) [] (name_of p inc k ∷ []) = ap
    (λ (x : Letter). map (λ (letter : Letter). letter.message)
    (filter (is_open_letter history line) (x ∷ []))) letter ∙ ap (λ b. map (λ (letter : Letter).
    letter.message) (cond b (d ∷ []) [])) passes ∙ swapped (get_or received k false) in
    ap (λ (xs : List Letter). map (λ (letter : Letter). letter.message)
    (filter (is_open_letter history line) xs)) (take_more all k d within)
    ∙ ap (map (λ (letter : Letter). letter.message))
    (filter-append (is_open_letter history line) (take k all) (get_or all k d ∷ []))
    ∙ map-append (λ (letter : Letter). letter.message) (filter (is_open_letter history line)
    (take k all)) (filter (is_open_letter history line) (get_or all k d ∷ []))
    ∙ ap (λ xs. open_first history line p k ++ xs) last
  where
    swapped : (b : Bool) → map (λ (letter : Letter). letter.message)
        (cond (not b) (letter_of p inc k to ∷ []) []) ≡ cond b [] (name_of p inc k ∷ [])
    swapped true = refl
    swapped false = refl
