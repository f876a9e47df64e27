-- Marks at sends that are received: where those of a process begin, how one is set, and that a
-- marked send adds nothing to what is in transit.
use Rattle.std.proofs.Common.{◌≡◌, ℕ, ◌+◌, ◌<◌, ◌≤◌, ◌-◌, Bool, false, true, cond, List, [], ◌∷◌}
use Rattle.std.proofs.Common.{◌++◌, Option, Some, None, refl, length, take, drop, get_or, set, sym}
use Rattle.std.proofs.Common.{ap, ◌∙◌, subst, append-nil, arith, inl, inr}
use Rattle.std.specs.List.{Contains, slice_get}
use Rattle.std.specs.List.Sorted.{IsNonDecreasing}
use Rattle.std.proofs.lemmas.Bool.{cases_eq, cases_lt, false≢true}
use Rattle.std.proofs.lemmas.List.{get_or-set_other, get_or-set_same, get_or_default, get_or_past}
use Rattle.std.proofs.lemmas.List.{take-append-drop, take-append-le, take-take, take_all}
use Rattle.std.proofs.lemmas.List.Elements.{Contains-append_cases, Contains-append_left}
use Rattle.std.proofs.lemmas.List.Sorted.{IsNonDecreasingBy-push}
use Rattle.std.proofs.lemmas.Option.{get_or_from_slice_get, same_Some, slice_get-get_or}
use Rattle.std.proofs.lemmas.Option.{slice_get_within}
use Rattle.line_names.specs.declared.choices.Choice.{Choice}
use Rattle.line_names.specs.declared.messages.MsgName.{MsgName}
use Rattle.line_names.specs.Lines.{choice_at}
use Rattle.line_names.specs.Sets.{is_member}
use Rattle.line_tape.specs.declared.events.Event.{Event}
use Rattle.line_tape.specs.declared.events.Event.TheVariants.{Recv}
use Rattle.line_tape.specs.Event.{incarnations_sent, sends}
use Rattle.line_tape.specs.Fit.{IsSentTo}
use Rattle.line_tape.specs.Front.{place}
use Rattle.line_tape.specs.History.{Process, tape_at}
use Rattle.line_tape.specs.Line.{events_before}
use Rattle.line_tape.specs.Transit.{has_received, addressees}
use Rattle.line_tape.proofs.CutLemmas.{contains_nothing}
use Rattle.line_tape.proofs.EventLemmas.{length_addressees, name_of}
use Rattle.line_tape.proofs.FrontLemmas.{Contains-take_more}
use Rattle.line_tape.proofs.LineLemmas.{tape_at-past}
use Rattle.line_tape.proofs.ReceivedLemmas.{sent_within}
use Rattle.line_tape.proofs.TransitLemmas.{has_received-iff}
use Rattle.line_catalogue.specs.Known.{AreAllReceiptsMarked, AreKnown, AreMarkRows, AreReceived}
use Rattle.line_catalogue.specs.Known.{AreMarksExact, AreMarksExactSince, HasMark, IsReceiptMarked}
use Rattle.line_catalogue.specs.Known.{AreOldNoted, AreOldUnreceived, IsReceived, IsUnreceived}
use Rattle.line_catalogue.specs.Left.{open_first, place_at, start_at, AreClosed, AreEnds, AreLeft}
use Rattle.line_catalogue.specs.Left.{IsUnread}
use Rattle.line_catalogue.proofs.OpenLemmas.{open-step, sent_whole}

-- a start behind all others
pub starts-push : (starts : List ℕ) (start : ℕ) → IsNonDecreasing starts
    → ((p : ℕ) → start_at starts p ≤ start) → IsNonDecreasing (starts ++ start ∷ [])
starts-push starts start sorted below = IsNonDecreasingBy-push (λ x. x) starts start sorted
    (λ d some. omega (
      arith,
      below (length starts - 1),
      get_or_default starts
          (length starts - 1) d 0 (omega (arith, some)),
    ))

-- no start is behind the last one
pub starts-last : (starts : List ℕ) (p : ℕ) → IsNonDecreasing starts
    → start_at starts p ≤ start_at starts (length starts - 1)
starts-last starts p sorted = elim (cases_lt p (length starts)) [
  | inl within ↦ sorted p (length starts - 1) 0 (omega (arith, within)) (omega (arith, within))
  | inr past ↦ omega (arith, get_or_past starts p 0 (omega arith))
]

-- two messages of one sender and one number that were sent are one, and to one process
same-sent : (history : List Process) (q r : ℕ) (m x : MsgName) → x.from ≡ m.from
    → x.number ≡ m.number → IsSentTo history q m → IsSentTo history r x → (x ≡ m) × (r ≡ q)
same-sent history q r m x from number sent told =
    let held : slice_get (incarnations_sent (tape_at history m.from)) m.number
    ≡ Some x.inc = ap (λ j. slice_get (incarnations_sent (tape_at history m.from)) j)
    (sym number) ∙ ap (λ j. slice_get (incarnations_sent (tape_at history j)) x.number)
    (sym from) ∙ told.held in
    let named : slice_get (addressees (tape_at history m.from)) m.number
    ≡ Some r = ap (λ j. slice_get (addressees (tape_at history m.from)) j) (sym number) ∙ ap
    (λ j. slice_get (addressees (tape_at history j)) x.number) (sym from) ∙ told.to_is in
    let inc : x.inc ≡ m.inc = same_Some _ _ (sym held ∙ sent.held) in (
      ap (λ j. name_of j x.inc x.number) from ∙ ap (λ j. name_of m.from j x.number) inc ∙ ap
          (λ j. name_of m.from m.inc j) number,
      same_Some _ _ (sym named ∙ sent.to_is),
    )

-- a message that was sent is the only one of its sender and its number
pub received-by : (history : List Process) (line : List Choice) (q : ℕ) (m : MsgName) (number : ℕ)
    → m.number ≡ number → IsSentTo history q m
    → has_received (events_before history line q) m ≡ true → IsReceived history line m.from number
received-by history line q m number is sent received = λ r x from at told.
    let one : (x ≡ m) × (r ≡ q) = same-sent history q r m x from (at ∙ sym is) sent told in
    ap (has_received (events_before history line r)) one.0 ∙ ap
    (λ j. has_received (events_before history line j) m) one.1 ∙ received

-- one mark more: it is that of one send alone, since rows do not overlap
pub known-mark : (history : List Process) (line : List Choice) (ends starts : List ℕ)
    (marks : List Bool) (p k : ℕ) → AreMarkRows history starts marks → p < length history → start_at
    starts p + k < start_at starts (p + 1) → IsReceived history line p (start_at ends p + k)
    → AreKnown history line ends starts marks
    → AreKnown history line ends starts (set marks (start_at starts p + k) true)
known-mark history line ends starts marks p k rows here low received known = λ r j inside mark.
    let at : ℕ = start_at starts p + k in
    elim (cases_eq (start_at starts r + j) at) [
      | inl same ↦
          let one : r ≡ p = elim (cases_lt r p) [
            | inl less ↦ absurd (omega (
              arith,
              same,
              mark.0,
              rows.sorted (r + 1) p 0
                  (omega (arith, less)) (omega (arith, here, rows.count)),
            ))
            | inr not ↦ elim (cases_lt p r) [
              | inl more ↦ absurd (omega (
                arith,
                same,
                low,
                rows.sorted (p + 1) r 0
                    (omega (arith, more)) (omega (arith, inside, rows.count)),
              ))
              | inr eq ↦ omega (arith, not, eq)
            ]
          ] in
          let number : start_at ends p + k ≡ start_at ends r + j = omega
          (arith, same, ap (start_at starts) one, ap (start_at ends) one) in
          subst (λ i. IsReceived history line r i) number
          (subst (λ i. IsReceived history line i (start_at ends p + k)) (sym one) received)
      | inr other ↦ known r j inside (
        mark.0,
        sym
            (get_or-set_other marks at (start_at starts r + j) true false other) ∙ mark.1,
      )
    ]

-- rows are where they were while there are as many marks
pub rows-same : (history : List Process) (starts : List ℕ) (old new : List Bool)
    → length new ≡ length old → AreMarkRows history starts old → AreMarkRows history starts new
rows-same history starts old new same rows = record {
  count = rows.count;
  sorted = rows.sorted;
  within = λ p. omega (arith, same, rows.within p);
}

-- a mark more unsets none
pub marked-more : (marks : List Bool) (at i : ℕ) → get_or marks i false ≡ true
    → get_or (set marks at true) i false ≡ true
marked-more marks at i marked = elim (cases_eq i at) [
  | inl same ↦ elim (cases_lt i (length marks)) [
    | inl within ↦ ap (λ (j : ℕ). get_or (set marks j true) i false)
        (sym same) ∙ get_or-set_same marks i true false within
    | inr past ↦ absurd (false≢true (sym (get_or_past marks i false (omega arith)) ∙ marked))
  ]
  | inr other ↦ get_or-set_other marks at i true false other ∙ marked
]

-- what is noted stays so while marks are set
pub noted-more : (history : List Process) (bases starts : List ℕ) (old new : List Bool) (q : ℕ)
    (event : Event) → ((i : ℕ) → get_or old i false ≡ true → get_or new i false ≡ true)
    → IsReceiptMarked history bases starts old q event
    → IsReceiptMarked history bases starts new q event
noted-more history bases starts old new q event more noted =
    λ k m is sent number within. more (start_at starts m.from + k) (noted k m is sent number within)

-- what is received before the line, but not before the place of its receiver, is received between
-- these
received-behind : (history : List Process) (line : List Choice) (places : List ℕ) (q : ℕ)
    (m : MsgName) → (Contains (take (place_at places q) (tape_at history q)) (Recv m) → ⊥)
    → has_received (events_before history line q) m ≡ true → (q < length history)
    × Contains (drop (place_at places q) (events_before history line q)) (Recv m)
received-behind history line places q m unheard received =
    let tape : List Event = tape_at history q in
    let n : ℕ = place tape (choice_at line q) in
    let s : ℕ = place_at places q in
    let front : Contains (take n tape) (Recv m) =
    (has_received-iff (take n tape) m).0 received in
    let inside : q < length history = elim (cases_lt q (length history)) [
      | inl h ↦ h
      | inr past ↦ absurd
          (contains_nothing (Recv m)
          (subst (λ (es : List Event). Contains es (Recv m))
          (tape_at-past history q (omega arith))
          (subst (λ (es : List Event). Contains es (Recv m)) (take-append-drop n tape)
          (Contains-append_left (take n tape) (drop n tape) (Recv m) front))))
    ] in (
      inside,
      elim (Contains-append_cases (take s (take n tape)) (drop s (take n tape)) (Recv m)
          (subst (λ (es : List Event). Contains es (Recv m))
          (sym (take-append-drop s (take n tape))) front)) [
            | inl early ↦ absurd (unheard (elim (cases_lt n s) [
              | inl less ↦ Contains-take_more tape n s (Recv m) (omega (arith, less)) front
              | inr more ↦ subst (λ (es : List Event). Contains es (Recv m))
                  (take-take s n tape (omega (arith, more))) early
            ]))
            | inr behind ↦ behind
          ],
    )

-- the mark of a message that isn't received before the place of its receiver tells whether it is
-- received before the line: unless it is marked it isn't received since, either
pub mark-tells : (history : List Process) (line : List Choice) (places bases starts : List ℕ)
    (marks : List Bool) (q k : ℕ) (m : MsgName) → AreKnown history line bases starts marks
    → AreAllReceiptsMarked history line places bases starts marks → IsSentTo history q m
    → m.number ≡ start_at bases m.from + k → start_at starts m.from + k < start_at starts
    (m.from + 1) → (Contains (take (place_at places q) (tape_at history q)) (Recv m) → ⊥)
    → has_received (events_before history line q) m
    ≡ get_or marks (start_at starts m.from + k) false
mark-tells history line places bases starts marks q k m known noted sent number within unheard =
    let at : ℕ = start_at starts m.from + k in
    elim (get_or marks at false) as
    (λ (b : Bool). get_or marks at false ≡ b → has_received (events_before history line q) m ≡ b) [
      | true ↦ λ e. known m.from k (sent_within history q m sent) (within, e) q m refl number sent
      | false ↦ λ e. elim (has_received (events_before history line q) m) as
          (λ (b : Bool). has_received (events_before history line q) m ≡ b → b ≡ false) [
            | true ↦ λ r.
                let behind = received-behind history line places q m unheard r in
                absurd (false≢true (sym e ∙ noted q behind.0
                (Recv m) behind.1 k m refl sent number within))
            | false ↦ λ r. refl
          ] refl
    ] refl

-- what is left isn't received before the place of its receiver
left-unheard : (history : List Process) (kept places : List ℕ) (left : List MsgName) (q : ℕ)
    (m : MsgName) → AreLeft history kept places left → Contains left m → IsSentTo history q m
    → Contains (take (place_at places q) (tape_at history q)) (Recv m) → ⊥
left-unheard history kept places left q m are among sent c =
    let was : IsUnread history places m = are.each m among in
    let one : was.to ≡ q = same_Some _ _ (sym was.sent.to_is ∙ sent.to_is) in
    let unread : has_received (take (place_at places q) (tape_at history q)) m
    ≡ false = subst (λ (j : ℕ). has_received (take (place_at places j) (tape_at history j)) m
    ≡ false) one was.unread in
    false≢true
    (sym unread ∙ (has_received-iff (take (place_at places q) (tape_at history q)) m).1 c)

-- of a sender that isn't noted nothing that is left from before its base is received before the
-- line
pub old-unreceived : (history : List Process) (line : List Choice) (kept places bases : List ℕ)
    (left : List MsgName) (senders : List Bool) (p base : ℕ) → AreLeft history kept places left
    → AreOldNoted history line places bases left senders → is_member senders p ≡ false
    → base ≡ start_at bases p → AreOldUnreceived history line p base left
old-unreceived history line kept places bases left senders p base are noted unnoted is =
    λ q m among from old sent. elim (has_received (events_before history line q) m) as
    (λ (b : Bool). has_received (events_before history line q) m ≡ b → b ≡ false) [
      | true ↦ λ r.
          let behind = received-behind history line places q m
          (left-unheard history kept places left q m are among sent) r in
          absurd (false≢true (sym unnoted ∙ ap (is_member senders) (sym from) ∙ noted q m behind.0
          among behind.1 (omega (arith, old, is, ap (start_at bases) from))))
      | false ↦ λ r. refl
    ] refl

-- what one mark tells
module _ (history : List Process) (line : List Choice) (p base number : ℕ) (marks : List Bool)
    (mark : Option Bool)
    (before : number < base → mark ≡ None)
    (since : base ≤ number → mark ≡ slice_get marks (number - base)) where
  found_at : (b : Bool) → mark ≡ Some b
      → (base ≤ number) × (slice_get marks (number - base) ≡ Some b)
  found_at b is = elim (cases_lt number base) [
    | inl low ↦ absurd (cc (is, before low))
    | inr up ↦ let l : base ≤ number = omega (arith, up) in (l, sym (since l) ∙ is)
  ]

  pub marked-received : AreReceived history line p base marks → mark ≡ Some true
      → IsReceived history line p number
  marked-received are is =
      let at = found_at true is in
      let all : base + (number - base) ≡ number = omega (arith, at.0) in
      subst (λ (j : ℕ). IsReceived history line p j) all
      (are (number - base) (get_or_from_slice_get marks (number - base) true false at.1))

  pub unmarked-open : (end : ℕ) → end ≤ number → number < sends (events_before history line p)
      → AreMarksExactSince history line p end base marks → mark ≡ Some false
      → IsUnreceived history line p number
  unmarked-open end up low told is = λ q m from same sent.
      let at = found_at false is in
      told q (number - base) m from (omega (arith, up, same)) (omega (arith, low, same))
      (omega (arith, same, at.0)) (slice_get_within marks (number - base) false at.1) sent ∙
      get_or_from_slice_get marks (number - base) false false at.1

-- the marks of one process: they tell of each message that is left
module _ (history : List Process) (line : List Choice) (kept places bases starts : List ℕ)
    (marks : List Bool) (p base : ℕ) (row : List Bool)
    (known : AreKnown history line bases starts marks) (noted : AreAllReceiptsMarked history line
    places bases starts marks) (is : base ≡ start_at bases p)
    (inside : (k : ℕ) → k < length row → start_at starts p + k < start_at starts (p + 1))
    (same : (k : ℕ) → k < length row
    → get_or row k false ≡ get_or marks (start_at starts p + k) false) where
  row-tells : (q k : ℕ) (m : MsgName) → m.from ≡ p → m.number ≡ base + k → k < length row
      → IsSentTo history q m → (Contains (take (place_at places q) (tape_at history q)) (Recv m)
      → ⊥) → has_received (events_before history line q) m ≡ get_or row k false
  row-tells q k m from number within sent unheard =
      let here : start_at starts m.from + k < start_at starts (m.from + 1) = subst (λ
      (j : ℕ). start_at starts j + k < start_at starts (j + 1)) (sym from) (inside k within) in
      mark-tells history line places bases starts marks q k m known noted sent
      (omega (arith, number, is, ap (start_at bases) from)) here unheard ∙ ap
      (λ (j : ℕ). get_or marks (start_at starts j + k) false) from ∙ sym (same k within)

  pub row-told : (left : List MsgName) → AreLeft history kept places left
      → AreMarksExact history line p base row left
  row-told left are = λ q k m among from number within sent. row-tells q k m from number within
      sent (left-unheard history kept places left q m are among sent)

  -- and where the kept line is closed, of each that is sent behind it
  pub row-told-since : (ends : List ℕ) → AreClosed history kept places → AreEnds history kept line
      ends → AreMarksExactSince history line p (start_at ends p) base row
  row-told-since ends closed ending = λ q k m from up low number within sent.
      row-tells q k m from number within sent (λ c. absurd
      (omega (arith, closed q m c, ending.since p m.number up low, ap (start_at kept) from)))

pub row-received : (history : List Process) (line : List Choice) (bases starts : List ℕ)
    (marks : List Bool) (p base : ℕ) (row : List Bool) → AreKnown history line bases starts marks
    → p < length history → base ≡ start_at bases p
    → ((k : ℕ) → get_or row k false ≡ true → HasMark starts marks p k)
    → AreReceived history line p base row
row-received history line bases starts marks p base row known inside is marked = λ k mark.
    subst (λ (j : ℕ). IsReceived history line p (j + k)) (sym is) (known p k inside (marked k mark))

-- as many marks, written back
pub written-back : (len : ℕ) (new old : List Bool) → len ≡ length old → length new ≡ length old
    → take len (new ++ drop (length new) old) ≡ new
written-back len new old is same = take-append-le len new (drop (length new) old)
    (omega (arith, is, same)) ∙ take_all len new (omega (arith, is, same))

-- a send that is known to be received adds nothing
pub open-marked : (history : List Process) (line : List Choice) (p number : ℕ)
    → IsReceived history line p number → number < sends (events_before history line p)
    → open_first history line p (number + 1) ≡ open_first history line p number
open-marked history line p number are within =
    let before : List Event = events_before history line p in
    let inc : ℕ = get_or (incarnations_sent before) number 0 in
    let to : ℕ = get_or (addressees before) number 0 in
    let i : slice_get (incarnations_sent before) number
    ≡ Some inc = slice_get-get_or (incarnations_sent before) number 0 within in
    let t : slice_get (addressees before) number ≡ Some to = slice_get-get_or
    (addressees before) number 0 (omega (arith, within, length_addressees before)) in
    let received : has_received (events_before history line to) (name_of p inc number) ≡ true = are
    to (name_of p inc number) refl refl (sent_whole history line p number inc to i t) in
    open-step history line p number inc to i t ∙ ap (λ b. open_first history line p number ++ cond b
    [] (name_of p inc number ∷ [])) received ∙ append-nil (open_first history line p number)

-- a send that is known not to be received is in transit
pub open-unmarked : (history : List Process) (line : List Choice) (p number : ℕ)
    → IsUnreceived history line p number → number < sends (events_before history line p)
    → (inc : ℕ) × (slice_get (incarnations_sent (events_before history line p)) number ≡ Some inc)
    × (open_first history line p (number + 1)
    ≡ open_first history line p number ++ name_of p inc number ∷ [])
open-unmarked history line p number are within =
    let before : List Event = events_before history line p in
    let inc : ℕ = get_or (incarnations_sent before) number 0 in
    let to : ℕ = get_or (addressees before) number 0 in
    let i : slice_get (incarnations_sent before) number
    ≡ Some inc = slice_get-get_or (incarnations_sent before) number 0 within in
    let t : slice_get (addressees before) number ≡ Some to = slice_get-get_or
    (addressees before) number 0 (omega (arith, within, length_addressees before)) in
    let unseen : has_received (events_before history line to) (name_of p inc number) ≡ false = are
    to (name_of p inc number) refl refl (sent_whole history line p number inc to i t) in (
      inc,
      i,
      open-step history line p number inc to i t ∙ ap
          (λ b. open_first history line p number ++ cond b [] (name_of p inc number ∷ [])) unseen,
    )
