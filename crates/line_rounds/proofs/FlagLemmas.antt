-- Which sends are received, by each event and by a restart.
use Rattle.std.proofs.Common.{◌≡◌, ℕ, ◌<◌, ◌≤◌, Bool, true, false, List, [], ◌∷◌, ◌++◌, length}
use Rattle.std.proofs.Common.{get_or, set, replicate, Some, None, refl, sym, ap, ◌∙◌, subst, arith}
use Rattle.std.proofs.Common.{◌||◌, ◌⊎◌, inl, inr}
use Rattle.std.specs.List.{list_any, slice_get}
use Rattle.std.proofs.Math.Bool.{or-false}
use Rattle.std.proofs.lemmas.Bool.{cases_lt, cases_eq, false_from_ne_true}
use Rattle.std.proofs.lemmas.List.{length-append, length-set, length-replicate, get_or-replicate}
use Rattle.std.proofs.lemmas.List.{get_or-set_same, get_or-set_other, get_or_past, set_past}
use Rattle.std.proofs.lemmas.List.Elements.{filter_map-append, Contains-push}
use Rattle.std.proofs.lemmas.Option.{same_Some, slice_get_within}
use Rattle.line_names.specs.declared.messages.MsgName.{MsgName}
use Rattle.line_names.specs.Names.{is_name}
use Rattle.line_names.proofs.NameLemmas.{is_name-true}
use Rattle.line_tape.specs.declared.events.Event.{Event}
use Rattle.line_tape.specs.declared.events.Event.TheVariants.{Send, Recv}
use Rattle.line_tape.specs.Event.{incarnation_of, incarnations_sent, sends}
use Rattle.line_tape.specs.Fit.{IsSentTo, IsFitUnordered}
use Rattle.line_tape.specs.History.{Process, fresh, tape_at, with_event}
use Rattle.line_tape.specs.Transit.{received_name, names_received, has_received, addressee}
use Rattle.line_tape.specs.Transit.{addressee_of, addressees}
use Rattle.line_tape.proofs.EventLemmas.{length_addressees, tape_same, tape_other, name_of}
use Rattle.line_tape.proofs.EventLemmas.{tape_grows, tape_start}
use Rattle.line_tape.proofs.ListLemmas.{slice_get_front, any_push}
use Rattle.line_tape.proofs.ReceivedLemmas.{sent_within}
use Rattle.line_tape.proofs.RowLemmas.{told-none, told-some}
use Rattle.line_tape.proofs.TransitLemmas.{has_received-iff}
use Rattle.line_rounds.specs.Flags.{flags_of, flag_at, AreFlagged}

-- the flags with another one of process p's send of that number
abbrev pub with_flag : List (List Bool) → ℕ → ℕ → Bool → List (List Bool)
with_flag flags p number flag = set flags p (set (flags_of flags p) number flag)

module _ (flags : List (List Bool)) (p k : ℕ) (flag : Bool) where
  -- that flag is another one
  pub flag_written : p < length flags → k < length (flags_of flags p)
      → flag_at (with_flag flags p k flag) p k ≡ flag
  flag_written p_in k_in =
      ap (λ (row : List Bool). get_or row k false) (get_or-set_same flags p (set
      (flags_of flags p) k flag) [] p_in) ∙ get_or-set_same (flags_of flags p) k flag false k_in

  -- each other stays
  pub flag_kept : (q j : ℕ) → (q ≡ p → j ≡ k → ⊥)
      → flag_at (with_flag flags p k flag) q j ≡ flag_at flags q j
  flag_kept q j apart = elim (cases_eq q p) [
    | inl same ↦ elim (cases_lt p (length flags)) [
      | inl p_in ↦
          ap (λ (v : ℕ). flag_at (with_flag flags p k flag) v j) same
          ∙ ap (λ (row : List Bool). get_or row j false)
          (get_or-set_same flags p (set (flags_of flags p) k flag) [] p_in)
          ∙ get_or-set_other (flags_of flags p) k j flag false (apart same)
          ∙ ap (λ (v : ℕ). flag_at flags v j) (sym same)
      | inr past ↦ ap (λ (rows : List (List Bool)). flag_at rows q j)
          (set_past flags p (set (flags_of flags p) k flag) (omega (arith, past)))
    ]
    | inr other ↦ ap (λ (row : List Bool). get_or row j false)
        (get_or-set_other flags p q (set (flags_of flags p) k flag) [] other)
  ]

  -- and there are as many as before
  pub flags_many : (q : ℕ)
      → length (flags_of (with_flag flags p k flag) q) ≡ length (flags_of flags q)
  flags_many q = elim (cases_eq q p) [
    | inl same ↦ elim (cases_lt p (length flags)) [
      | inl p_in ↦
          ap (λ (v : ℕ). length (flags_of (with_flag flags p k flag) v)) same
          ∙ ap (λ (row : List Bool). length row)
          (get_or-set_same flags p (set (flags_of flags p) k flag) [] p_in)
          ∙ length-set (flags_of flags p) k flag
          ∙ ap (λ (v : ℕ). length (flags_of flags v)) (sym same)
      | inr past ↦ ap (λ (rows : List (List Bool)). length (flags_of rows q))
          (set_past flags p (set (flags_of flags p) k flag) (omega (arith, past)))
    ]
    | inr other ↦ ap (λ (row : List Bool). length row)
        (get_or-set_other flags p q (set (flags_of flags p) k flag) [] other)
  ]

-- processes that have done nothing yet
pub AreFlagged-fresh : (n : ℕ) → AreFlagged (replicate n fresh) (replicate n [])
AreFlagged-fresh n =
    let none : List Bool = [] in
    let rows : (p : ℕ) → flags_of (replicate n none) p ≡ none = λ p. elim (cases_lt p n) [
      | inl p_in ↦ get_or-replicate n p none none p_in
      | inr past ↦ get_or_past (replicate n none) p none
          (omega (arith, past, length-replicate n none))
    ] in
    record {
      count = length-replicate n none ∙ sym (length-replicate n fresh);
      enough = λ p p_in. let nothing : sends (tape_at (replicate n fresh) p)
          ≡ 0 = ap (λ (t : List Event). sends t) (tape_start n p) in omega (arith, nothing);
      unsent = λ p number past. ap (λ (row : List Bool). get_or row number false) (rows p);
      each = λ q m sent.
          let held : slice_get (incarnations_sent []) m.number
          ≡ Some m.inc = ap (λ (t : List Event). slice_get (incarnations_sent t) m.number)
          (sym (tape_start n m.from)) ∙ sent.held in
          absurd (omega (arith, slice_get_within (incarnations_sent []) m.number m.inc held));
    }

module _ (history : List Process) (at : ℕ) (e : Event) (within : at < length history) where
  -- a tape has no fewer sends by an event
  pub sends_grow : (p : ℕ) → sends (tape_at history p) ≤ sends (tape_at (with_event history at e) p)
  sends_grow p =
      let grows = tape_grows history at e p within in
      let incs : incarnations_sent (tape_at (with_event history at e) p)
      ≡ incarnations_sent (tape_at history p)
      ++ incarnations_sent grows.0 = ap incarnations_sent grows.1 ∙ filter_map-append
      incarnation_of (tape_at history p) grows.0 in
      omega (
        arith,
        ap (λ (v : List ℕ). length v) incs,
        length-append
            (incarnations_sent (tape_at history p)) (incarnations_sent grows.0),
      )

  -- what was sent to a process was so before, or it is past the sends that there were
  pub sent_or_new : (q : ℕ) (m : MsgName) → IsSentTo (with_event history at e) q m
      → IsSentTo history q m ⊎ (sends (tape_at history m.from) ≤ m.number)
  sent_or_new q m sent = elim (cases_lt m.number (sends (tape_at history m.from))) [
    | inl below ↦
        let tape : List Event = tape_at history m.from in
        let grows = tape_grows history at e m.from within in
        let incs : incarnations_sent (tape_at (with_event history at e) m.from)
        ≡ incarnations_sent tape ++ incarnations_sent grows.0 =
        ap incarnations_sent grows.1 ∙ filter_map-append incarnation_of tape grows.0 in
        let tos : addressees (tape_at (with_event history at e) m.from)
        ≡ addressees tape ++ addressees grows.0 =
        ap addressees grows.1 ∙ filter_map-append addressee_of tape grows.0 in
        inl (record {
          held = slice_get_front (incarnations_sent tape) (incarnations_sent grows.0) m.number m.inc
              below (ap (λ (v : List ℕ). slice_get v m.number) (sym incs) ∙ sent.held);
          to_is = slice_get_front (addressees tape) (addressees grows.0) m.number q
              (omega (arith, below, length_addressees tape))
              (ap (λ (v : List ℕ). slice_get v m.number) (sym tos) ∙ sent.to_is);
        })
    | inr past ↦ inr (omega (arith, past))
  ]

  -- an event that receives nothing
  pub received_idle : received_name e ≡ None → (q : ℕ) (m : MsgName)
      → has_received (tape_at (with_event history at e) q) m ≡ has_received (tape_at history q) m
  received_idle none q m = elim (cases_eq q at) [
    | inl same ↦ ap (λ (t : List Event). has_received t m) (tape_same history at e q within same) ∙
        ap (list_any (is_name m)) (told-none received_name (tape_at history q) e none)
    | inr other ↦ ap (λ (t : List Event). has_received t m) (tape_other history at e q other)
  ]

-- nothing that no tape holds is received
pub unreceived : (history : List Process) (q : ℕ) (m : MsgName) → IsFitUnordered history
    → sends (tape_at history m.from) ≤ m.number → has_received (tape_at history q) m ≡ false
unreceived history q m fit past =
    let sent : has_received (tape_at history q) m ≡ true
    → IsSentTo history q m = λ t. fit.held q m ((has_received-iff (tape_at history q) m).0 t) in
    false_from_ne_true (has_received (tape_at history q) m) (λ t. omega (
      arith,
      past,
      slice_get_within (incarnations_sent (tape_at history m.from)) m.number m.inc (sent t).held,
    ))

-- an event that receives nothing changes no flag, where there is one for what it sends
pub AreFlagged-idle : (history : List Process) (at : ℕ) (e : Event) (flags : List (List Bool)) → at
    < length history → IsFitUnordered history → received_name e ≡ None → AreFlagged history flags
    → sends (tape_at (with_event history at e) at) ≤ length (flags_of flags at)
    → AreFlagged (with_event history at e) flags
AreFlagged-idle history at e flags within fit none are room =
    let new : List Process = with_event history at e in
    let size : length new ≡ length history = length-set history at _ in
    record {
      count = are.count ∙ sym size;
      enough = λ p p_in. elim (cases_eq p at) [
        | inl same ↦ subst (λ (v : ℕ). sends (tape_at new v) ≤ length (flags_of flags v))
            (sym same) room
        | inr other ↦ subst (λ (t : List Event). sends t ≤ length (flags_of flags p))
            (sym (tape_other history at e p other)) (are.enough p (omega (arith, p_in, size)))
      ];
      unsent = λ p number past. are.unsent p number
          (omega (arith, past, sends_grow history at e within p));
      each = λ q m sent. elim (sent_or_new history at e within q m sent) [
        | inl before ↦ are.each q m before ∙ sym (received_idle history at e within none q m)
        | inr past ↦ are.unsent m.from m.number past ∙ sym
            (received_idle history at e within none q m ∙ unreceived history q m fit past)
      ];
    }

-- an event that neither sends nor receives
pub AreFlagged-other : (history : List Process) (at : ℕ) (e : Event) (flags : List (List Bool))
    → at < length history → IsFitUnordered history → received_name e ≡ None
    → incarnation_of e ≡ None → AreFlagged history flags
    → AreFlagged (with_event history at e) flags
AreFlagged-other history at e flags within fit none quiet are =
    let same : sends (tape_at (with_event history at e) at) ≡ sends (tape_at history at) =
    ap (λ (t : List Event). sends t) (tape_same history at e at within refl) ∙ ap
    (λ (v : List ℕ). length v) (told-none incarnation_of (tape_at history at) e quiet) in
    AreFlagged-idle history at e flags within fit none are
    (omega (arith, same, are.enough at within))

-- a send, for which there is a flag
pub AreFlagged-sent : (history : List Process) (p to inc : ℕ) (body : List ℕ)
    (flags : List (List Bool)) → p < length history → IsFitUnordered history
    → sends (tape_at history p) < length (flags_of flags p) → AreFlagged history flags
    → AreFlagged (with_event history p (Send to inc body)) flags
AreFlagged-sent history p to inc body flags within fit room are =
    let e : Event = Send to inc body in
    let more : incarnations_sent (tape_at (with_event history p e) p)
    ≡ incarnations_sent (tape_at history p) ++ inc ∷ [] =
    ap incarnations_sent (tape_same history p e p within refl) ∙ told-some incarnation_of
    (tape_at history p) e inc refl in
    AreFlagged-idle history p e flags within fit refl are (omega (
      arith,
      room,
      ap (λ (v : List ℕ).
          length v) more,
      length-append (incarnations_sent (tape_at history p)) (inc ∷ []),
    ))

-- flags alike, and no fewer
pub AreFlagged-same : (history : List Process) (old new : List (List Bool))
    → length new ≡ length old → ((p : ℕ) → length (flags_of old p) ≤ length (flags_of new p))
    → ((p number : ℕ) → flag_at new p number ≡ flag_at old p number)
    → AreFlagged history old → AreFlagged history new
AreFlagged-same history old new count more same are = record {
  count = count ∙ are.count;
  enough = λ p p_in. omega (arith, more p, are.enough p p_in);
  unsent = λ p number past. same p number ∙ are.unsent p number past;
  each = λ q m sent. same m.from m.number ∙ are.each q m sent;
}

-- a row with the same flags, and no fewer
pub AreFlagged-row : (history : List Process) (flags : List (List Bool)) (p : ℕ) (row : List Bool)
    → p < length flags → ((k : ℕ) → get_or row k false ≡ get_or (flags_of flags p) k false)
    → length (flags_of flags p) ≤ length row
    → AreFlagged history flags → AreFlagged history (set flags p row)
AreFlagged-row history flags p row within same more are =
    let none : List Bool = [] in
    AreFlagged-same history flags (set flags p row) (length-set flags p row)
    (λ q. elim (cases_eq q p) [
      | inl e ↦ subst (λ (v : ℕ). length (flags_of flags v) ≤ length (flags_of (set flags p row) v))
          (sym e) (omega
          (arith, more, ap (λ (r : List Bool). length r) (get_or-set_same flags p row none within)))
      | inr other ↦ omega
          (arith, ap (λ (r : List Bool). length r) (get_or-set_other flags p q row none other))
    ])
    (λ q k. elim (cases_eq q p) [
      | inl e ↦ subst (λ (v : ℕ). flag_at (set flags p row) v k ≡ flag_at flags v k) (sym e) (ap
          (λ (r : List Bool). get_or r k false) (get_or-set_same flags p row none within) ∙ same k)
      | inr other ↦ ap (λ (r : List Bool). get_or r k false)
          (get_or-set_other flags p q row none other)
    ]) are

-- a receipt of a message that was sent to the process
module _ (history : List Process) (to : ℕ) (m : MsgName) (flags : List (List Bool)) (within : to <
    length history) (sent : IsSentTo history to m) (are : AreFlagged history flags) where
  abbrev pub new : List Process
  new = with_event history to (Recv m)

  abbrev pub written : List (List Bool)
  written = with_flag flags m.from m.number true

  number_in : m.number < sends (tape_at history m.from)
  number_in = slice_get_within (incarnations_sent (tape_at history m.from)) m.number m.inc sent.held

  same_sends : (p : ℕ) → sends (tape_at new p) ≡ sends (tape_at history p)
  same_sends p = elim (cases_eq p to) [
    | inl same ↦ ap (λ (t : List Event). sends t) (tape_same history to (Recv m) p within same) ∙ ap
        (λ (v : List ℕ). length v) (told-none incarnation_of (tape_at history p) (Recv m) refl)
    | inr other ↦ ap (λ (t : List Event). sends t) (tape_other history to (Recv m) p other)
  ]

  differs : (x : MsgName) → (x ≡ m → ⊥) → is_name x m ≡ false
  differs x apart = false_from_ne_true (is_name x m) (λ t. apart (is_name-true x m t))

  -- no other message is received by it
  others_received : (q : ℕ) (x : MsgName) → (x ≡ m → ⊥)
      → has_received (tape_at new q) x ≡ has_received (tape_at history q) x
  others_received q x apart = elim (cases_eq q to) [
    | inl same ↦
        ap (λ (t : List Event). has_received t x) (tape_same history to (Recv m) q within same)
        ∙ ap (list_any (is_name x)) (told-some received_name (tape_at history q) (Recv m) m refl)
        ∙ any_push (is_name x) (names_received (tape_at history q)) m
        ∙ ap (λ b. has_received (tape_at history q) x || b) (differs x apart)
        ∙ or-false (has_received (tape_at history q) x)
    | inr other ↦ ap (λ (t : List Event). has_received t x) (tape_other history to (Recv m) q other)
  ]

  here_received : has_received (tape_at new to) m ≡ true
  here_received =
      ap (λ (t : List Event). has_received t m) (tape_same history to (Recv m) to within refl)
      ∙ (has_received-iff (tape_at history to ++ Recv m ∷ []) m).1
      (Contains-push (tape_at history to) (Recv m))

  sent_before : (q : ℕ) (x : MsgName) → IsSentTo new q x → IsSentTo history q x
  sent_before q x is = elim (sent_or_new history to (Recv m) within q x is) [
    | inl before ↦ before
    | inr past ↦ absurd (omega (
      arith,
      past,
      same_sends x.from,
      slice_get_within
          (incarnations_sent (tape_at new x.from)) x.number x.inc is.held,
    ))
  ]

  -- the same send is the same message, to the same process
  pub same_message : (q : ℕ) (x : MsgName) → IsSentTo history q x → x.from ≡ m.from
      → x.number ≡ m.number → (x ≡ m) × (q ≡ to)
  same_message q x is f n =
      let held : slice_get (incarnations_sent (tape_at history m.from)) m.number ≡ Some x.inc =
      ap (λ (v : ℕ). slice_get (incarnations_sent (tape_at history m.from)) v) (sym n) ∙ ap (λ
      (v : ℕ). slice_get (incarnations_sent (tape_at history v)) x.number) (sym f) ∙ is.held in
      let named : addressee history m ≡ Some q =
      ap (λ (v : ℕ). slice_get (addressees (tape_at history m.from)) v) (sym n) ∙ ap
      (λ (v : ℕ). slice_get (addressees (tape_at history v)) x.number) (sym f) ∙ is.to_is in
      let inc : x.inc ≡ m.inc = same_Some _ _ (sym held ∙ sent.held) in (
        ap (λ (v : ℕ). name_of v x.inc x.number) f ∙ ap (λ (v : ℕ). name_of m.from v x.number) inc ∙
            ap (λ (v : ℕ). name_of m.from m.inc v) n,
        same_Some _ _ (sym named ∙ sent.to_is),
      )

  pub AreFlagged-received : AreFlagged new written
  AreFlagged-received =
      let size : length new ≡ length history = length-set history to _ in
      record {
        count = length-set flags m.from _ ∙ are.count ∙ sym size;
        enough = λ p p_in. omega (
          arith,
          same_sends p,
          are.enough p
              (omega (arith, p_in, size)),
          flags_many flags m.from m.number true p,
        );
        unsent = λ p number past. flag_kept flags m.from m.number true p number (λ f n.
            let there : sends (tape_at history p)
            ≡ sends (tape_at history m.from) = ap (λ (v : ℕ). sends (tape_at history v)) f in
            omega (arith, past, same_sends p, there, n, number_in)) ∙ are.unsent p number
            (omega (arith, past, same_sends p));
        each = λ q x is.
            let before : IsSentTo history q x = sent_before q x is in
            elim (cases_eq x.from m.from) [
              | inl f ↦ elim (cases_eq x.number m.number) [
                | inl n ↦
                    let same = same_message q x before f n in
                    let from_in : m.from < length history = sent_within history to m sent in
                    ap (λ (v : MsgName). flag_at written v.from v.number) same.0
                    ∙ flag_written flags m.from m.number true (omega (arith, from_in, are.count))
                    (omega (arith, number_in, are.enough m.from from_in))
                    ∙ sym (ap (λ (v : ℕ). has_received (tape_at new v) x) same.1 ∙ ap
                    (has_received (tape_at new to)) same.0 ∙ here_received)
                | inr apart ↦ flag_kept flags m.from m.number true x.from x.number
                    (λ _ n. apart n) ∙ are.each q x before ∙ sym
                    (others_received q x (λ e. apart (ap (λ (v : MsgName). v.number) e)))
              ]
              | inr apart ↦ flag_kept flags m.from m.number true x.from x.number
                  (λ f _. apart f) ∙ are.each q x before ∙ sym
                  (others_received q x (λ e. apart (ap (λ (v : MsgName). v.from) e)))
            ];
      }
