-- What was sent stays so, by events and by restarts, and the next name is new.
use Rattle.std.proofs.Common.{◌≡◌, ℕ, zero, suc, ◌+◌, ◌<◌, ◌≤◌, List, [], ◌∷◌, ◌++◌, length, take}
use Rattle.std.proofs.Common.{replicate, Option, Some, None, refl, sym, ap, ◌∙◌, subst, arith, inl}
use Rattle.std.proofs.Common.{inr}
use Rattle.std.specs.List.{cons_option, slice_get, All}
use Rattle.std.proofs.lemmas.List.{take_all, get_or_past, get_or-set_same, get_or-set_other}
use Rattle.std.proofs.lemmas.List.Elements.{filter_map-append, All-nil, All-cons, All-append}
use Rattle.std.proofs.lemmas.List.Elements.{All-take, All-weaker}
use Rattle.std.proofs.lemmas.Bool.{cases_eq, cases_lt}
use Rattle.std.proofs.lemmas.Option.{slice_get_within, get_or_from_slice_get}
use Rattle.line_names.specs.declared.messages.MsgName.{MsgName}
use Rattle.line_names.specs.declared.choices.Choice.{Choice}
use Rattle.line_names.specs.declared.choices.Choice.TheVariants.{Check as AtCheck, Now}
use Rattle.line_names.specs.Lines.{choice_at}
use Rattle.line_tape.specs.declared.events.Event.{Event}
use Rattle.line_tape.specs.declared.events.Event.TheVariants.{Send}
use Rattle.line_tape.specs.Event.{incarnation_of, incarnations_sent, Holds}
use Rattle.line_tape.specs.Front.{place, front}
use Rattle.line_tape.specs.History.{Process, fresh, tape_at, incarnation_at, with_event}
use Rattle.line_tape.specs.Line.{events_before}
use Rattle.line_tape.specs.Restart.{restarted_history, restarted_incarnation}
use Rattle.line_tape.specs.Spent.{next_name, IsSpentName, HasNoLaterSend}
use Rattle.line_tape.proofs.LineLemmas.{tape_at-past, front-empty}
use Rattle.line_tape.proofs.StayLemmas.{incs_restarted}
use Rattle.line_tape.proofs.EventLemmas.{tape_same, tape_other, tape_grows, holds_more, tape_start}
use Rattle.line_tape.proofs.RowLemmas.{sent_front}

-- the element that is pushed stands at the end
pub slice_get-push : {X : Type 0} (xs : List X) (x : X)
    → slice_get (xs ++ x ∷ []) (length xs) ≡ Some x
slice_get-push [] x = refl
slice_get-push (y ∷ xs) x = slice_get-push xs x

-- an event changes no incarnation
pub incarnation_event : (history : List Process) (at : ℕ) (e : Event) (p : ℕ) → at < length history
    → incarnation_at (with_event history at e) p ≡ incarnation_at history p
incarnation_event history at e p h = elim (cases_eq p at) [
  | inl same ↦ subst (λ (v : ℕ). incarnation_at (with_event history at e) v ≡ incarnation_at history
      v) (sym same) (ap (λ (v : Process). v.incarnation) (get_or-set_same history at _ _ h))
  | inr other ↦ ap (λ (v : Process). v.incarnation) (get_or-set_other history at p _ _ other)
]

pub holds_event : (history : List Process) (at : ℕ) (e : Event) (p inc k : ℕ) → at < length history
    → Holds (tape_at history p) inc k → Holds (tape_at (with_event history at e) p) inc k
holds_event history at e p inc k h held =
    let grows = tape_grows history at e p h in
    subst (λ (tape : List Event). Holds tape inc k) (sym grows.1)
    (holds_more (tape_at history p) grows.0 inc k held)

pub incarnation_restarted : (history : List Process) (line : List Choice) (p : ℕ)
    → length line ≡ length history → p < length history → incarnation_at (restarted_history history
    line) p ≡ restarted_incarnation (choice_at line p) (incarnation_at history p)
incarnation_restarted [] line p e h = absurd (omega arith)
incarnation_restarted (process ∷ rest) [] p e h = absurd (omega arith)
incarnation_restarted (process ∷ rest) (choice ∷ line) zero e h = refl
incarnation_restarted (process ∷ rest) (choice ∷ line) (suc p) e h =
    incarnation_restarted rest line p (omega arith) (omega arith)

-- an incarnation stays or rises
pub incarnation_rises : (choice : Choice) (inc : ℕ) → inc ≤ restarted_incarnation choice inc
incarnation_rises (AtCheck c) inc = omega arith
incarnation_rises Now inc = omega arith

-- the next name is not spent
pub next_unspent : (history : List Process) (p : ℕ) → IsSpentName history (next_name history p) → ⊥
next_unspent history p (inl held) =
    let within : length (incarnations_sent (tape_at history p)) < length
    (incarnations_sent (tape_at history p)) = slice_get_within
    (incarnations_sent (tape_at history p)) (length (incarnations_sent (tape_at history p)))
    (incarnation_at history p) held in
    omega (arith, within)
next_unspent history p (inr below) = omega (arith, below)

-- once it is sent, it is
pub sent_spent : (history : List Process) (at to : ℕ) (body : List ℕ) → at < length history
    → IsSpentName (with_event history at (Send to (incarnation_at history at) body))
    (next_name history at)
sent_spent history at to body h =
    let e : Event = Send to (incarnation_at history at) body in
    let incs : incarnations_sent (tape_at (with_event history at e) at)
    ≡ incarnations_sent (tape_at history at)
    ++ incarnation_at history at ∷ [] = ap incarnations_sent (tape_same history at e at h refl)
    ∙ filter_map-append incarnation_of (tape_at history at) (e ∷ []) in
    inl (ap (λ (v : List ℕ). slice_get v (length (incarnations_sent (tape_at history at)))) incs ∙
    slice_get-push (incarnations_sent (tape_at history at)) (incarnation_at history at))

-- what is spent stays so by an event
pub spent_event : (history : List Process) (at : ℕ) (e : Event) (m : MsgName) → at < length history
    → IsSpentName history m → IsSpentName (with_event history at e) m
spent_event history at e m h (inl held) =
    inl (holds_event history at e m.from m.inc m.number h held)
spent_event history at e m h (inr below) =
    inr (omega (arith, below, incarnation_event history at e m.from h))

-- a tape holds nothing of a later incarnation
pub held_no_later : (history : List Process) → HasNoLaterSend history → (p inc k : ℕ)
    → Holds (tape_at history p) inc k → inc ≤ incarnation_at history p
held_no_later history no_later p inc k held =
    let xs : List ℕ = incarnations_sent (tape_at history p) in
    subst (λ (v : ℕ). v ≤ incarnation_at history p) (get_or_from_slice_get xs k inc 0 held)
    (no_later p k 0 (slice_get_within xs k inc held))

-- only a process that there is has sent
pub spent_within : (history : List Process) (m : MsgName) → IsSpentName history m
    → m.from < length history
spent_within history m spent = elim (cases_lt m.from (length history)) [
  | inl within ↦ within
  | inr past ↦ absurd (none past spent)
]
  where
    none : length history ≤ m.from → IsSpentName history m → ⊥
    none past (inl held) =
        let nothing : Holds [] m.inc m.number = subst (λ (tape : List Event). Holds tape m.inc
        m.number) (tape_at-past history m.from past) held in
        cc
    none past (inr below) =
        let first : incarnation_at history m.from
        ≡ 0 = ap (λ (v : Process). v.incarnation) (get_or_past history m.from fresh past) in
        omega (arith, below, first)

-- what is spent stays so by a restart
pub spent_restarted : (history : List Process) (line : List Choice) (m : MsgName)
    → HasNoLaterSend history → length line ≡ length history → IsSpentName history m
    → IsSpentName (restarted_history history line) m
spent_restarted history line m no_later e spent = from_each spent (choice_at line m.from) refl
  where
    within : m.from < length history
    within = spent_within history m spent

    rises : incarnation_at history m.from ≤ incarnation_at (restarted_history history line) m.from
    rises = subst (λ (v : ℕ). incarnation_at history m.from ≤ v)
        (sym (incarnation_restarted history line m.from e within))
        (incarnation_rises (choice_at line m.from) (incarnation_at history m.from))

    from_each : IsSpentName history m → (choice : Choice) → choice_at line m.from ≡ choice
        → IsSpentName (restarted_history history line) m
    from_each (inr below) choice is = inr (omega (arith, below, rises))
    from_each (inl held) (AtCheck c) is =
        let up : incarnation_at (restarted_history history line) m.from
        ≡ incarnation_at history m.from + 1 = incarnation_restarted history line m.from e within
        ∙ ap (λ (v : Choice). restarted_incarnation v (incarnation_at history m.from)) is in
        inr (omega (arith, up, held_no_later history no_later m.from m.inc m.number held))
    from_each (inl held) Now is =
        let tape : List Event = tape_at history m.from in
        let whole : events_before history line m.from
        ≡ tape = ap (front tape) is ∙ take_all (length tape) tape (omega arith) in
        inl (ap (λ (v : List ℕ). slice_get v m.number)
        (incs_restarted history line m.from e ∙ ap incarnations_sent whole) ∙ held)

-- no tape is ahead of its process after an event that is not
pub no_later_event : (history : List Process) (at : ℕ) (e : Event) → HasNoLaterSend history
    → at < length history → ((inc : ℕ) → incarnation_of e ≡ Some inc
    → inc ≤ incarnation_at history at) → HasNoLaterSend (with_event history at e)
no_later_event history at e no_later h new p = subst
    (λ (n : ℕ). All (λ inc. inc ≤ n) (incarnations_sent (tape_at (with_event history at e) p)))
    (sym (incarnation_event history at e p h)) (elim (cases_eq p at) [
      | inl same ↦ subst (λ (xs : List ℕ). All (λ inc. inc ≤ incarnation_at history p) xs)
          (sym (ap incarnations_sent (tape_same history at e p h same) ∙ filter_map-append
          incarnation_of (tape_at history p) (e ∷ [])))
          (All-append (λ inc. inc ≤ incarnation_at history p)
          (incarnations_sent (tape_at history p))
          (cons_option (incarnation_of e) []) (no_later p)
          (added (incarnation_of e) (subst (λ (v : ℕ). (inc : ℕ) → incarnation_of e ≡ Some inc
          → inc ≤ incarnation_at history v) (sym same) new)))
      | inr other ↦ subst (λ (es : List Event). All (λ inc. inc ≤ incarnation_at history p)
          (incarnations_sent es)) (sym (tape_other history at e p other)) (no_later p)
    ])
  where
    added : (o : Option ℕ) → ((inc : ℕ) → o ≡ Some inc → inc ≤ incarnation_at history p)
        → All (λ inc. inc ≤ incarnation_at history p) (cons_option o [])
    added None f = All-nil (λ inc. inc ≤ incarnation_at history p)
    added (Some inc) f = All-cons (λ v. v ≤ incarnation_at history p) inc [] (f inc refl)
        (All-nil (λ v. v ≤ incarnation_at history p))

-- nor after a restart
pub no_later_restarted : (history : List Process) (line : List Choice) → HasNoLaterSend history
    → length line ≡ length history → HasNoLaterSend (restarted_history history line)
no_later_restarted history line no_later e p = subst
    (λ (xs : List ℕ). All (λ inc. inc ≤ incarnation_at (restarted_history history line) p) xs)
    (sym (incs_restarted history line p e)) (elim (cases_lt p (length history)) [
      | inl within ↦
          let tape : List Event = tape_at history p in
          let n : ℕ = place tape (choice_at line p) in
          let rises : incarnation_at history p ≤ incarnation_at
          (restarted_history history line) p = subst (λ (v : ℕ). incarnation_at history p ≤ v)
          (sym (incarnation_restarted history line p e within))
          (incarnation_rises (choice_at line p) (incarnation_at history p)) in
          All-weaker (λ inc. inc ≤ incarnation_at history p)
          (λ inc. inc ≤ incarnation_at (restarted_history history line) p)
          (λ inc l. omega (arith, l, rises)) (incarnations_sent (take n tape))
          (subst (λ (xs : List ℕ). All (λ inc. inc ≤ incarnation_at history p) xs)
          (sym (sent_front tape n)) (All-take (λ inc. inc ≤ incarnation_at history p)
          (length (incarnations_sent (take n tape))) (incarnations_sent tape) (no_later p)))
      | inr past ↦
          let none : events_before history line p ≡ [] = ap (λ (tape : List Event). front tape
          (choice_at line p)) (tape_at-past history p past) ∙ front-empty (choice_at line p) in
          subst (λ (es : List Event). All
          (λ inc. inc ≤ incarnation_at (restarted_history history line) p) (incarnations_sent es))
          (sym none) (All-nil (λ inc. inc ≤ incarnation_at (restarted_history history line) p))
    ])

pub no_later_start : (n : ℕ) → HasNoLaterSend (replicate n fresh)
no_later_start n p = subst
    (λ (es : List Event). All (λ inc. inc ≤ incarnation_at (replicate n fresh) p) (incarnations_sent
    es)) (sym (tape_start n p)) (All-nil (λ inc. inc ≤ incarnation_at (replicate n fresh) p))
