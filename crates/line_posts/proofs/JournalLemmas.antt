-- What a journal's calls leave of its record, by what its marker answers.
use Rattle.std.proofs.Common.{◌≡◌, ◌≢◌, ℕ, zero, suc, ◌<◌, Bool, true, false, cond, List, [], ◌∷◌}
use Rattle.std.proofs.Common.{◌++◌, length, Some, None, refl, sym, ap, ◌∙◌, subst, arith, inl, inr}
use Rattle.std.specs.Prelude.{Contains, slice_index_or, slice_set, ◌||◌, All, IsTrue, MatchOption}
use Rattle.std.specs.Prelude.{nat_lt, Result, Ok, Err, IfOk, OnOk, OnErr, IsErrOf, ◌↔◌}
use Rattle.std.proofs.lemmas.Bool.{cases_eq, eq-eqb, ne_eqb, lt-ltb, le-ltb}
use Rattle.std.proofs.lemmas.List.Elements.{All-nil, All-head, All-tail}
use Rattle.line_rounds.specs.Recording.{Channel, MarkerView, RecordedRound, open_channel}
use Rattle.line_rounds.specs.Recording.{channel_at, with_channel, with_marker, with_round, round_of}
use Rattle.line_rounds.specs.Recording.{latest, effect_by, effect_of, rounds_after, IsRepeated}
use Rattle.line_rounds.specs.Recording.{IsSameProcess}
use Rattle.line_rounds.specs.declared.markers.Effect.{Effect}
use Rattle.line_rounds.specs.declared.markers.Effect.TheVariants.{Closed, Forced, Ignored}
use Rattle.line_rounds.specs.declared.errors.MarkerError.{MarkerError}
use Rattle.line_rounds.specs.declared.errors.MarkerError.TheVariants.{OutOfMemory, MarkerRepeated}
use Rattle.line_tape.specs.declared.events.Event.{Event}
use Rattle.line_tape.specs.declared.events.Event.TheVariants.{Check, Mark}
use Rattle.line_tape.specs.Rounds.{has_check_of, has_mark_of, rounds_checked}
use Rattle.line_laws.proofs.CompletionLemmas.{contains_round}
use Rattle.line_laws.proofs.GrowthLemmas.{has_check_push}
use Rattle.line_posts.specs.Journals.{rounds_by, IsRoundOn, IsRecorded, MayCome}
use Rattle.line_posts.proofs.RecordLemmas.{or-true, channel_is, recorded_next, found_checked}

-- a marker whose channel is closed in each round of its number, or which has no round, changes
-- nothing
set_same : {X : Type 0} (xs : List X) (i : ℕ) (d x : X) → i < length xs → slice_index_or xs i d ≡ x
    → slice_set xs i x ≡ xs
set_same [] i d x lt e = absurd (omega (arith, lt))
set_same (y ∷ ys) zero d x lt e = ap (λ v. v ∷ ys) (sym e)
set_same (y ∷ ys) (suc i) d x lt e = ap (λ v. y ∷ v) (set_same ys i d x (omega (arith, lt)) e)

pub marked-again : (n : ℕ) (tape : List Event) (rounds : List RecordedRound) (from r : ℕ) → from < n
    → All (IsRoundOn n tape) rounds → has_mark_of from r tape ≡ true
    → with_marker rounds from r ≡ rounds
marked-again n tape [] from r lt h m = refl
marked-again n tape (x ∷ xs) from r lt h m =
    let hx = All-head (IsRoundOn n tape) x xs h in
    let count = hx.count in
    let rest = marked-again n tape xs from r lt (All-tail (IsRoundOn n tape) x xs h) m in
    elim (cases_eq x.number r) [
      | inl same ↦ (
          let closed : channel_at x from ≡ record (channel_at x from) { is_closed = true } =
          channel_is (channel_at x from).messages (channel_at x from).messages
          (channel_at x from).is_closed true refl (ap (λ (c : Channel). c.is_closed)
          (hx.channels from) ∙ (ap (λ v. has_mark_of from v tape) same ∙ m)) in
          ap (λ b. cond b (with_channel x from (record (channel_at x from) { is_closed = true })) x
          ∷ with_marker xs from r) (eq-eqb x.number r same)
          ∙ (ap (λ (cs : List Channel). let y : RecordedRound = record
          { number = x.number; channels = cs } in y ∷ with_marker xs from r)
          (set_same x.channels from open_channel (record (channel_at x from) { is_closed = true })
          (omega (arith, count, lt)) closed)
          ∙ ap (λ (t : List RecordedRound). x ∷ t) rest))
      | inr other ↦ ap (λ b. cond b (with_channel x from (record (channel_at x from)
          { is_closed = true })) x ∷ with_marker xs from r) (ne_eqb x.number r other)
          ∙ ap (λ (t : List RecordedRound). x ∷ t) rest
    ]

pub marked-none : (rounds : List RecordedRound) (from r : ℕ) → round_of rounds r ≡ None
    → with_marker rounds from r ≡ rounds
marked-none [] from r e = refl
marked-none (x ∷ xs) from r e = elim (cases_eq x.number r) [
  | inl same ↦ (let f : Some x
      ≡ None = ap (λ b. cond b (Some x) (round_of xs r)) (sym (eq-eqb x.number r same)) ∙ e in cc f)
  | inr other ↦ ap (λ b. cond b (with_channel x from (record (channel_at x from)
      { is_closed = true })) x ∷ with_marker xs from r) (ne_eqb x.number r other)
      ∙ ap (λ (t : List RecordedRound). x ∷ t) (marked-none xs from r
      (ap (λ b. cond b (Some x) (round_of xs r)) (sym (ne_eqb x.number r other)) ∙ e))
]

-- the marker of a channel that is closed already is on the tape
pub repeated_marked : (n : ℕ) (tape : List Event) (rounds : List RecordedRound) (from r : ℕ)
    → All (IsRoundOn n tape) rounds → IsRepeated rounds from r → has_mark_of from r tape ≡ true
repeated_marked n tape [] from r h e = absurd e
repeated_marked n tape (x ∷ xs) from r h e = elim (cases_eq x.number r) [
  | inl same ↦ (let hx = All-head (IsRoundOn n tape) x xs h in
      let t : IsTrue (channel_at x from).is_closed = subst
      (λ b. MatchOption (cond b (Some x) (round_of xs r)) ⊥
      (λ round. IsTrue (channel_at round from).is_closed)) (eq-eqb x.number r same) e in
      subst (λ v. has_mark_of from v tape ≡ true) same
      (ap (λ (c : Channel). c.is_closed) (sym (hx.channels from)) ∙ t))
  | inr other ↦ repeated_marked n tape xs from r (All-tail (IsRoundOn n tape) x xs h)
      (subst (λ b. MatchOption (cond b (Some x) (round_of xs r)) ⊥
      (λ round. IsTrue (channel_at round from).is_closed)) (ne_eqb x.number r other) e)
]

-- what the marker of a round does to what is recorded, where the tape has the check of it
pub marked_by : (n me floor room : ℕ) (tape : List Event) (rounds new : List RecordedRound)
    (from r : ℕ) (result : Result Effect MarkerError) → IsRecorded n floor tape rounds → from < n
    → has_check_of r tape ≡ true → (result ≡ Err OutOfMemory → ⊥)
    → (IsErrOf result MarkerRepeated ↔ IsRepeated rounds from r)
    → IfOk result (λ effect. effect
    ≡ effect_of (record { n = n; me = me; floor = floor; rounds = rounds; room = room }) r)
    → IfOk result (λ effect. new ≡ rounds_after effect
    (record { n = n; me = me; floor = floor; rounds = rounds; room = room }) from r)
    → OnErr result (new ≡ rounds) → new ≡ with_marker rounds from r
marked_by n me floor room tape rounds new from r
    (Err OutOfMemory) h lt t ample again effect after err =
    absurd (ample refl)
marked_by n me floor room tape rounds new from r
    (Err MarkerRepeated) h lt t ample again effect after err =
    err ∙ sym (marked-again n tape rounds from r lt h.each
    (repeated_marked n tape rounds from r h.each (again.0 refl)))
marked_by n me floor room tape rounds new from r (Ok Closed) h lt t ample again effect after err =
    after
marked_by n me floor room tape rounds new from r (Ok Ignored) h lt t ample again effect after err =
    after ∙ sym (elim (round_of rounds r) as
    (λ o. round_of rounds r ≡ o → with_marker rounds from r ≡ rounds) [
      | None ↦ λ e. marked-none rounds from r e
      | (Some x) ↦ λ e. (let f : Ignored
          ≡ Closed = effect ∙ ap (λ o. effect_by o (nat_lt (latest floor rounds) r)) e in cc f)
    ] refl)
marked_by n me floor room tape rounds new from r (Ok Forced) h lt t ample again effect after err =
    let w = h.within r t in
    elim (round_of rounds r) as (λ o. round_of rounds r ≡ o → new ≡ with_marker rounds from r) [
      | None ↦ λ e. (let f : Forced ≡ Ignored = effect ∙ (ap (λ o. effect_by o (nat_lt (latest floor
          rounds) r)) e ∙ ap (λ b. effect_by None b) (le-ltb (latest floor rounds) r w)) in cc f)
      | (Some x) ↦ λ e. (let f : Forced
          ≡ Closed = effect ∙ ap (λ o. effect_by o (nat_lt (latest floor rounds) r)) e in cc f)
    ] refl

-- and where it has not, so that the check comes first
pub forced_by : (n me floor room : ℕ) (tape : List Event) (rounds new : List RecordedRound)
    (from r : ℕ) (state : List ℕ) (result : Result Effect MarkerError)
    → IsRecorded n floor tape rounds → from < n
    → has_check_of r tape ≡ false → (result ≡ Err OutOfMemory → ⊥)
    → (IsErrOf result MarkerRepeated ↔ IsRepeated rounds from r)
    → IfOk result (λ effect. effect
    ≡ effect_of (record { n = n; me = me; floor = floor; rounds = rounds; room = room }) r)
    → IfOk result (λ effect. new ≡ rounds_after effect
    (record { n = n; me = me; floor = floor; rounds = rounds; room = room }) from r)
    → OnErr result (new ≡ rounds)
    → new ≡ with_marker (rounds_by n floor rounds (Check state (Some r))) from r
forced_by n me floor room tape rounds new from r state result h lt f ample again effect after err =
    by_result result ample again effect after err where
      none : round_of rounds r ≡ None
      none = elim (round_of rounds r) as (λ o. round_of rounds r ≡ o → round_of rounds r ≡ None) [
        | None ↦ λ e. e
        | (Some x) ↦ λ e. (let t = found_checked n tape rounds r x h.each e in cc (t, f))
      ] refl

      by_result : (result : Result Effect MarkerError) → (result ≡ Err OutOfMemory → ⊥)
          → (IsErrOf result MarkerRepeated ↔ IsRepeated rounds from r)
          → IfOk result (λ effect. effect
          ≡ effect_of (record { n = n; me = me; floor = floor; rounds = rounds; room = room }) r)
          → IfOk result (λ effect. new ≡ rounds_after effect
          (record { n = n; me = me; floor = floor; rounds = rounds; room = room }) from r)
          → OnErr result (new ≡ rounds)
          → new ≡ with_marker (rounds_by n floor rounds (Check state (Some r))) from r
      by_result (Err OutOfMemory) ample again effect after err = absurd (ample refl)
      by_result (Err MarkerRepeated) ample again effect after err =
          (let t = repeated_marked n tape rounds from r h.each (again.0 refl) in
          absurd (subst
          (λ o. MatchOption o ⊥ (λ round. IsTrue (channel_at round from).is_closed)) none
          (again.0 refl)))
      by_result (Ok Closed) ample again effect after err =
          (let g : Closed ≡ effect_by None (nat_lt (latest floor rounds) r) = effect ∙ ap
          (λ o. effect_by o (nat_lt (latest floor rounds) r)) none in
          absurd (not_closed (nat_lt (latest floor rounds) r) g)) where
            not_closed : (b : Bool) → Closed ≡ effect_by None b → ⊥
            not_closed true e = cc e
            not_closed false e = cc e
      by_result (Ok Ignored) ample again effect after err = elim (nat_lt (latest floor rounds) r) as
          (λ b. nat_lt (latest floor rounds) r ≡ b
          → new ≡ with_marker (cond b (with_round rounds n r) rounds) from r) [
            | true ↦ λ t. (let g : Ignored ≡ Forced = effect ∙ (ap (λ o. effect_by o
                (nat_lt (latest floor rounds) r)) none ∙ ap (λ b. effect_by None b) t) in cc g)
            | false ↦ λ t. after ∙ sym (marked-none rounds from r none)
          ] refl
      by_result (Ok Forced) ample again effect after err = elim (nat_lt (latest floor rounds) r) as
          (λ b. nat_lt (latest floor rounds) r ≡ b
          → new ≡ with_marker (cond b (with_round rounds n r) rounds) from r) [
            | true ↦ λ t. after
            | false ↦ λ t. (let g : Forced ≡ Ignored = effect ∙ (ap (λ o. effect_by o
                (nat_lt (latest floor rounds) r)) none ∙ ap (λ b. effect_by None b) t) in cc g)
          ] refl

pub on_ok_at : {T E : Type 0} (r : Result T E) (x : T) (P : Type 0) → r ≡ Ok x → OnOk r P → P
on_ok_at (Ok y) x P e p = p
on_ok_at (Err y) x P e p = cc e

-- after an event
pub journal_next : (old new : MarkerView) (floor : ℕ) (tape tape' : List Event) (e : Event)
    → (old.floor ≡ floor) × IsRecorded old.n floor tape old.rounds → MayCome old.n old.me tape e
    → IsSameProcess old new → tape' ≡ tape ++ e ∷ [] → new.rounds ≡ rounds_by old.n floor old.rounds
    e → (new.floor ≡ floor) × IsRecorded new.n floor tape' new.rounds
journal_next old new floor tape tape' e h may same et er = (
  same.floor_is ∙ h.0,
  rw (same.n_is, et, er)
      (recorded_next old.n old.me floor tape old.rounds e h.1 may),
)

floor_moved : (n floor floor' : ℕ) (tape : List Event) (rounds : List RecordedRound)
    → floor' ≡ floor → IsRecorded n floor tape rounds → IsRecorded n floor' tape rounds
floor_moved n floor floor' tape rounds e h = rw e h

-- a round beyond those recorded has no check on the tape
pub unchecked : (n floor : ℕ) (tape : List Event) (rounds : List RecordedRound) (r : ℕ)
    → IsRecorded n floor tape rounds → latest floor rounds < r → has_check_of r tape ≡ false
unchecked n floor tape rounds r h lt =
    elim (has_check_of r tape) as (λ b. has_check_of r tape ≡ b → has_check_of r tape ≡ false) [
      | true ↦ λ t. (let w = h.within r t in absurd (omega (arith, w, lt)))
      | false ↦ λ f. f
    ] refl

pub begun_by : (n floor : ℕ) (rounds new : List RecordedRound) (state : List ℕ) (r : ℕ)
    → latest floor rounds < r → new ≡ with_round rounds n r
    → new ≡ rounds_by n floor rounds (Check state (Some r))
begun_by n floor rounds new state r lt e =
    e ∙ ap (λ b. cond b (with_round rounds n r) rounds) (sym (lt-ltb (latest floor rounds) r lt))

now_checked : (tape : List Event) (state : List ℕ) (r : ℕ)
    → has_check_of r (tape ++ Check state (Some r) ∷ []) ≡ true
now_checked tape state r = has_check_push tape (Check state (Some r)) r ∙
    (ap (λ b. has_check_of r tape || b) (eq-eqb r r refl) ∙ or-true (has_check_of r tape))

-- after a check that a marker forced, and the marker
pub journal_forced : (old new : MarkerView) (floor : ℕ) (tape tape' : List Event) (from r : ℕ)
    (state : List ℕ) → (old.floor ≡ floor) × IsRecorded old.n floor tape old.rounds
    → from < old.n → from ≢ old.me → has_check_of r tape ≡ false → IsSameProcess old new
    → tape' ≡ (tape ++ Check state (Some r) ∷ []) ++ Mark from r ∷ []
    → new.rounds ≡ with_marker (rounds_by old.n floor old.rounds (Check state (Some r))) from r
    → (new.floor ≡ floor) × IsRecorded new.n floor tape' new.rounds
journal_forced old new floor tape tape' from r state h lt ne none same et er =
    let first = recorded_next old.n old.me floor tape old.rounds
    (Check state (Some r)) h.1 none in (
      same.floor_is ∙ h.0,
      rw (same.n_is, et, er)
          (recorded_next old.n old.me floor (tape ++ Check state (Some r) ∷ [])
          (rounds_by old.n floor
          old.rounds (Check state (Some r))) (Mark from r) first
          (lt, ne, now_checked tape state r)),
    )

pub heard_by_marker : (old new : MarkerView) (floor : ℕ) (tape : List Event) (from r : ℕ)
    (result : Result Effect MarkerError)
    → (old.floor ≡ floor) × IsRecorded old.n floor tape old.rounds → from < old.n
    → has_check_of r tape ≡ true → (result ≡ Err OutOfMemory → ⊥)
    → (IsErrOf result MarkerRepeated ↔ IsRepeated old.rounds from r)
    → IfOk result (λ effect. effect ≡ effect_of old r) → IfOk result (λ effect. new.rounds
    ≡ rounds_after effect old from r) → OnErr result (new.rounds ≡ old.rounds)
    → new.rounds ≡ with_marker old.rounds from r
heard_by_marker old new floor tape from r result h lt t ample again effect after err =
    marked_by old.n old.me old.floor old.room tape old.rounds new.rounds from r result (floor_moved
    old.n floor old.floor tape old.rounds h.0 h.1) lt t ample again effect after err

pub forced_by_marker : (old new : MarkerView) (floor : ℕ) (tape : List Event) (from r : ℕ)
    (state : List ℕ) (result : Result Effect MarkerError)
    → (old.floor ≡ floor) × IsRecorded old.n floor tape old.rounds → from < old.n
    → has_check_of r tape ≡ false → (result ≡ Err OutOfMemory → ⊥)
    → (IsErrOf result MarkerRepeated ↔ IsRepeated old.rounds from r)
    → IfOk result (λ effect. effect ≡ effect_of old r) → IfOk result (λ effect. new.rounds
    ≡ rounds_after effect old from r) → OnErr result (new.rounds ≡ old.rounds)
    → new.rounds ≡ with_marker (rounds_by old.n floor old.rounds (Check state (Some r))) from r
forced_by_marker old new floor tape from r state result h lt f ample again effect after err =
    forced_by old.n old.me old.floor old.room tape old.rounds new.rounds from r state result
    (floor_moved old.n floor old.floor tape old.rounds h.0 h.1) lt f ample again effect after
    err
    ∙ ap (λ v. with_marker (rounds_by old.n v old.rounds (Check state (Some r))) from r) h.0

-- a tape without rounds, of which nothing is recorded
pub nothing_recorded : (n floor floor' : ℕ) (tape : List Event) (rounds : List RecordedRound)
    → floor' ≡ floor → rounds_checked tape ≡ [] → rounds ≡ []
    → (floor' ≡ floor) × IsRecorded n floor tape rounds
nothing_recorded n floor floor' tape rounds ef bare er = (
  ef,
  rw er (record {
    each = All-nil (IsRoundOn n tape);
    within = λ r t. (let (k, l, e) = subst (λ rs. Contains rs r) bare
        (contains_round tape r t) in absurd (omega (arith, l)));
  }),
)
