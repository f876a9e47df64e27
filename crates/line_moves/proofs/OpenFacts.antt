-- What a call on the open round leaves of it.
use Rattle.std.specs.Option.{unwrap_or}
use Rattle.std.proofs.Common.{◌≡◌, ◌≢◌, ℕ, zero, suc, ◌<◌, ◌≤◌, ◌+◌, Bool, true, false, cond, List}
use Rattle.std.proofs.Common.{[], ◌∷◌, ◌++◌, length, get_or, set, map, Option, Some, refl, sym, ap}
use Rattle.std.proofs.Common.{◌∙◌, subst, arith, inl, inr}
use Rattle.std.proofs.lemmas.List.{length_push, get_or_append_left, get_or_default, get_or-set_same}
use Rattle.std.proofs.lemmas.List.{get_or-set_other}
use Rattle.std.specs.Prelude.{◌==◌, ◌↔◌, IsTrue, Result, Ok, Err, OnOk, OnErr}
use Rattle.std.specs.List.{range_with_len}
use Rattle.line_rounds.specs.Recording.{Channel, MarkerView, RecordedRound, messages_by, IsOver}
use Rattle.line_rounds.specs.Recording.{with_marker, with_round, rounds_with_message, IsRepeated}
use Rattle.line_names.specs.declared.messages.MsgName.{MsgName}
use Rattle.line_tape.specs.declared.events.Event.{Event}
use Rattle.line_tape.specs.declared.events.Event.TheVariants.{Recv, Check, Mark}
use Rattle.line_tape.specs.History.{Process, tape_at, with_event}
use Rattle.line_tape.specs.Rounds.{has_check_of, is_check_of, checks_of, channel_fifo, is_closed_at}
use Rattle.line_tape.specs.Rounds.{is_completed_fifo}
use Rattle.line_laws.proofs.CompletionLemmas.{closed_from, closed_parts}
use Rattle.line_moves.proofs.FateLemmas.{same_test}
use Rattle.line_laws.proofs.RoundLines.{closed_has_check, completed_checked}
use Rattle.line_tape.proofs.EventLemmas.{tape_same, tape_other}
use Rattle.line_tape.specs.declared.modes.Mode.TheVariants.{Fifo}
use Rattle.line_moves.specs.Listed.{ListedRound, channel, channel_table, listed_round}
use Rattle.line_rounds.specs.Turning.{TurningView, IsTurning}
use Rattle.line_rounds.proofs.TurningLemmas.{IsTurning-checked, IsTurning-kept}
use Rattle.line_moves.specs.Openings.{OpenView, kept_channel, recorded_channel, recorded_table}
use Rattle.line_moves.specs.Openings.{marker_at, no_marker, AreMarkers, IsFresh, IsMarkerOf}
use Rattle.line_moves.specs.Openings.{IsRecording, IsRoundOrNone}
use Rattle.line_moves.proofs.LinkLemmas.{length-with_event}
use Rattle.line_moves.proofs.OpeningLemmas.{is_checked_now, markers_written}
use Rattle.line_moves.proofs.RecordingLemmas.{recorded_round, recorded_there, closed_over}
use Rattle.line_moves.proofs.RecordingLemmas.{over_closed, IsMarkerOf-begun, IsMarkerOf-marked}
use Rattle.line_moves.proofs.RecordingLemmas.{IsMarkerOf-noted, IsMarkerOf-repeated}
use Rattle.std.proofs.lemmas.Bool.{eq-eqb, cases_eq, cases_lt}
use Rattle.std.proofs.Math.Seq.{get_or-append_seam}

module _ (history : List Process) (p : ℕ) (turning : TurningView) (markers : List MarkerView)
    (within : p < length history) (are : AreMarkers (length turning.checks) markers)
    (is : IsRecording history
    (record { number = turning.number; checks = turning.checks; markers = markers })) where
  abbrev r : ℕ
  r = turning.number

  -- the marker of process p
  pub own_marker : (d : MarkerView) → d ≡ get_or markers p d → d ≡ marker_at markers p
  own_marker d e =
      e ∙ get_or_default markers p d no_marker (omega (arith, within, is.turning.count, are.count))

  -- as it was before
  before : IsMarkerOf (length history) p r (tape_at history p) (marker_at markers p)
  before = is.markers p within

  same_n : (marker_at markers p).n ≡ length history
  same_n = are.n_is p (omega (arith, within, is.turning.count)) ∙ is.turning.count

  -- another marker of process p, and the checks as they are then
  pub set_marker : (new : List Process) → length new ≡ length history → ((q : ℕ) → q ≢ p → tape_at
      new q ≡ tape_at history q) → (turned : TurningView) → turned.number ≡ r → IsTurning new turned
      → (j : ℕ) → j ≡ p → (marker : MarkerView)
      → IsMarkerOf (length history) p r (tape_at new p) marker
      → IsRecording new (record
      { number = turned.number; checks = turned.checks; markers = set markers j marker })
  set_marker new length_is others turned number follows j j_is marker is_new = record {
    turning = follows;
    markers = subst (λ (v : ℕ). (q : ℕ) → q < length new → IsMarkerOf (length new) q v
        (tape_at new q) (marker_at (set markers j marker) q)) (sym number)
        (subst (λ (v : ℕ). (q : ℕ) → q < length new → IsMarkerOf (length new) q r (tape_at new q)
        (marker_at (set markers v marker) q)) (sym j_is)
        (markers_written history new p r length_is others markers (set markers p marker) is.markers
        (λ q apart. get_or-set_other markers p q marker no_marker apart)
        (subst (IsMarkerOf (length history) p r (tape_at new p)) (sym (get_or-set_same markers p
        marker no_marker (omega (arith, within, is.turning.count, are.count)))) is_new)));
  }

  one_event : (e : Event) → tape_at (with_event history p e) p ≡ tape_at history p ++ e ∷ []
  one_event e = tape_same history p e p within refl

  -- after one event of the process
  set_event : (e : Event) (turned : TurningView) → turned.number ≡ r
      → IsTurning (with_event history p e) turned → (j : ℕ) → j ≡ p → (marker : MarkerView)
      → IsMarkerOf (length history) p r (tape_at history p ++ e ∷ []) marker
      → IsRecording (with_event history p e) (record
      { number = turned.number; checks = turned.checks; markers = set markers j marker })
  set_event e turned number follows j j_is marker is_new =
      set_marker (with_event history p e) (length-with_event history p e)
      (λ q apart. tape_other history p e q apart) turned number follows j j_is marker
      (subst (λ (t : List Event). IsMarkerOf (length history) p r t marker)
      (sym (one_event e)) is_new)

  -- the process takes its check
  module _ (state : List ℕ) (turned : TurningView) (number : turned.number ≡ r)
      (follows : IsTurning (with_event history p (Check state (Some r))) turned)
      (none : has_check_of r (tape_at history p) ≡ false)
      (j : ℕ) (j_is : j ≡ p) (marker : MarkerView)
      (floor : marker.floor ≡ (marker_at markers p).floor) where
    pub IsRecording-begun : marker.rounds
        ≡ with_round (marker_at markers p).rounds (marker_at markers p).n r
        → IsRecording (with_event history p (Check state (Some r))) (record
        { number = turned.number; checks = turned.checks; markers = set markers j marker })
    IsRecording-begun rounds =
        set_event (Check state (Some r)) turned number follows j j_is marker
        (IsMarkerOf-begun (length history) p r (tape_at history p)
        (marker_at markers p) before state marker none floor
        (rounds ∙ ap (λ (n : ℕ). with_round (marker_at markers p).rounds n r) same_n))

    -- for the marker from another process, which has come with it
    pub IsRecording-forced : (from : ℕ) → from < length history → from ≢ p → marker.rounds
        ≡ with_marker (with_round (marker_at markers p).rounds (marker_at markers p).n r) from r
        → IsRecording (with_event (with_event history p (Check state (Some r))) p (Mark from r))
        (record {
          number = turned.number;
          checks = turned.checks;
          markers = set markers j
              marker;
        })
    IsRecording-forced from from_within apart rounds =
        let e : Event = Check state (Some r) in
        let f : Event = Mark from r in
        let tape : List Event = tape_at history p in
        let old : MarkerView = marker_at markers p in
        let n : ℕ = length history in
        let mid : MarkerView = record old { rounds = with_round old.rounds n r } in
        let one : List Process = with_event history p e in
        let new : List Process = with_event one p f in
        let size : length one ≡ n = length-with_event history p e in
        let here : tape_at new p ≡ (tape ++ e ∷ []) ++ f ∷ [] = tape_same one p f p (omega
        (arith, within, size)) refl ∙ ap (λ (t : List Event). t ++ f ∷ []) (one_event e) in
        let mid_is : IsMarkerOf n p r (tape ++ e ∷ []) mid = IsMarkerOf-begun n p r tape old before
        state mid none refl refl in
        set_marker new (length-with_event one p f ∙ size)
        (λ q other. tape_other one p f q other ∙ tape_other history p e q other) turned number
        (IsTurning-kept one p f turned (omega (arith, within, size)) refl follows) j j_is marker
        (subst (λ (t : List Event). IsMarkerOf n p r t marker) (sym here)
        (IsMarkerOf-marked n p r (tape ++ e ∷ []) mid mid_is
        (is_checked_now r tape e (eq-eqb r r refl)) from from_within apart marker floor
        (rounds ∙ ap (λ (v : ℕ). with_marker (with_round old.rounds v r) from r) same_n)))

  -- what is kept of the checks goes on by any other event
  set_other : (e : Event) → is_check_of r e ≡ false → (j : ℕ) → j ≡ p → (marker : MarkerView)
      → IsMarkerOf (length history) p r (tape_at history p ++ e ∷ []) marker
      → IsRecording (with_event history p e)
      (record { number = r; checks = turning.checks; markers = set markers j marker })
  set_other e other j j_is marker = set_event e turning refl
      (IsTurning-kept history p e turning within other is.turning) j j_is marker

  -- the marker from another process has come after the check
  module _ (from : ℕ) (from_within : from < length history) (apart : from ≢ p) (begun : has_check_of
      r (tape_at history p) ≡ true) (j : ℕ) (marker : MarkerView) (j_is : j ≡ p)
      (floor : marker.floor ≡ (marker_at markers p).floor) where
    pub IsRecording-heard : marker.rounds ≡ with_marker (marker_at markers p).rounds from r
        → IsRecording (with_event history p (Mark from r))
        (record { number = r; checks = turning.checks; markers = set markers j marker })
    IsRecording-heard rounds = set_other (Mark from r) refl j j_is marker
        (IsMarkerOf-marked (length history) p r (tape_at history p)
        (marker_at markers p) before begun from from_within apart marker floor rounds)

    -- and where it has come before
    pub IsRecording-repeated : marker.rounds ≡ (marker_at markers p).rounds
        → IsRepeated (marker_at markers p).rounds from r
        → IsRecording (with_event history p (Mark from r))
        (record { number = r; checks = turning.checks; markers = set markers j marker })
    IsRecording-repeated rounds repeated =
        set_other (Mark from r) refl j j_is marker
        (IsMarkerOf-repeated (length history) p r (tape_at history p)
        (marker_at markers p) before begun from from_within apart marker floor rounds repeated)

  -- a message has come
  pub IsRecording-noted : (message : MsgName) (j : ℕ) (marker : MarkerView) → message.from < length
      history → message.from ≢ p → j ≡ p → marker.floor ≡ (marker_at markers p).floor
      → marker.rounds ≡ rounds_with_message (marker_at markers p).rounds message
      → IsRecording (with_event history p (Recv message))
      (record { number = r; checks = turning.checks; markers = set markers j marker })
  IsRecording-noted message j marker from_within apart j_is floor rounds =
      set_other (Recv message) refl j j_is marker (IsMarkerOf-noted (length history) p r (tape_at
      history p) (marker_at markers p) before message from_within apart marker floor rounds)

  -- or none, for want of memory
  pub IsRecording-same : (j : ℕ) (marker : MarkerView) → j ≡ p
      → marker.floor ≡ (marker_at markers p).floor → marker.rounds ≡ (marker_at markers p).rounds
      → IsRecording history
      (record { number = r; checks = turning.checks; markers = set markers j marker })
  IsRecording-same j marker j_is floor rounds =
      set_marker history refl (λ q other. refl) turning refl is.turning j j_is marker (record {
        floor_is = omega (arith, floor, before.floor_is);
        recorded = subst (λ (rs : List RecordedRound). IsRoundOrNone (length history) p r (tape_at
            history p) (has_check_of r (tape_at history p)) rs) (sym rounds) before.recorded;
      })

-- the markers of the first k of n processes, with nothing recorded
pub record AreFresh (n floor k : ℕ) (markers : List MarkerView) : Type 0 where
  pub count : length markers ≡ k
  pub n_is : (q : ℕ) → q < k → (marker_at markers q).n ≡ n
  pub me_is : (q : ℕ) → q < k → (marker_at markers q).me ≡ q
  pub fresh : (q : ℕ) → q < k → IsFresh floor (marker_at markers q)

pub AreFresh-more : (n floor k : ℕ) (markers : List MarkerView) (marker : MarkerView) → AreFresh n
    floor k markers → marker.n ≡ n → marker.me ≡ k → marker.floor ≡ floor → marker.rounds ≡ []
    → AreFresh n floor (k + 1) (markers ++ marker ∷ [])
AreFresh-more n floor k markers marker are n_is me_is floor_is rounds = record {
  count = length_push markers marker ∙ ap (λ (v : ℕ). v + 1) are.count;
  n_is = λ q within. elim (cases_lt q k) [
    | inl below ↦ ap (λ (m : MarkerView). m.n) (earlier q below) ∙ are.n_is q below
    | inr past ↦ ap (λ (m : MarkerView). m.n) (last q (omega (arith, within, past))) ∙ n_is
  ];
  me_is = λ q within. elim (cases_lt q k) [
    | inl below ↦ ap (λ (m : MarkerView). m.me) (earlier q below) ∙ are.me_is q below
    | inr past ↦ ap (λ (m : MarkerView). m.me)
        (last q (omega (arith, within, past))) ∙ me_is ∙ omega (arith, within, past)
  ];
  fresh = λ q within. elim (cases_lt q k) [
    | inl below ↦ subst (IsFresh floor) (sym (earlier q below)) (are.fresh q below)
    | inr past ↦ subst (IsFresh floor) (sym (last q (omega (arith, within, past))))
        (record { rounds = rounds; floor_is = floor_is })
  ];
}
  where
    earlier : (q : ℕ) → q < k → marker_at (markers ++ marker ∷ []) q ≡ marker_at markers q
    earlier q below =
        get_or_append_left markers (marker ∷ []) no_marker q (omega (arith, below, are.count))

    last : (q : ℕ) → q ≡ k → marker_at (markers ++ marker ∷ []) q ≡ marker
    last q same = ap (marker_at (markers ++ marker ∷ []))
        (same ∙ sym are.count) ∙ get_or-append_seam markers marker [] no_marker

-- the same cells give the same table
pub map_cells : {X : Type 0} (f g : ℕ → X) (a n : ℕ) → ((k : ℕ) → a ≤ k → k < a + n → f k ≡ g k)
    → map f (range_with_len a n) ≡ map g (range_with_len a n)
map_cells f g a zero same = refl
map_cells {X} f g a (suc n) same = ap (λ (x : X). x ∷ map f (range_with_len (a + 1) n))
    (same a (omega arith) (omega arith))
    ∙ ap (λ (xs : List X). g a ∷ xs)
    (map_cells f g (a + 1) n (λ k low high. same k (omega (arith, low)) (omega (arith, high))))

-- what the markers recorded of a channel is what the tape of its receiver has
pub recorded_is : (history : List Process) (round : OpenView) → IsRecording history round
    → (p q : ℕ) → p < length history → q < length history → p ≢ q
    → has_check_of round.number (tape_at history q) ≡ true
    → recorded_channel round.markers round.number p q ≡ channel_fifo history round.number p q
recorded_is history round is p q p_within q_within apart begun =
    let n : ℕ = length history in
    let r : ℕ = round.number in
    let one = recorded_round n q r (tape_at history q) (marker_at round.markers q)
    (is.markers q q_within) begun in
    ap (λ (o : Option RecordedRound). unwrap_or (messages_by o p) [])
    (recorded_there n q r (tape_at history q) (marker_at round.markers q).rounds one)
    ∙ ap (λ (c : Channel). c.messages) (one.channels p p_within apart)

-- the round that is completed, as it is listed: with what was recorded, or with as much as has the
-- same channels
pub completed_is : (history : List Process) (turning : TurningView) (markers kept : List MarkerView)
    → AreMarkers (length turning.checks) markers
    → IsRecording history (record {
      number = turning.number;
      checks = turning.checks;
      markers =
          markers;
    }) → is_completed_fifo history turning.number ≡ true
    → ((p q : ℕ) → p < length history → q < length history
    → kept_channel kept turning.number p q ≡ recorded_channel markers turning.number p q)
    → (let round : ListedRound = record {
      number = turning.number;
      checks = turning.checks;
      channels = recorded_table (length
          turning.checks) kept turning.number;
    } in round) ≡ listed_round Fifo history turning.number
completed_is history turning markers kept are is completed same_channels =
    let n : ℕ = length history in
    let r : ℕ = turning.number in
    let round : OpenView = record { number = r; checks = turning.checks; markers = markers } in
    let has : (q : ℕ) → q < n → has_check_of r (tape_at history q)
    ≡ true = λ q within. closed_has_check history r q completed within in
    let indices_are : turning.checks ≡ checks_of history r = IsTurning-checked history turning
    is.turning (completed_checked history r completed) in
    let channels_are : recorded_table (length turning.checks) kept r
    ≡ channel_table n (channel Fifo history r) =
    ap (λ (v : ℕ). channel_table v (kept_channel kept r)) is.turning.count
    ∙ map_cells (λ p. map (λ q. cond (p == q) [] (kept_channel kept r p q)) (range_with_len 0 n))
    (λ p. map (λ q. cond (p == q) [] (channel_fifo history r p q)) (range_with_len 0 n)) 0 n
    (λ p p_low p_high.
    map_cells (λ q. cond (p == q) [] (kept_channel kept r p q)) (λ q. cond (p == q) []
    (channel_fifo history r p q)) 0 n (λ q q_low q_high. elim (cases_eq p q) [
      | inl same ↦ ap (λ b. cond b [] (kept_channel kept r p q)) (eq-eqb p q same) ∙ sym
          (ap (λ b. cond b [] (channel_fifo history r p q)) (eq-eqb p q same))
      | inr apart ↦ ap (λ (ms : List MsgName). cond (p == q) [] ms)
          (same_channels p q (omega (arith, p_high))
          (omega (arith, q_high)) ∙ recorded_is history round is p q (omega (arith, p_high))
          (omega (arith, q_high)) apart (has q (omega (arith, q_high))))
    ])) in
    ap (λ (v : List (List (List MsgName))). let l : ListedRound = record
    { number = r; checks = turning.checks; channels = v } in l) channels_are
    ∙ ap (λ (v : List ℕ). let l : ListedRound = record {
      number = r;
      checks = v;
      channels =
          channel_table n (channel Fifo history r);
    } in l) indices_are

-- the channels of a process are closed just where its tape is
pub closed_is : (history : List Process) (turning : TurningView) (markers : List MarkerView)
    → AreMarkers (length turning.checks) markers
    → IsRecording history
    (record { number = turning.number; checks = turning.checks; markers = markers })
    → (q : ℕ) (marker : MarkerView) (b : Bool) → q < length history → marker ≡ get_or markers q
    marker → IsTrue b ↔ IsOver marker turning.number → b ≡ is_closed_at history turning.number q
closed_is history turning markers are is q marker b within at over =
    let r : ℕ = turning.number in
    let n : ℕ = length history in
    let tape : List Event = tape_at history q in
    let own : marker ≡ marker_at markers q = at ∙ get_or_default markers q marker no_marker
    (omega (arith, within, is.turning.count, are.count)) in
    let n_is : marker.n ≡ n = ap (λ (m : MarkerView). m.n) own ∙ are.n_is q
    (omega (arith, within, is.turning.count)) ∙ is.turning.count in
    let me_is : marker.me ≡ q = ap (λ (m : MarkerView). m.me) own ∙ are.me_is q
    (omega (arith, within, is.turning.count)) in
    let follows : IsMarkerOf n q r tape marker = subst (IsMarkerOf n q r tape) (sym own)
    (is.markers q within) in
    same_test b (is_closed_at history r q)
    (λ t. let x = over_closed n q r tape marker n_is me_is follows
    (over.0 t) in closed_from history r q x.0 x.1)
    (λ t. let x = closed_parts history r q t in over.1
    (closed_over n q r tape marker n_is me_is follows x.0 x.1))

-- what both outcomes lead to
pub either_way : {A E P Q R : Type 0} (r : Result A E) → (P → R) → (Q → R) → OnOk r P → OnErr r Q
    → R
either_way (Ok x) f g p q = f p
either_way (Err e) f g p q = g q
