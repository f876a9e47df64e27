-- What a process has recorded of a round follows its tape, event by event.
use Rattle.std.proofs.Common.{◌≡◌, ◌≢◌, ℕ, ◌<◌, Bool, true, false, cond, List, [], ◌∷◌, ◌++◌}
use Rattle.std.proofs.Common.{replicate, Option, Some, None, refl, sym, ap, ◌∙◌, subst, arith, inl}
use Rattle.std.proofs.Common.{inr}
use Rattle.std.specs.Prelude.{◌==◌, ◌||◌, IsTrue, MatchOption}
use Rattle.std.specs.Cmp.Derive.{both_true}
use Rattle.std.proofs.lemmas.Bool.{cases_eq, eq-eqb, ne_eqb, and_left}
use Rattle.std.proofs.lemmas.List.{append-nil, length-set, length-replicate, get_or-set_same}
use Rattle.std.proofs.lemmas.List.{get_or-set_other, get_or-replicate}
use Rattle.line_names.specs.declared.messages.MsgName.{MsgName}
use Rattle.line_rounds.specs.Recording.{Channel, MarkerView, RecordedRound, open_channel}
use Rattle.line_rounds.specs.Recording.{channel_at, with_channel, with_marker, with_round}
use Rattle.line_rounds.specs.Recording.{with_message, rounds_with_message, round_of, IsOver}
use Rattle.line_rounds.specs.Recording.{IsRepeated}
use Rattle.line_tape.specs.declared.events.Event.{Event}
use Rattle.line_tape.specs.declared.events.Event.TheVariants.{Recv, Check, Mark}
use Rattle.line_tape.specs.Rounds.{has_check_of, has_mark_of, channel_on, is_check_of, is_mark_of}
use Rattle.line_tape.specs.Rounds.{names_from}
use Rattle.line_tape.specs.Transit.{names_received}
use Rattle.line_laws.proofs.GrowthLemmas.{channel_opened, channel_push, has_check_push}
use Rattle.line_laws.proofs.GrowthLemmas.{has_mark_push}
use Rattle.line_moves.specs.Openings.{channel_on_tape, IsRecordedRound, IsRoundOrNone, IsMarkerOf}

pub or-false : (b : Bool) → (b || false) ≡ b
or-false true = refl
or-false false = refl

pub or-true : (b : Bool) → (b || true) ≡ true
or-true true = refl
or-true false = refl

-- nothing either way
nothing : (b : Bool) → cond b [] [] ≡ (let none : List MsgName = [] in none)
nothing true = refl
nothing false = refl

channel_is : (a b : List MsgName) (c d : Bool) → a ≡ b → c ≡ d → (let x : Channel = record
    { messages = a; is_closed = c } in x) ≡ record { messages = b; is_closed = d }
channel_is a b c d e f = ap
    (λ (v : List MsgName). let x : Channel = record { messages = v; is_closed = c } in x) e ∙ ap
    (λ (v : Bool). let x : Channel = record { messages = b; is_closed = v } in x) f

module _ (n q r : ℕ) (tape : List Event) (marker : MarkerView) where
  -- what is recorded once the tape has its check of the round, and before
  pub recorded_round : IsMarkerOf n q r tape marker → has_check_of r tape ≡ true
      → IsRecordedRound n q r tape marker.rounds
  recorded_round is begun = subst (λ b. IsRoundOrNone n q r tape b marker.rounds) begun is.recorded

  pub recorded_none : IsMarkerOf n q r tape marker → has_check_of r tape ≡ false
      → marker.rounds ≡ []
  recorded_none is none = subst (λ b. IsRoundOrNone n q r tape b marker.rounds) none is.recorded

  pub marker_round : marker.floor < r → has_check_of r tape ≡ true
      → IsRecordedRound n q r tape marker.rounds → IsMarkerOf n q r tape marker
  marker_round floor begun is = record {
    floor_is = floor;
    recorded = subst
        (λ b. IsRoundOrNone n q r tape b marker.rounds) (sym begun) is;
  }

  pub marker_none : marker.floor < r → has_check_of r tape ≡ false → marker.rounds ≡ []
      → IsMarkerOf n q r tape marker
  marker_none floor none is = record {
    floor_is = floor;
    recorded = subst
        (λ b. IsRoundOrNone n q r tape b marker.rounds) (sym none) is;
  }

-- a channel to which an event adds nothing
channel-kept : (p r : ℕ) (tape : List Event) (e : Event) → has_check_of r tape ≡ true
    → is_mark_of p r e ≡ false → names_from p (names_received (e ∷ [])) ≡ []
    → channel_on_tape p r (tape ++ e ∷ []) ≡ channel_on_tape p r tape
channel-kept p r tape e begun no_mark none =
    channel_is (channel_on p r (tape ++ e ∷ [])) (channel_on p r tape)
    (has_mark_of p r (tape ++ e ∷ [])) (has_mark_of p r tape)
    (channel_push tape e p r begun
    ∙ ap (λ (ms : List MsgName). channel_on p r tape ++ cond (has_mark_of p r tape) [] ms) none
    ∙ ap (λ (ms : List MsgName). channel_on p r tape ++ ms) (nothing (has_mark_of p r tape))
    ∙ append-nil (channel_on p r tape))
    (has_mark_push tape e p r begun ∙ ap (λ b. has_mark_of p r tape || b) no_mark ∙ or-false
    (has_mark_of p r tape))

still_checked : (r : ℕ) (tape : List Event) (e : Event) → has_check_of r tape ≡ true
    → has_check_of r (tape ++ e ∷ []) ≡ true
still_checked r tape e begun = has_check_push tape e r ∙ ap (λ b. b || is_check_of r e) begun

same_checked : (r : ℕ) (tape : List Event) (e : Event) → is_check_of r e ≡ false
    → has_check_of r (tape ++ e ∷ []) ≡ has_check_of r tape
same_checked r tape e other = has_check_push tape e r ∙ ap
    (λ b. has_check_of r tape || b) other ∙ or-false (has_check_of r tape)

module _ (n q r : ℕ) (tape : List Event) (marker : MarkerView)
    (is : IsMarkerOf n q r tape marker) where
  -- an event that neither is a check of the round nor adds to a channel
  pub IsMarkerOf-kept : (e : Event) → is_check_of r e ≡ false → ((p : ℕ) → p < n → p ≢ q
      → (is_mark_of p r e ≡ false) × (names_from p (names_received (e ∷ [])) ≡ []))
      → IsMarkerOf n q r (tape ++ e ∷ []) marker
  IsMarkerOf-kept e other adds = elim (has_check_of r tape) as
      (λ b. has_check_of r tape ≡ b → IsMarkerOf n q r (tape ++ e ∷ []) marker) [
        | true ↦ λ begun.
            let round = recorded_round n q r tape marker is begun in
            marker_round n q r (tape ++ e ∷ []) marker is.floor_is (still_checked r tape e begun)
            (record {
              round = round.round;
              alone = round.alone;
              number_is = round.number_is;
              count = round.count;
              channels = λ p within apart. round.channels p within apart ∙ sym
                  (channel-kept p r tape e begun (adds p within apart).0 (adds p within apart).1);
            })
        | false ↦ λ none. marker_none n q r (tape ++ e ∷ []) marker is.floor_is
            (same_checked r tape e other ∙ none) (recorded_none n q r tape marker is none)
      ] refl

  -- the check of the round
  pub IsMarkerOf-begun : (state : List ℕ) (new : MarkerView) → has_check_of r tape ≡ false
      → new.floor ≡ marker.floor → new.rounds ≡ with_round marker.rounds n r
      → IsMarkerOf n q r (tape ++ Check state (Some r) ∷ []) new
  IsMarkerOf-begun state new none floor rounds =
      let e : Event = Check state (Some r) in
      let this : is_check_of r e ≡ true = eq-eqb r r refl in
      let one : RecordedRound = record { number = r; channels = replicate n open_channel } in
      marker_round n q r (tape ++ e ∷ []) new (omega (arith, floor, is.floor_is))
      (has_check_push tape e r ∙ ap (λ b. has_check_of r tape || b) this ∙ or-true
      (has_check_of r tape)) (record {
        round = one;
        alone = rounds ∙ ap (λ (rs : List RecordedRound). with_round rs n r)
            (recorded_none n q r tape marker is none);
        number_is = refl;
        count = length-replicate n open_channel;
        channels = λ p within apart.
            let opened = channel_opened tape e p r none this in
            get_or-replicate n p open_channel open_channel within ∙ channel_is []
            (channel_on p r (tape ++ e ∷ [])) false (has_mark_of p r (tape ++ e ∷ []))
            (sym opened.0) (sym opened.1);
      })

  module _ (begun : has_check_of r tape ≡ true) where
    one_round : IsRecordedRound n q r tape marker.rounds
    one_round = recorded_round n q r tape marker is begun

    -- another channel from one process
    IsRound-written : (from : ℕ) (e : Event) (new : Channel) → from < n → from ≢ q
        → is_check_of r e ≡ false → new ≡ channel_on_tape from r (tape ++ e ∷ [])
        → ((p : ℕ) → p ≢ from → channel_on_tape p r (tape ++ e ∷ []) ≡ channel_on_tape p r tape)
        → IsRecordedRound n q r (tape ++ e ∷ []) (with_channel one_round.round from new ∷ [])
    IsRound-written from e new within apart other here there = record {
      round = with_channel one_round.round from new;
      alone = refl;
      number_is = one_round.number_is;
      count = length-set one_round.round.channels from new ∙ one_round.count;
      channels = λ p p_within p_apart. elim (cases_eq p from) [
        | inl same ↦ subst (λ (v : ℕ). channel_at (with_channel one_round.round from new) v
            ≡ channel_on_tape v r (tape ++ e ∷ [])) (sym same)
            (get_or-set_same one_round.round.channels from new open_channel
            (omega (arith, within, one_round.count)) ∙ here)
        | inr different ↦ get_or-set_other one_round.round.channels from p new open_channel
            different ∙ one_round.channels p p_within p_apart ∙ sym (there p different)
      ];
    }

    module _ (from : ℕ) (within : from < n) (apart : from ≢ q) where
      mark_elsewhere : (p : ℕ) → p ≢ from
          → channel_on_tape p r (tape ++ Mark from r ∷ []) ≡ channel_on_tape p r tape
      mark_elsewhere p other = channel-kept p r tape (Mark from r) begun
          (and_left (from == p) (r == r) (ne_eqb from p (λ e. other (sym e)))) refl

      mark_here : channel_on_tape from r (tape ++ Mark from r ∷ [])
          ≡ record (channel_on_tape from r tape) { is_closed = true }
      mark_here =
          let e : Event = Mark from r in
          channel_is (channel_on from r (tape ++ e ∷ [])) (channel_on from r tape)
          (has_mark_of from r (tape ++ e ∷ [])) true
          (channel_push tape e from r begun
          ∙ ap (λ (ms : List MsgName). channel_on from r tape ++ ms)
          (nothing (has_mark_of from r tape))
          ∙ append-nil (channel_on from r tape))
          (has_mark_push tape e from r begun ∙ ap (λ b. has_mark_of from r tape || b) (both_true
          (eq-eqb from from refl) (eq-eqb r r refl)) ∙ or-true (has_mark_of from r tape))

      -- the marker from a process
      pub IsMarkerOf-marked : (new : MarkerView) → new.floor ≡ marker.floor → new.rounds
          ≡ with_marker marker.rounds from r → IsMarkerOf n q r (tape ++ Mark from r ∷ []) new
      IsMarkerOf-marked new floor rounds =
          let round : RecordedRound = one_round.round in
          let closed : Channel = record (channel_at round from) { is_closed = true } in
          let written : with_marker marker.rounds from r ≡ with_channel round from closed ∷ [] =
          ap (λ (rs : List RecordedRound). with_marker rs from r) one_round.alone
          ∙ ap (λ b. cond b (with_channel round from closed) round ∷ [])
          (eq-eqb round.number r one_round.number_is) in
          marker_round n q r (tape ++ Mark from r ∷ []) new (omega (arith, floor, is.floor_is))
          (still_checked r tape (Mark from r) begun)
          (subst (IsRecordedRound n q r (tape ++ Mark from r ∷ [])) (sym (rounds ∙ written))
          (IsRound-written from (Mark from r) closed within apart refl
          (ap (λ (c : Channel). let x : Channel = record c { is_closed = true } in x)
          (one_round.channels from within apart) ∙ sym mark_here) mark_elsewhere))

      -- a marker that has come before
      pub IsMarkerOf-repeated : (new : MarkerView) → new.floor ≡ marker.floor
          → new.rounds ≡ marker.rounds → IsRepeated marker.rounds from r
          → IsMarkerOf n q r (tape ++ Mark from r ∷ []) new
      IsMarkerOf-repeated new floor rounds repeated =
          let round : RecordedRound = one_round.round in
          let none : Option RecordedRound = None in
          let found : round_of marker.rounds r
          ≡ Some round = ap (λ (rs : List RecordedRound). round_of rs r) one_round.alone ∙ ap
          (λ b. cond b (Some round) none) (eq-eqb round.number r one_round.number_is) in
          let closed : (channel_at round from).is_closed
          ≡ true = subst (λ (o : Option RecordedRound). MatchOption o ⊥
          (λ v. IsTrue (channel_at v from).is_closed)) found repeated in
          let here : channel_at round from ≡ channel_on_tape from r (tape ++ Mark from r ∷ []) =
          channel_is (channel_at round from).messages (channel_at round from).messages
          (channel_at round from).is_closed true refl closed
          ∙ ap (λ (c : Channel). let x : Channel = record c { is_closed = true } in x)
          (one_round.channels from within apart) ∙ sym mark_here in
          marker_round n q r (tape ++ Mark from r ∷ []) new (omega (arith, floor, is.floor_is))
          (still_checked r tape (Mark from r) begun) (record {
            round = round;
            alone = rounds ∙ one_round.alone;
            number_is = one_round.number_is;
            count = one_round.count;
            channels = λ p p_within p_apart. elim (cases_eq p from) [
              | inl same ↦ subst (λ (v : ℕ). channel_at round v
                  ≡ channel_on_tape v r (tape ++ Mark from r ∷ [])) (sym same) here
              | inr different ↦ one_round.channels p p_within p_apart ∙ sym
                  (mark_elsewhere p different)
            ];
          })

  -- a message
  module _ (message : MsgName) (within : message.from < n) (apart : message.from ≢ q) where
    pub IsMarkerOf-noted : (new : MarkerView) → new.floor ≡ marker.floor → new.rounds ≡
        rounds_with_message marker.rounds message → IsMarkerOf n q r (tape ++ Recv message ∷ []) new
    IsMarkerOf-noted new floor rounds = elim (has_check_of r tape) as
        (λ b. has_check_of r tape ≡ b → IsMarkerOf n q r (tape ++ Recv message ∷ []) new) [
          | true ↦ λ begun.
              let e : Event = Recv message in
              let from : ℕ = message.from in
              let round = one_round begun in
              let one : RecordedRound = round.round in
              let written : rounds_with_message marker.rounds message
              ≡ with_channel one from (with_message (channel_at one from) message) ∷ [] =
              ap (λ (rs : List RecordedRound). rounds_with_message rs message) round.alone in
              marker_round n q r (tape ++ e ∷ []) new (omega (arith, floor, is.floor_is))
              (still_checked r tape e begun)
              (subst (IsRecordedRound n q r (tape ++ e ∷ [])) (sym (rounds ∙ written))
              (IsRound-written begun from e
              (with_message (channel_at one from) message) within apart refl
              (ap (λ (c : Channel). with_message c message) (round.channels from within apart) ∙ sym
              (heard_here begun))
              (λ p other. channel-kept p r tape e begun refl
              (ap (λ b. cond b (message ∷ []) []) (ne_eqb from p (λ s. other (sym s)))))))
          | false ↦ λ none. marker_none n q r (tape ++ Recv message ∷ []) new
              (omega (arith, floor, is.floor_is)) (same_checked r tape (Recv message) refl ∙ none)
              (rounds ∙ ap (λ (rs : List RecordedRound). rounds_with_message rs message)
              (recorded_none n q r tape marker is none))
        ] refl
      where
        heard_by : (names : List MsgName) (b : Bool)
            → (let x : Channel = record {
              messages = names ++ cond b [] (message ∷ []);
              is_closed =
                  b;
            } in x) ≡ with_message (record { messages = names; is_closed = b }) message
        heard_by names true = channel_is (names ++ []) names true true (append-nil names) refl
        heard_by names false = refl

        heard_here : has_check_of r tape ≡ true → channel_on_tape message.from r
            (tape ++ Recv message ∷ []) ≡ with_message (channel_on_tape message.from r tape) message
        heard_here begun =
            let e : Event = Recv message in
            let from : ℕ = message.from in
            let one : names_from from (names_received (e ∷ [])) ≡ message ∷ [] = ap (λ b. cond b
            (message ∷ []) (let none : List MsgName = [] in none)) (eq-eqb from from refl) in
            channel_is (channel_on from r (tape ++ e ∷ []))
            (channel_on from r tape ++ cond (has_mark_of from r tape) [] (message ∷ []))
            (has_mark_of from r (tape ++ e ∷ [])) (has_mark_of from r tape)
            (channel_push tape e from r begun ∙ ap (λ (ms : List MsgName). channel_on from r tape
            ++ cond (has_mark_of from r tape) [] ms) one)
            (has_mark_push tape e from r begun ∙ or-false (has_mark_of from r tape))
            ∙ heard_by (channel_on from r tape) (has_mark_of from r tape)

-- the round that is recorded
pub recorded_there : (n q r : ℕ) (tape : List Event) (rounds : List RecordedRound)
    (is : IsRecordedRound n q r tape rounds) → round_of rounds r ≡ Some is.round
recorded_there n q r tape rounds is =
    let none : Option RecordedRound = None in
    ap (λ (rs : List RecordedRound). round_of rs r) is.alone ∙ ap (λ b. cond b (Some is.round) none)
    (eq-eqb is.round.number r is.number_is)

-- the channels of a process are closed just where its tape has the markers
pub over_closed : (n q r : ℕ) (tape : List Event) (marker : MarkerView) → marker.n ≡ n
    → marker.me ≡ q → IsMarkerOf n q r tape marker → IsOver marker r
    → (has_check_of r tape ≡ true) × ((p : ℕ) → p < n → p ≢ q → has_mark_of p r tape ≡ true)
over_closed n q r tape marker n_is me_is is over = elim (has_check_of r tape) as (λ b. has_check_of
    r tape ≡ b → (b ≡ true) × ((p : ℕ) → p < n → p ≢ q → has_mark_of p r tape ≡ true)) [
      | true ↦ λ begun.
          let round = recorded_round n q r tape marker is begun in
          let found = recorded_there n q r tape marker.rounds round in
          let closed = subst
          (λ (o : Option RecordedRound). MatchOption o ⊥ (λ v. (p : ℕ) → p < marker.n
          → p ≢ marker.me → IsTrue (channel_at v p).is_closed)) found over in (
            refl,
            λ p within apart. sym (ap (λ (c : Channel). c.is_closed) (round.channels p within
                apart)) ∙ closed p (omega (arith, within, n_is)) (λ same. apart (same ∙ me_is)),
          )
      | false ↦ λ none. absurd
          (subst (λ (rs : List RecordedRound). MatchOption (round_of rs r) ⊥
          (λ v. (p : ℕ) → p < marker.n → p ≢ marker.me → IsTrue (channel_at v p).is_closed))
          (recorded_none n q r tape marker is none) over)
    ] refl

pub closed_over : (n q r : ℕ) (tape : List Event) (marker : MarkerView) → marker.n ≡ n
    → marker.me ≡ q → IsMarkerOf n q r tape marker → has_check_of r tape ≡ true
    → ((p : ℕ) → p < n → p ≢ q → has_mark_of p r tape ≡ true) → IsOver marker r
closed_over n q r tape marker n_is me_is is begun marks =
    let round = recorded_round n q r tape marker is begun in
    let found = recorded_there n q r tape marker.rounds round in
    subst (λ (o : Option RecordedRound). MatchOption o ⊥ (λ v. (p : ℕ) → p < marker.n
    → p ≢ marker.me → IsTrue (channel_at v p).is_closed)) (sym found)
    (λ p within apart. let here : p < n = omega
    (arith, within, n_is) in let other : p ≢ q = λ same. apart (same ∙ sym me_is) in
    ap (λ (c : Channel). c.is_closed) (round.channels p here other) ∙ marks p here other)
