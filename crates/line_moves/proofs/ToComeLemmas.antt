-- How many markers of a round have come, and how many are still to come.
use Rattle.std.proofs.Common.{◌≡◌, ◌≢◌, ℕ, zero, suc, ◌+◌, ◌-◌, ◌*◌, ◌<◌, ◌≤◌, Bool, true, false}
use Rattle.std.proofs.Common.{cond, List, [], ◌∷◌, ◌++◌, length, get_or, set, replicate, Option}
use Rattle.std.proofs.Common.{Some, None, refl, sym, ap, ◌∙◌, subst, arith, inl, inr}
use Rattle.std.specs.Prelude.{◌==◌}
use Rattle.std.specs.List.{count_by, sum_by}
use Rattle.std.proofs.lemmas.Bool.{cases_eq}
use Rattle.std.proofs.lemmas.List.{length-set, get_or_default, get_or-set_same, get_or-set_other}
use Rattle.std.proofs.lemmas.List.Sums.{sum_by-cons, sum_by-set}
use Rattle.line_names.specs.declared.messages.MsgName.{MsgName}
use Rattle.line_rounds.specs.Recording.{Channel, MarkerView, RecordedRound, open_channel}
use Rattle.line_rounds.specs.Recording.{channel_at, with_channel, with_marker, with_message}
use Rattle.line_rounds.specs.Recording.{with_round, rounds_with_message, round_of, IsSameProcess}
use Rattle.line_tape.specs.declared.events.Event.{Event}
use Rattle.line_tape.specs.History.{Process, tape_at}
use Rattle.line_tape.specs.Rounds.{is_completed_fifo}
use Rattle.line_laws.proofs.CompletionLemmas.{closed_parts, completed_closed}
use Rattle.line_rounds.specs.Turning.{TurningView}
use Rattle.line_moves.specs.Openings.{channels_in, marker_at, markers_heard, no_marker, AreMarkers}
use Rattle.line_moves.specs.Openings.{AreToCome, IsFresh, IsRecording}
use Rattle.line_moves.proofs.RecordingLemmas.{recorded_round, recorded_there}

-- 1 for a closed channel
abbrev unit : Bool → ℕ
unit b = cond b 1 0

abbrev weight : Channel → ℕ
weight channel = unit channel.is_closed

abbrev closed_count : List Channel → ℕ
closed_count channels = count_by (λ (channel : Channel). channel.is_closed) channels

abbrev count_in : ℕ → List RecordedRound → ℕ
count_in r rounds = closed_count (channels_in (round_of rounds r))

-- another channel from one process
count_set : (channels : List Channel) (p : ℕ) (channel : Channel) → weight channel ≤ weight
    (get_or channels p open_channel) → closed_count (set channels p channel) ≤ closed_count channels
count_set [] p channel most = omega arith
count_set (first ∷ rest) zero channel most =
    omega (arith, most, sum_by-cons weight channel rest, sum_by-cons weight first rest)
count_set (first ∷ rest) (suc p) channel most = omega (
  arith,
  count_set rest p channel most,
  sum_by-cons weight first (set rest p channel),
  sum_by-cons weight first rest,
)

-- a message closes none
weight_heard : (channel : Channel) (message : MsgName)
    → weight (with_message channel message) ≤ weight channel
weight_heard channel message = elim channel.is_closed as (λ b. weight (cond b channel
    (record channel { messages = channel.messages ++ message ∷ [] })) ≤ weight channel) [
      | true ↦ omega arith
      | false ↦ omega arith
    ]

count_noted : (r : ℕ) (message : MsgName) (rounds : List RecordedRound)
    → count_in r (rounds_with_message rounds message) ≤ count_in r rounds
count_noted r message [] = omega arith
count_noted r message (round ∷ rounds) =
    let new : RecordedRound = with_channel round message.from
    (with_message (channel_at round message.from) message) in
    elim (round.number == r) as
    (λ b. closed_count (channels_in (cond b (Some new) (round_of (rounds_with_message rounds
    message) r))) ≤ closed_count (channels_in (cond b (Some round) (round_of rounds r)))) [
      | true ↦ count_set round.channels message.from (with_message (channel_at round message.from)
          message) (weight_heard (channel_at round message.from) message)
      | false ↦ count_noted r message rounds
    ]

-- a marker closes one at most
unit_le : (b : Bool) → unit b ≤ 1
unit_le true = omega arith
unit_le false = omega arith

count_one_more : (channels : List Channel) (p : ℕ) (channel : Channel)
    → closed_count (set channels p channel) ≤ closed_count channels + 1
count_one_more [] p channel = omega arith
count_one_more (first ∷ rest) zero channel = omega (
  arith,
  unit_le channel.is_closed,
  sum_by-cons
      weight channel rest,
  sum_by-cons weight first rest,
)
count_one_more (first ∷ rest) (suc p) channel = omega (
  arith,
  count_one_more rest p channel,
  sum_by-cons weight first (set rest p channel),
  sum_by-cons weight first rest,
)

count_marked : (r from number : ℕ) (rounds : List RecordedRound)
    → count_in r (with_marker rounds from number) ≤ count_in r rounds + 1
count_marked r from number [] = omega arith
count_marked r from number (round ∷ rounds) =
    let new : RecordedRound = with_channel round from
    (record (channel_at round from) { is_closed = true }) in
    let marked : List RecordedRound = with_marker rounds from number in
    elim (round.number == number) as (λ a. closed_count (channels_in (round_of (cond a new round
    ∷ marked) r)) ≤ closed_count (channels_in (round_of (round ∷ rounds) r)) + 1) [
      | true ↦ elim (round.number == r) as
          (λ b. closed_count (channels_in (cond b (Some new) (round_of marked r))) ≤ closed_count
          (channels_in (cond b (Some round) (round_of rounds r))) + 1) [
            | true ↦ count_one_more round.channels from
                (record (channel_at round from) { is_closed = true })
            | false ↦ count_marked r from number rounds
          ]
      | false ↦ elim (round.number == r) as
          (λ b. closed_count (channels_in (cond b (Some round) (round_of marked r))) ≤ closed_count
          (channels_in (cond b (Some round) (round_of rounds r))) + 1) [
            | true ↦ omega arith
            | false ↦ count_marked r from number rounds
          ]
    ]

-- and a round that begins none
count_open : (n : ℕ) → closed_count (replicate n open_channel) ≡ 0
count_open zero = refl
count_open (suc n) =
    omega (arith, sum_by-cons weight open_channel (replicate n open_channel), count_open n)

count_begun : (r n number : ℕ) (rounds : List RecordedRound)
    → count_in r (with_round rounds n number) ≤ count_in r rounds
count_begun r n number [] =
    let none : Option RecordedRound = None in
    elim (number == r) as (λ b. closed_count (channels_in (cond b
    (Some (record { number = number; channels = replicate n open_channel })) none)) ≤ 0) [
      | true ↦ omega (arith, count_open n)
      | false ↦ omega arith
    ]
count_begun r n number (round ∷ rounds) =
    elim (round.number == r) as
    (λ b. closed_count (channels_in (cond b (Some round) (round_of (with_round rounds n number)
    r))) ≤ closed_count (channels_in (cond b (Some round) (round_of rounds r)))) [
      | true ↦ omega arith
      | false ↦ count_begun r n number rounds
    ]

-- another marker of the same process
module _ (n : ℕ) (markers : List MarkerView) (are : AreMarkers n markers) (p : ℕ)
    (old new : MarkerView) (within : p < length markers) (at : old ≡ get_or markers p old)
    (is : IsSameProcess old new) where
  own : old ≡ marker_at markers p
  own = at ∙ get_or_default markers p old no_marker within

  here : marker_at (set markers p new) p ≡ new
  here = get_or-set_same markers p new no_marker within

  pub AreMarkers-set : AreMarkers n (set markers p new)
  AreMarkers-set = record {
    count = length-set markers p new ∙ are.count;
    n_is = λ q q_within. elim (cases_eq q p) [
      | inl same ↦ ap (λ (v : ℕ). (marker_at (set markers p new) v).n) same ∙ ap
          (λ (m : MarkerView). m.n) here ∙ is.n_is ∙ ap (λ (m : MarkerView). m.n) own ∙ are.n_is p
          (omega (arith, within, are.count))
      | inr other ↦ ap (λ (m : MarkerView). m.n)
          (get_or-set_other markers p q new no_marker other) ∙ are.n_is q q_within
    ];
    me_is = λ q q_within. elim (cases_eq q p) [
      | inl same ↦ ap (λ (v : ℕ). (marker_at (set markers p new) v).me) same ∙ ap
          (λ (m : MarkerView). m.me) here ∙ is.me_is ∙ ap
          (λ (m : MarkerView). m.me) own ∙ are.me_is p (omega (arith, within, are.count)) ∙ sym same
      | inr other ↦ ap (λ (m : MarkerView). m.me)
          (get_or-set_other markers p q new no_marker other) ∙ are.me_is q q_within
    ];
  }

  -- by which no more is closed
  module _ (to_come r : ℕ) (coming : AreToCome to_come n r markers) where
    AreToCome-set : count_in r new.rounds ≤ count_in r old.rounds
        → AreToCome to_come n r (set markers p new)
    AreToCome-set most = λ some. omega (
      arith,
      most,
      coming some,
      sum_by-set
          (markers_heard r) markers p new old within,
      ap (markers_heard r) at,
    )

    pub AreToCome-same : new.rounds ≡ old.rounds → AreToCome to_come n r (set markers p new)
    AreToCome-same same = AreToCome-set (omega (arith, ap (count_in r) same))

    pub AreToCome-noted : (message : MsgName) → new.rounds ≡ rounds_with_message old.rounds message
        → AreToCome to_come n r (set markers p new)
    AreToCome-noted message is =
        AreToCome-set (omega (arith, ap (count_in r) is, count_noted r message old.rounds))

    -- what is kept of the round beside the markers is as it was, or one marker fewer is to come
    module _ (size number : ℕ) (size_is : size ≡ n) (number_is : number ≡ r) where
      kept : (others : ℕ) → AreToCome others n r (set markers p new)
          → AreMarkers size (set markers p new) × AreToCome others size number (set markers p new)
      kept others left = (
        subst (λ (v : ℕ). AreMarkers v (set markers p new)) (sym size_is) AreMarkers-set,
        subst (λ (v : ℕ). AreToCome others v number (set markers p new)) (sym size_is)
            (subst (λ (v : ℕ). AreToCome others n v (set markers p new)) (sym number_is) left),
      )

      pub kept-begun : (k s : ℕ) → new.rounds ≡ with_round old.rounds k s
          → AreMarkers size (set markers p new) × AreToCome to_come size number (set markers p new)
      kept-begun k s rounds = kept to_come
          (AreToCome-set (omega (arith, ap (count_in r) rounds, count_begun r k s old.rounds)))

      kept-fewer : (others : ℕ) → others ≡ to_come - 1
          → count_in r new.rounds ≤ count_in r old.rounds + 1
          → AreMarkers size (set markers p new) × AreToCome others size number (set markers p new)
      kept-fewer others fewer more = kept others
          (λ some. omega (
            arith,
            fewer,
            more,
            some,
            coming (omega (arith, fewer, some)),
            sum_by-set
                (markers_heard r) markers p new old within,
            ap (markers_heard r) at,
          ))

      pub kept-heard : (others from s : ℕ) → others ≡ to_come - 1
          → new.rounds ≡ with_marker old.rounds from s
          → AreMarkers size (set markers p new) × AreToCome others size number (set markers p new)
      kept-heard others from s fewer rounds = kept-fewer others fewer
          (omega (arith, ap (count_in r) rounds, count_marked r from s old.rounds))

      pub kept-forced : (others k from s : ℕ) → others ≡ to_come - 1
          → new.rounds ≡ with_marker (with_round old.rounds k s) from s
          → AreMarkers size (set markers p new) × AreToCome others size number (set markers p new)
      kept-forced others k from s fewer rounds = kept-fewer others fewer
          (omega (
            arith,
            ap (count_in r) rounds,
            count_marked r from s
                (with_round old.rounds k s),
            count_begun r k s old.rounds,
          ))

-- a sum of terms that are 0
sum_none : (f : MarkerView → ℕ) (markers : List MarkerView)
    → ((q : ℕ) → q < length markers → f (marker_at markers q) ≡ 0) → sum_by f markers ≡ 0
sum_none f [] none = refl
sum_none f (marker ∷ rest) none = omega (
  arith,
  sum_by-cons f marker rest,
  none 0
      (omega arith),
  sum_none f rest (λ q within. none (suc q) (omega (arith, within))),
)

-- and of terms that are k at least
sum_least : (f : MarkerView → ℕ) (k : ℕ) (markers : List MarkerView) → ((q : ℕ) → q < length markers
    → k ≤ f (marker_at markers q)) → length markers * k ≤ sum_by f markers
sum_least f k [] least = omega arith
sum_least f k (marker ∷ rest) least =
    omega (
      arith,
      sum_by-cons f marker rest,
      least 0 (omega arith),
      sum_least f k rest
          (λ q within. least (suc q) (omega (arith, within))),
    )

-- all are to come where nothing is recorded
pub AreToCome-fresh : (to_come n r floor : ℕ) (markers : List MarkerView) → to_come ≡ n * (n - 1)
    → length markers ≡ n → ((q : ℕ) → q < n → IsFresh floor (marker_at markers q))
    → AreToCome to_come n r markers
AreToCome-fresh to_come n r floor markers all count fresh = λ some.
    omega (
      arith,
      all,
      sum_none (markers_heard r) markers
          (λ q within. ap (count_in r) (fresh q (omega (arith, within, count))).rounds),
    )

-- channels that are all closed
count_all : (channels : List Channel) → ((q : ℕ) → q < length channels
    → (get_or channels q open_channel).is_closed ≡ true) → length channels ≤ closed_count channels
count_all [] closed = omega arith
count_all (channel ∷ rest) closed =
    omega (
      arith,
      sum_by-cons weight channel rest,
      ap unit (closed 0 (omega arith)),
      count_all rest
          (λ q within. closed (suc q) (omega (arith, within))),
    )

-- but for one
count_others : (channels : List Channel) (me : ℕ) → ((q : ℕ) → q < length channels → q ≢ me →
    (get_or channels q open_channel).is_closed ≡ true) → length channels ≤ closed_count channels + 1
count_others [] me closed = omega arith
count_others (channel ∷ rest) zero closed =
    omega (
      arith,
      sum_by-cons weight channel rest,
      count_all rest
          (λ q within. closed (suc q) (omega (arith, within)) (λ e. omega (arith, e))),
    )
count_others (channel ∷ rest) (suc me) closed =
    omega (
      arith,
      sum_by-cons weight channel rest,
      ap unit (closed 0 (omega arith) (λ e. omega (arith, e))),
      count_others rest me (λ q within apart. closed (suc q) (omega (arith, within))
          (λ e. apart (omega (arith, e)))),
    )

-- none is to come to a completed round
module _ (history : List Process) (turning : TurningView) (markers : List MarkerView)
    (are : AreMarkers (length turning.checks) markers)
    (is : IsRecording history (record {
      number = turning.number;
      checks = turning.checks;
      markers =
          markers;
    })) (completed : is_completed_fifo history turning.number ≡ true) where
  abbrev r : ℕ
  r = turning.number

  heard_by : (q : ℕ) → q < length history
      → length history ≤ markers_heard r (marker_at markers q) + 1
  heard_by q within =
      let tape : List Event = tape_at history q in
      let parts = closed_parts history r q (completed_closed history r q completed within) in
      let round = recorded_round (length history) q r tape (marker_at markers q)
      (is.markers q within) parts.0 in
      let found : round_of (marker_at markers q).rounds r ≡ Some round.round = recorded_there
      (length history) q r tape (marker_at markers q).rounds round in
      omega (
        arith,
        ap (λ (o : Option RecordedRound). closed_count (channels_in o)) found,
        round.count,
        count_others round.round.channels q (λ p p_within apart.
            let here : p < length history = omega (arith, p_within, round.count) in
            ap (λ (c : Channel). c.is_closed) (round.channels p here apart) ∙ parts.1 p here apart),
      )

  pub none_to_come : (to_come : ℕ) → AreToCome to_come (length turning.checks) r markers
      → 0 < to_come → ⊥
  none_to_come to_come coming some =
      let size : length markers ≡ length history = are.count ∙ is.turning.count in
      let most : sum_by (markers_heard r) markers + to_come ≤ length history *
      (length history - 1) =
      subst (λ (n : ℕ). sum_by (markers_heard r) markers + to_come ≤ n * (n - 1)) is.turning.count
      (coming some) in
      let least : length history * (length history - 1) ≤ sum_by (markers_heard r) markers =
      subst (λ (n : ℕ). n * (length history - 1) ≤ sum_by (markers_heard r) markers) size
      (sum_least (markers_heard r) (length history - 1) markers
      (λ q within. omega (arith, heard_by q (omega (arith, within, size))))) in
      omega (arith, most, least, some)
