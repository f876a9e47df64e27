-- The round of colours that is open in a world, and what a turn does to it.
use Rattle.std.proofs.Common.{◌≡◌, ◌≢◌, ℕ, ◌<◌, Bool, true, false, cond, List, [], ◌∷◌, length, map}
use Rattle.std.proofs.Common.{Option, Some, None, Bor, refl, sym, ap, ◌∙◌, subst, arith, inl, inr}
use Rattle.std.specs.Prelude.{◌==◌, ◌&&◌, ◌↔◌, IsTrue, IfSome, if◌then◌else◌, not}
use Rattle.std.specs.Option.{option_copied}
use Rattle.std.specs.List.{range_with_len}
use Rattle.std.proofs.lemmas.Bool.{cases_eq, eq-eqb}
use Rattle.std.proofs.lemmas.List.{length-map}
use Rattle.line_names.specs.declared.choices.Choice.{Choice}
use Rattle.line_names.specs.declared.choices.Choice.TheVariants.{Check as AtCheck}
use Rattle.line_names.specs.declared.messages.MsgName.{MsgName}
use Rattle.line_rounds.specs.Recording.{MarkerView}
use Rattle.line_tape.specs.declared.events.Event.{Event}
use Rattle.line_tape.specs.declared.events.Event.TheVariants.{Check}
use Rattle.line_tape.specs.Colours.{is_completed_unordered}
use Rattle.line_tape.specs.History.{Process, tape_at, with_event}
use Rattle.line_tape.specs.Rounds.{check_line, checks_of, has_check_of, round_line, IsSnapshot}
use Rattle.line_laws.proofs.CompletionLemmas.{checked_from}
use Rattle.line_tape.proofs.EventLemmas.{tape_same, tape_other}
use Rattle.line_laws.proofs.RoundLines.{checked_has}
use Rattle.line_laws.proofs.RoundTransit.{round_transit}
use Rattle.line_rounds.proofs.ChannelLemmas.{channel-at, IsTable-at}
use Rattle.line_rounds.proofs.CompletedLemmas.{line_choice}
use Rattle.line_rounds.proofs.TurningLemmas.{IsTurning-checked}
use Rattle.line_rounds.specs.Channels.{channels_at}
use Rattle.line_rounds.specs.Tables.{between, IsTable}
use Rattle.line_rounds.specs.Turning.{TurningView, IsLastLine, IsTurning}
use Rattle.line_tape.specs.declared.modes.Mode.TheVariants.{Unordered}
use Rattle.line_moves.specs.Listed.{ListedRound, channel, channel_table, is_begun, is_completed}
use Rattle.line_moves.specs.Listed.{listed_round, IsSnapshotOf}
use Rattle.line_moves.specs.Openings.{OpenView, channels_kept, left_open, newly_closed, opened_by}
use Rattle.line_moves.specs.Openings.{opened_turning, AreChannels, AreInTransit, IsCountedAtRound}
use Rattle.line_moves.specs.Openings.{IsOpenTurning}
use Rattle.line_moves.specs.Worlds.{AreRounds}
use Rattle.line_moves.proofs.FateLemmas.{same_test}
use Rattle.line_moves.proofs.LinkLemmas.{length-with_event}
use Rattle.line_moves.proofs.OpenFacts.{map_cells}
use Rattle.line_moves.proofs.OpeningLemmas.{is_checked_now, open_told, table_cell}

-- the last round begun is the one that is kept as open, where one has to be
pub open_is : (history : List Process) (last : ℕ) (turning : Option TurningView)
    (rounds : List ListedRound) → AreRounds Unordered history last (opened_turning turning) rounds
    → (AreRounds Unordered history last None rounds → ⊥) → IsOpenTurning history last turning
open_is history last None rounds are some = absurd (some are)
open_is history last (Some round) rounds are some = record {
  round = round;
  is = refl;
  number_is =
      are.unfinished.number_is;
  follows = are.opening.recording;
}

-- one that stands there is the only one
pub same_round : (turning : Option TurningView) (a b : TurningView) → turning ≡ Some a
    → turning ≡ Some b → a ≡ b
same_round turning a b first second = cc

pub open_round : (history : List Process) (r : ℕ) (turning : Option TurningView)
    (round : TurningView) → turning ≡ Some round → IsOpenTurning history r turning
    → (round.number ≡ r) × IsTurning history round
open_round history r turning round is kept =
    let same : kept.round ≡ round = same_round turning kept.round round kept.is is in (
      subst (λ (t : TurningView). t.number ≡ r) same kept.number_is,
      subst
          (IsTurning history) same kept.follows,
    )

-- what may be turned to
module _ (history : List Process) (last : ℕ) (turning : TurningView) (rounds : List ListedRound)
    (are : AreRounds Unordered history last (Some (opened_by turning)) rounds) where
  pub may_turn_some : (p : ℕ) (b : Bool) → b ≡ has_check_of turning.number (tape_at history p)
      → not b ≡ ((is_begun history last && not (is_completed Unordered history last))
      && not (has_check_of last (tape_at history p)))
  may_turn_some p b e =
      let open_now = open_told Unordered history last
      (Some (opened_by turning)) are.opening are.unfinished in
      ap not (e ∙ ap (λ (r : ℕ). has_check_of r (tape_at history p)) are.unfinished.number_is)
      ∙ ap (λ v. v && not (has_check_of last (tape_at history p))) open_now

pub may_turn_none : (history : List Process) (last : ℕ) (rounds : List ListedRound)
    (are : AreRounds Unordered history last None rounds) → (p : ℕ)
    → false ≡ ((is_begun history last && not (is_completed Unordered history last))
    && not (has_check_of last (tape_at history p)))
may_turn_none history last rounds are p = ap (λ v. v && not (has_check_of last (tape_at history p)))
    (open_told Unordered history last None are.opening are.unfinished)

-- the last check of the round that is open
module _ (history : List Process) (turning : TurningView) (is : IsTurning history turning) (at : ℕ)
    (state : List ℕ) (within : at < length history)
    (none : has_check_of turning.number (tape_at history at) ≡ false) where
  abbrev r : ℕ
  r = turning.number

  abbrev event : Event
  event = Check state (Some r)

  abbrev new : List Process
  new = with_event history at event

  -- it completes the round just where every other process has its own
  pub turn_completed : (b : Bool) → IsTrue b ↔ ((q : ℕ) → q < length history → q ≢ at
      → has_check_of r (tape_at history q) ≡ true) → b ≡ is_completed_unordered new r
  turn_completed b others = same_test b (is_completed_unordered new r)
      (λ t. checked_from new r (λ q q_within. elim (cases_eq q at) [
        | inl same ↦ ap (has_check_of r) (tape_same history at event q within same) ∙ is_checked_now
            r (tape_at history q) event (eq-eqb r r refl)
        | inr apart ↦ ap (has_check_of r) (tape_other history at event q apart) ∙ others.0 t q
            (omega (arith, q_within, length-with_event history at event)) apart
      ]))
      (λ t. others.1
      (λ q q_within apart. ap (has_check_of r) (sym (tape_other history at event q apart)) ∙
      checked_has new r q t (omega (arith, q_within, length-with_event history at event))))

  module _ (line : List Choice) (stands : IsLastLine turning at line) (others : (q : ℕ)
      → q < length history → q ≢ at → has_check_of r (tape_at history q) ≡ true) where
    -- what is in transit there is what is in transit at the round's line after the last check
    pub turn_counted : (table : List (List (List MsgName))) → AreInTransit history line table
        → AreInTransit new (round_line new r) table
    turn_counted table found =
        let size : length new ≡ length history = length-with_event history at event in
        record {
          shape = subst (λ (v : ℕ). IsTable v table) (sym size) found.shape;
          each = λ p q p_within q_within apart.
              let p_in : p < length history = omega (arith, p_within, size) in
              let q_in : q < length history = omega (arith, q_within, size) in
              found.each p q p_in q_in apart
              ∙ sym (round_transit history at state r line within none stands.now
              (line_choice history turning at line within is stands others) p q p_in q_in);
        }

-- what was counted for the round that was turned to is so for the round that is taken off
pub round_counted : (after given : List Process) (new round : TurningView)
    (channels : Option (List (List (List MsgName)))) (table : List (List (List MsgName)))
    → after ≡ given → new ≡ round → channels ≡ Some table
    → IsCountedAtRound after new.number channels → IsCountedAtRound given round.number (Some table)
round_counted after given new round channels table now same is counted =
    subst (λ (h : List Process). IsCountedAtRound h round.number (Some table)) now
    (subst (λ (t : TurningView). IsCountedAtRound after t.number (Some table)) same
    (subst (λ (o : Option (List (List (List MsgName)))). IsCountedAtRound after new.number o) is
    counted))

-- a round of colours that is completed is listed, and open no more
pub closed_round : (history : List Process) (turning : TurningView)
    → is_completed_unordered history turning.number ≡ true
    → (newly_closed Unordered history (Some (opened_by turning)) ≡ listed_round Unordered history
    turning.number ∷ []) × (left_open Unordered history (Some (opened_by turning)) ≡ None)
closed_round history turning completed = (
  ap (λ b. if b then listed_round Unordered history turning.number ∷ [] else []) completed,
  ap (λ (b : Bool). let left : Option OpenView = if b
      then None else Some (opened_by turning) in left) completed,
)

-- what is in transit at a line, as it is counted
pub channels_found : (history : List Process) (line : List Choice)
    → AreInTransit history line (channels_at history line)
channels_found history line = record {
  shape = IsTable-at history line;
  each = λ p q p_within
      q_within apart. channel-at history line p q p_within q_within;
}

-- what is in transit at the checks of a listed round, as its channels are kept
pub kept_found : (history : List Process) (indices : List ℕ) (table : List (List (List MsgName)))
    → IsTable (length indices) table
    → IsSnapshot history indices (between (channel_table (length indices) (between table)))
    → AreInTransit history (check_line indices) table
kept_found history indices table shape snapshot =
    let size : length indices
    ≡ length history = sym (length-map indices (λ c. AtCheck c)) ∙ snapshot.line.length_is in
    record {
      shape = subst (λ (v : ℕ). IsTable v table) size shape;
      each = λ p q p_within q_within apart.
          sym (table_cell (length indices) (between table) p q (omega (arith, p_within, size))
          (omega (arith, q_within, size)) apart)
          ∙ snapshot.transit p q p_within q_within apart;
    }

-- and as they are lent, if there are any
pub lent_found : (history : List Process) (number : ℕ) (indices : List ℕ) (markers : List
    MarkerView) (counted : Option (List (List (List MsgName)))) (round : ListedRound)
    → (let it : ListedRound = record {
      number = number;
      checks = indices;
      channels = channels_kept counted
          (length indices) markers number;
    } in it) ≡ round
    → AreChannels counted (length indices) markers → IsSnapshotOf history round
    → (lent : Option (Bor (List (List (List MsgName))))) → option_copied lent ≡ counted
    → IfSome lent (λ channels. AreInTransit history (check_line round.checks) channels.now)
lent_found history number indices markers counted round same are snapshot None is = tt
lent_found history number indices markers counted round same are snapshot (Some channels) is =
    let table : List (List (List MsgName)) = channels.now in
    let shown : Option (List (List (List MsgName))) → ListedRound = λ o. record {
      number = number;
      checks = indices;
      channels = channels_kept o (length indices) markers number;
    } in
    let seen : shown (Some table) ≡ round = ap shown is ∙ same in
    let shape : IsTable (length indices) table = subst (λ (o : Option (List (List (List MsgName)))).
    AreChannels o (length indices) markers) (sym is) are in
    subst (λ (l : ListedRound). AreInTransit history (check_line l.checks) table) seen
    (kept_found history indices table shape (subst (IsSnapshotOf history) (sym seen) snapshot))

-- the round of colours that is completed, as it is listed
pub counted_is : (history : List Process) (turning : TurningView) → IsTurning history turning
    → is_completed_unordered history turning.number ≡ true
    → (indices : List ℕ) (table : List (List (List MsgName))) (number : ℕ)
    → indices ≡ turning.checks → number ≡ turning.number
    → AreInTransit history (round_line history turning.number) table
    → (let round : ListedRound = record {
      number = number;
      checks = indices;
      channels = channel_table (length indices)
          (between table);
    } in round) ≡ listed_round Unordered history turning.number
counted_is history turning is completed indices table number indices_are number_is table_is =
    let n : ℕ = length history in
    let r : ℕ = turning.number in
    let checks_are : indices
    ≡ checks_of history r = indices_are ∙ IsTurning-checked history turning is completed in
    let count : length indices ≡ n = ap (λ (v : List ℕ). length v) indices_are ∙ is.count in
    let f : ℕ → ℕ → List MsgName = between table in
    let g : ℕ → ℕ → List MsgName = channel Unordered history r in
    let same_channels : channel_table (length indices) (between table) ≡ channel_table n g =
    ap (λ (v : ℕ). channel_table v (between table)) count
    ∙ map_cells (λ p. map (λ q. cond (p == q) [] (f p q)) (range_with_len 0 n))
    (λ p. map (λ q. cond (p == q) [] (g p q)) (range_with_len 0 n)) 0 n (λ p p_low p_high.
    map_cells (λ q. cond (p == q) [] (f p q)) (λ q. cond (p == q) [] (g p q)) 0 n
    (λ q q_low q_high. elim (cases_eq p q) [
      | inl same ↦ ap (λ b. cond b [] (f p q)) (eq-eqb p q same) ∙ sym
          (ap (λ b. cond b [] (g p q)) (eq-eqb p q same))
      | inr apart ↦ ap (λ (ms : List MsgName). cond (p == q) [] ms)
          (table_is.each p q (omega (arith, p_high)) (omega (arith, q_high)) apart)
    ])) in
    ap (λ (v : ℕ). let l : ListedRound = record {
      number = v;
      checks = indices;
      channels =
          channel_table (length indices) (between table);
    } in l) number_is
    ∙ ap (λ (v : List ℕ). let l : ListedRound = record {
      number = r;
      checks = v;
      channels =
          channel_table (length indices) (between table);
    } in l) checks_are
    ∙ ap (λ (v : List (List (List MsgName))). let l : ListedRound = record
    { number = r; checks = checks_of history r; channels = v } in l) same_channels
