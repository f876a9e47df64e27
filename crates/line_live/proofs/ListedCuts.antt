-- What is left of a listed round has the channels that are counted in what is left.
use Rattle.std.proofs.Common.{◌≡◌, ℕ, ◌<◌, cond, List, [], length, map, get_or, sym, ap, ◌∙◌, subst}
use Rattle.std.proofs.Common.{arith, inl, inr}
use Rattle.std.specs.Prelude.{◌==◌, IsTrue}
use Rattle.std.specs.List.{All}
use Rattle.std.proofs.lemmas.Bool.{cases_eq, eq-eqb, ne_eqb}
use Rattle.std.proofs.lemmas.List.{get_or-map, length-map}
use Rattle.std.proofs.lemmas.List.Elements.{All-weaker}
use Rattle.line_names.specs.declared.choices.Choice.{Choice}
use Rattle.line_names.specs.declared.choices.Choice.TheVariants.{Check as AtCheck}
use Rattle.line_tape.specs.Fit.{IsFitFifo}
use Rattle.line_names.specs.declared.messages.MsgName.{MsgName}
use Rattle.line_tape.specs.History.{Process}
use Rattle.line_tape.specs.Rounds.{check_line}
use Rattle.line_tape.specs.Transit.{in_transit_between}
use Rattle.line_rounds.specs.Channels.{channels_at}
use Rattle.line_rounds.specs.Tables.{between, IsTable}
use Rattle.line_rounds.proofs.TableLemmas.{between-of, table_of-all, IsTable-of}
use Rattle.line_moves.specs.Listed.{ListedRound, channel_in, channel_table, IsSnapshotOf}
use Rattle.line_cuts.specs.Cuts.{Floor, IsFloor, cut_history, cut_name}
use Rattle.line_live.specs.CutMachines.{cut_listed, is_listed_on}
use Rattle.line_live.proofs.LaterLives.{channel_cut, snapshot_left}

-- two rounds of the same parts
pub same_round : (a b : ListedRound) → a.number ≡ b.number → a.checks ≡ b.checks
    → a.channels ≡ b.channels → a ≡ b
same_round a b number checks channels =
    ap (λ (v : ℕ). let round : ListedRound = record
    { number = v; checks = a.checks; channels = a.channels } in round) number
    ∙ ap (λ (v : List ℕ). let round : ListedRound = record
    { number = b.number; checks = v; channels = a.channels } in round) checks
    ∙ ap (λ (v : List (List (List MsgName))). let round : ListedRound = record
    { number = b.number; checks = b.checks; channels = v } in round) channels

module _ (floor : Floor) (round : ListedRound)
    (made : round.channels ≡ channel_table (length round.checks) (channel_in round)) where
  abbrev n : ℕ
  n = length round.checks

  whole_table : IsTable n round.channels
  whole_table = subst (λ (table : List (List (List MsgName))). IsTable n table) (sym made)
      (IsTable-of n (λ p q. cond (p == q) [] (channel_in round p q)))

  -- nothing goes from a process to itself
  own_none : (p q : ℕ) → p < n → q < n → p ≡ q → channel_in round p q ≡ []
  own_none p q p_within q_within same =
      ap (λ (table : List (List (List MsgName))). between table p q) made
      ∙ between-of n (λ a b. cond (a == b) [] (channel_in round a b)) p q p_within q_within
      ∙ ap (λ b. cond b [] (channel_in round p q)) (eq-eqb p q same)

  left_table : IsTable n (cut_listed floor round).channels
  left_table = record {
    rows = length-map round.channels
        (λ row. map (λ messages. map (cut_name floor) messages) row) ∙ whole_table.rows;
    columns = λ p within.
        ap (λ (row : List (List MsgName)). length row)
        (get_or-map (λ row. map (λ messages. map (cut_name floor) messages) row) round.channels
        p [] [] (omega (arith, within, whole_table.rows)))
        ∙ length-map (get_or round.channels p [])
        (λ messages. map (cut_name floor) messages) ∙ whole_table.columns p within;
  }

  -- the channels that are counted at its checks
  pub channels_left : (history : List Process) → n ≡ length history
      → IsSnapshotOf history (cut_listed floor round) → (table : List (List (List MsgName)))
      → table ≡ channels_at history (check_line (cut_listed floor round).checks)
      → channel_table n (between table) ≡ (cut_listed floor round).channels
  channels_left history count snapshot table table_is =
      let line : List Choice = check_line (cut_listed floor round).checks in
      sym (table_of-all n (λ p q. cond (p == q) [] (between table p q)) (cut_listed floor
      round).channels left_table (λ p q p_within q_within. elim (cases_eq p q) [
        | inl same ↦
            channel_cut floor round p q ∙ ap (map (cut_name floor))
            (own_none p q p_within q_within same)
            ∙ ap (λ b. cond b [] (between table p q)) (sym (eq-eqb p q same))
        | inr apart ↦
            snapshot.transit p q (omega (arith, p_within, count))
            (omega (arith, q_within, count)) apart
            ∙ sym (ap (λ (t : List (List (List MsgName))). between t p q) table_is ∙ between-of
            (length history) (in_transit_between history line) p q
            (omega (arith, p_within, count)) (omega (arith, q_within, count)))
            ∙ ap (λ b. cond b [] (between table p q)) (sym (ne_eqb p q apart))
      ]))

-- listed rounds are of as many processes
pub counts_are : (history kept : List Process) (rounds : List ListedRound)
    → length kept ≡ length history → All (IsSnapshotOf history) rounds
    → All (λ (round : ListedRound). length round.checks ≡ length kept) rounds
counts_are history kept rounds size all =
    All-weaker (IsSnapshotOf history) (λ (round : ListedRound). length round.checks ≡ length kept)
    (λ round s. sym (length-map round.checks (λ c. AtCheck c)) ∙ s.line.length_is ∙ sym size)
    rounds all

-- and those that stay are snapshots of what is left
pub left_each : (floor : Floor) (history : List Process) (rounds : List ListedRound)
    → IsFitFifo history → IsFloor history floor → All (IsSnapshotOf history) rounds
    → All (λ (round : ListedRound). IsTrue (is_listed_on floor round)
    → IsSnapshotOf (cut_history floor history) (cut_listed floor round)) rounds
left_each floor history rounds fit is all =
    All-weaker (IsSnapshotOf history)
    (λ (round : ListedRound). IsTrue (is_listed_on floor round)
    → IsSnapshotOf (cut_history floor history) (cut_listed floor round))
    (λ round s on. snapshot_left floor history fit is round on s) rounds all
