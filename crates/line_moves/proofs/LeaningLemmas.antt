-- Rounds that lean, or hold what others hold, show the same channels.
use Rattle.std.proofs.Common.{◌≡◌, ◌≢◌, ℕ, ◌<◌, cond, List, [], length, map, Option, Some, None}
use Rattle.std.proofs.Common.{Bor, refl, sym, ap, ◌∙◌, subst, arith, inl, inr}
use Rattle.std.specs.Prelude.{◌==◌, IfSome}
use Rattle.std.specs.Option.{option_copied}
use Rattle.std.specs.List.{range_with_len}
use Rattle.std.proofs.lemmas.Bool.{cases_eq, eq-eqb}
use Rattle.line_names.specs.declared.messages.MsgName.{MsgName}
use Rattle.line_rounds.specs.Recording.{MarkerView}
use Rattle.line_tape.specs.History.{Process}
use Rattle.line_tape.specs.Rounds.{check_line}
use Rattle.line_tape.specs.Transit.{in_transit_between}
use Rattle.line_rounds.specs.Tables.{between, IsTable}
use Rattle.line_moves.specs.Listed.{ListedRound, channel_table}
use Rattle.line_moves.specs.Openings.{channels_kept, AreChannels, AreInTransit}
use Rattle.line_moves.proofs.OpenFacts.{map_cells}

module _ (number : ℕ) (indices : List ℕ) (markers : List MarkerView)
    (counted : Option (List (List (List MsgName)))) (round : ListedRound)
    (same : (let it : ListedRound = record {
      number = number;
      checks = indices;
      channels =
          channels_kept counted (length indices) markers number;
    } in it) ≡ round) where
  -- what is lent of a round are its channels, of as many processes as it has checks
  pub lent_shown : (lent : Option (Bor (List (List (List MsgName))))) → option_copied lent ≡ counted
      → IfSome lent
      (λ channels. round.channels ≡ channel_table (length round.checks) (between channels.now))
  lent_shown None is = tt
  lent_shown (Some channels) is =
      let table : List (List (List MsgName)) = channels.now in
      let shown : Option (List (List (List MsgName))) → ListedRound = λ o. record {
        number = number;
        checks = indices;
        channels = channels_kept o (length indices) markers number;
      } in
      let seen : shown (Some table) ≡ round = ap shown is ∙ same in
      subst (λ (l : ListedRound). l.channels ≡ channel_table (length l.checks) (between table)) seen
      refl

  pub lent_shape : AreChannels counted (length indices) markers
      → (lent : Option (Bor (List (List (List MsgName))))) → option_copied lent ≡ counted
      → IfSome lent (λ channels. IsTable (length round.checks) channels.now)
  lent_shape are None is = tt
  lent_shape are (Some channels) is =
      let table : List (List (List MsgName)) = channels.now in
      let count : length indices
      ≡ length round.checks = ap (λ (l : ListedRound). length l.checks) same in
      subst (λ (n : ℕ). IsTable n table) count
      (subst (λ (o : Option (List (List (List MsgName)))). AreChannels o (length indices) markers)
      (sym is) are)

-- channels between n processes are the same where those of each two are
pub same_channels : (n : ℕ) (f g : ℕ → ℕ → List MsgName)
    → ((p q : ℕ) → p < n → q < n → p ≢ q → f p q ≡ g p q) → channel_table n f ≡ channel_table n g
same_channels n f g each =
    map_cells (λ p. map (λ q. cond (p == q) [] (f p q)) (range_with_len 0 n))
    (λ p. map (λ q. cond (p == q) [] (g p q)) (range_with_len 0 n)) 0 n (λ p p_low p_high.
    map_cells (λ q. cond (p == q) [] (f p q)) (λ q. cond (p == q) [] (g p q)) 0 n
    (λ q q_low q_high. elim (cases_eq p q) [
      | inl same ↦ ap (λ b. cond b [] (f p q)) (eq-eqb p q same) ∙ sym
          (ap (λ b. cond b [] (g p q)) (eq-eqb p q same))
      | inr apart ↦ ap (λ (ms : List MsgName). cond (p == q) [] ms)
          (each p q (omega (arith, p_high)) (omega (arith, q_high)) apart)
    ]))

-- where nothing was sent or received between two rounds, the channels of one are the other's
pub still_channels : (history : List Process) (earlier later : ListedRound)
    (table own : List (List (List MsgName)))
    → AreInTransit history (check_line earlier.checks) table
    → AreInTransit history (check_line later.checks) own
    → IsTable (length later.checks) own
    → ((p q : ℕ) → in_transit_between history (check_line earlier.checks) p q
    ≡ in_transit_between history (check_line later.checks) p q)
    → later.channels ≡ channel_table (length later.checks) (between own)
    → IsTable (length later.checks) table
    × (later.channels ≡ channel_table (length later.checks) (between table))
still_channels history earlier later table own earlier_are later_are shape still shown =
    let count : length history ≡ length later.checks = sym later_are.shape.rows ∙ shape.rows in (
      subst (λ (n : ℕ). IsTable n table) count earlier_are.shape,
      shown ∙ same_channels (length later.checks) (between own) (between table)
          (λ p q p_within q_within apart.
          let p_in : p < length history = omega (arith, p_within, count) in
          let q_in : q < length history = omega (arith, q_within, count) in
          later_are.each p q p_in q_in apart ∙ sym (still p q) ∙ sym
          (earlier_are.each p q p_in q_in apart)),
    )

-- channels that are the round's own are those that it shows
pub leaning_shown : (n : ℕ) (channels own : List (List (List MsgName)))
    → channels ≡ channel_table n (between own)
    → (found : Option (List (List (List MsgName))))
    → IfSome found (λ (t : List (List (List MsgName))). t ≡ own)
    → IfSome found (λ (t : List (List (List MsgName))). channels ≡ channel_table n (between t))
leaning_shown n channels own shown None same = tt
leaning_shown n channels own shown (Some table) same =
    shown ∙ ap (λ (t : List (List (List MsgName))). channel_table n (between t)) (sym same)
