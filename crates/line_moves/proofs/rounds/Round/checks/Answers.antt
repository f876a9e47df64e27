-- It has the channels that it shows, and nothing from a process to itself.
use Rattle.std.proofs.Common.{◌≡◌, ℕ, List, [], length, Option, Some, None, sym, ap, ◌∙◌, subst}
use Rattle.std.proofs.Common.{cond, inl, inr}
use Rattle.std.specs.Prelude.{◌==◌}
use Rattle.std.proofs.lemmas.Bool.{cases_eq, eq-eqb}
use Rattle.line_rounds.specs.Recording.{MarkerView}
use Rattle.line_names.specs.declared.messages.MsgName.{MsgName}
use Rattle.line_rounds.specs.Tables.{between}
use Rattle.line_rounds.proofs.TableLemmas.{between-of, table_of-all, IsTable-of}
use Rattle.line_moves.specs.Listed.{ListedRound, channel_in, channel_table}
use Rattle.line_moves.specs.Openings.{channels_kept, kept_channel}
use Rattle.line_moves.proofs.OpeningLemmas.{table_cell}
use Rattle.line_moves.proofs.rounds.Round.checks.Goals as goal

-- a table of channels is made of what it has
table_again : (n : ℕ) (channels : ℕ → ℕ → List MsgName)
    → channel_table n channels ≡ channel_table n (between (channel_table n channels))
table_again n channels =
    let table : List (List (List MsgName)) = channel_table n channels in
    table_of-all n (λ p q. cond (p == q) [] (between table p q)) table
    (IsTable-of n (λ p q. cond (p == q) [] (channels p q))) (λ p q p_within q_within.
    between-of n (λ a b. cond (a == b) [] (channels a b)) p q p_within q_within
    ∙ elim (cases_eq p q) [
      | inl same ↦ ap (λ b. cond b [] (channels p q)) (eq-eqb p q same) ∙ ap
          (λ b. cond b [] (between table p q)) (sym (eq-eqb p q same))
      | inr apart ↦ ap (λ (ms : List MsgName). cond (p == q) [] ms)
          (sym (table_cell n channels p q p_within q_within apart))
    ])

kept_again : (counted : Option (List (List (List MsgName)))) (n : ℕ) (markers : List MarkerView)
    (r : ℕ) → channels_kept counted n markers r
    ≡ channel_table n (between (channels_kept counted n markers r))
kept_again None n markers r = table_again n (kept_channel markers r)
kept_again (Some table) n markers r = table_again n (between table)

pub returns-clause-channels : goal.returns-clause-channels
returns-clause-channels c =
    subst (λ (round : ListedRound). round.channels
    ≡ channel_table (length round.checks) (channel_in round)) c.self.view_is
    (kept_again c.self.inside.counted
    (length c.self.inside.checks.items) c.self.inside.markers c.self.inside.number)
