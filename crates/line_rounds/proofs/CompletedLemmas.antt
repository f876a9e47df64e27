-- The last check of a round: the line before it, and the channels that it leaves.
use Rattle.std.proofs.Common.{◌≡◌, ◌≢◌, ℕ, ◌<◌, true, false, cond, List, length, Some, sym, ap, ◌∙◌}
use Rattle.std.proofs.Common.{subst, arith, inl, inr}
use Rattle.std.proofs.lemmas.Bool.{cases_eq, cases_lt}
use Rattle.std.proofs.lemmas.List.{get_or_past}
use Rattle.line_names.specs.declared.choices.Choice.{Choice}
use Rattle.line_names.specs.declared.choices.Choice.TheVariants.{Check as AtCheck}
use Rattle.line_names.specs.Lines.{choice_at}
use Rattle.line_tape.specs.declared.events.Event.TheVariants.{Check}
use Rattle.line_tape.specs.Colours.{channel_unordered}
use Rattle.line_tape.specs.Front.{HasChoice}
use Rattle.line_tape.specs.History.{Process, tape_at, with_event}
use Rattle.line_tape.specs.Line.{IsLine}
use Rattle.line_tape.specs.Rounds.{has_check_of, check_index}
use Rattle.line_laws.proofs.RoundLines.{check_of_within}
use Rattle.line_laws.proofs.RoundTransit.{round_transit}
use Rattle.line_rounds.specs.Channels.{channels_at}
use Rattle.line_rounds.specs.Tables.{between}
use Rattle.line_rounds.specs.Turning.{TurningView, IsTurning, IsLastLine}
use Rattle.line_rounds.proofs.ChannelLemmas.{channel-at}

module _ (history : List Process) (turning : TurningView) (p : ℕ) (line : List Choice)
    (within : p < length history) (is : IsTurning history turning) (at : IsLastLine turning p line)
    (others : (q : ℕ) → q < length history → q ≢ p
    → has_check_of turning.number (tape_at history q) ≡ true) where
  -- each other process stands at its check of the round
  pub line_choice : (q : ℕ) → q < length history → q ≢ p
      → choice_at line q ≡ AtCheck (check_index turning.number (tape_at history q))
  line_choice q q_within apart =
      at.others q (omega (arith, q_within, is.count)) apart
      ∙ ap (λ c. AtCheck c) (is.checks q q_within ∙ ap (λ b. cond b
      (check_index turning.number (tape_at history q)) 0) (others q q_within apart))

  -- which is a line of the history
  pub IsLine-last : IsLine history line
  IsLine-last = record {
    length_is = at.count ∙ is.count;
    exist = λ q. elim (cases_eq q p) [
      | inl same ↦ subst (λ (v : ℕ). HasChoice (tape_at history v) (choice_at line v)) (sym same)
          (subst (HasChoice (tape_at history p)) (sym at.now) tt)
      | inr apart ↦ elim (cases_lt q (length history)) [
        | inl q_within ↦ subst (HasChoice (tape_at history q)) (sym (line_choice q q_within apart))
            (check_of_within (tape_at history q) turning.number (others q q_within apart))
        | inr past ↦ subst (HasChoice (tape_at history q)) (sym (get_or_past line q (AtCheck 0)
            (omega (arith, past, at.count, is.count)))) (omega arith)
      ]
    ];
  }

  -- and what is in transit at it are the channels of the round once the last check is taken
  pub channels-last : (state : List ℕ) → has_check_of turning.number (tape_at history p) ≡ false
      → (a b : ℕ) → a < length history → b < length history
      → channel_unordered (with_event history p (Check state (Some turning.number))) turning.number
      a b ≡ between (channels_at history line) a b
  channels-last state none a b a_within b_within =
      round_transit history p state turning.number line within none at.now line_choice a b a_within
      b_within ∙ sym (channel-at history line a b a_within b_within)
