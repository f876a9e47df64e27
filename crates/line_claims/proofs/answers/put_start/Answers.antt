-- The record is that of the choice.
use Rattle.std.proofs.Common.{◌≡◌, ℕ, List, sym, ap, ◌∙◌}
use Rattle.line_check.specs.Answers.{start_due, state_at}
use Rattle.line_devices.proofs.OutputLemmas.{outputs_as}
use Rattle.line_fields.specs.Texts.{record_text}
use Rattle.line_names.specs.declared.choices.Choice.{Choice}
use Rattle.line_names.specs.declared.choices.Choice.TheVariants.{Check as AtCheck, Now}
use Rattle.line_names.specs.Lines.{choice_at}
use Rattle.line_tape.specs.History.{Process, tape_at, incarnation_at}
use Rattle.line_tape.specs.Restart.{restarted_incarnation}
use Rattle.line_claims.specs.Records.{start_record}
use Rattle.line_claims.proofs.answers.put_start.Goals as goal

-- the text of the record of a process that goes on from this choice
text_at : List Process → ℕ → Choice → List ℕ
text_at history p choice = record_text (start_record p (record {
  inc = restarted_incarnation choice
      (incarnation_at history p);
  state = state_at (tape_at history p) choice;
}))

text_is : (history : List Process) (line : List Choice) (p : ℕ) (choice : Choice)
    → choice_at line p ≡ choice
    → record_text (start_record p (start_due history line p))
    ≡ record_text (start_record p (record {
      inc = restarted_incarnation choice
          (incarnation_at history p);
      state = state_at (tape_at history p) choice;
    }))
unfolding text_at
text_is history line p choice is = ap (text_at history p) is

pub returns-in-Check : goal.returns-in-Check
returns-in-Check g c =
    outputs_as _ _ _ _ _ _ _ _ _ (text_is c.args.history.now.processes c.args.line.now c.args.p
    (AtCheck c.in-Check.check) (sym c.at.ensures ∙ c.in-Check.is))
    (rw (
      c.get-at.ensures.value,
      c.incarnation-inc.ensures,
      c.state-state.ensures,
      c.tape.ensures.events,
    ) at c.put_ending.ensures)

pub returns-in-Now : goal.returns-in-Now
returns-in-Now g c =
    outputs_as _ _ _ _ _ _ _ _ _ (text_is c.args.history.now.processes c.args.line.now c.args.p Now
    (sym c.at.ensures ∙ c.in-Now.is))
    (rw (c.get-at.ensures.value, c.incarnation-inc.ensures) at c.put_ending-in-Now.ensures)
