-- What a command was told, as the answer to its record.
use Rattle.std.proofs.Common.{◌≡◌, ℕ, Bool, cond, List, [], ◌∷◌, ◌++◌, append_assoc, length, refl}
use Rattle.std.proofs.Common.{ap, ◌∙◌, subst}
use Rattle.std.specs.Prelude.{Option, Ok}
use Rattle.line_text.specs.Answers.{DoesCommand, DoesFront, command_answer_records}
use Rattle.line_text.specs.declared.outcomes.Outcome.{Outcome}
use Rattle.line_text.specs.declared.outcomes.Outcome.TheVariants as outcomes
use Rattle.line_text.specs.Answerers.{AnswersOne, PutsAnswersFront}
use Rattle.line_text.proofs.HeardLemmas.{one_front}
use Rattle.line_devices.specs.Devices.{PutsFront}
use Rattle.line_devices.proofs.PutLemmas.{front_of_front}
use Rattle.line_fields.specs.Records.{Record}
use Rattle.line_fields.specs.Texts.{records_text}
use Rattle.line_scripts.specs.declared.commands.Command.{Command}
use Rattle.line_scripts.specs.Scripts.{command_in}
use Rattle.line_service.specs.Services.{Has, Replied, service_rules}
use Rattle.line_live.specs.Lives.{LiveMachine}

-- a command that was done
pub done_told : (old new : LiveMachine) (r : Record) (command : Command)
    (taken now : Option (List ℕ)) (held later : List ℕ) (refused : Bool) (outcome : Outcome)
    → command_in (length old.kept.history) r ≡ Ok command
    → DoesCommand old command new taken now held later refused
    → outcome ≡ cond refused outcomes.Refused outcomes.Done
    → AnswersOne service_rules (Has old) (Ok r) (Has new) taken now held later outcome
done_told old new r command taken now held later refused outcome spelt h is =
    record {
      answer = Replied h.told;
      heard = (command, spelt, new, h.tells, refl);
      outcome_is = is
          ∙ ap (λ (b : Bool). cond b outcomes.Refused outcomes.Done) h.counted;
      put = h.put;
    }

-- a command of whose answer a front was put
pub front_told : (old new : LiveMachine) (r : Record) (command : Command)
    (taken now : Option (List ℕ)) (held : List ℕ)
    → command_in (length old.kept.history) r ≡ Ok command → DoesFront old command new taken now held
    → PutsAnswersFront service_rules (Has old) held (Ok r ∷ []) taken now
front_told old new r command taken now held spelt h =
    one_front service_rules (Has old) (Has new) held (Ok r) (Replied h.told) taken now
    (command, spelt, new, h.tells, refl)
    (subst (λ (t : List ℕ). PutsFront taken now t)
    (append_assoc held (records_text (command_answer_records h.told)) (10 ∷ [])) (front_of_front
    taken now (held ++ records_text (command_answer_records h.told)) (10 ∷ []) h.put))
