-- What was let go is told, or why nothing was.
use Rattle.std.proofs.Common.{◌≡◌, ℕ, List, ◌++◌, ◌∷◌, Option, true, false, refl}
use Rattle.line_claims.specs.Records.{floors_records}
use Rattle.line_devices.specs.Devices.{PutsButEnd, PutsFront}
use Rattle.line_fields.proofs.OutletLemmas.{one_text}
use Rattle.line_fields.specs.Texts.{record_text, records_text}
use Rattle.line_live.specs.declared.refusals.ForgetError.{ForgetError}
use Rattle.line_live.specs.declared.refusals.ForgetError.TheVariants as forgets
use Rattle.line_live.specs.Lives.{LiveMachine}
use Rattle.line_scripts.specs.declared.commands.Command.TheVariants as commands
use Rattle.line_text.specs.Answers.{Forgot, Refused, DoesCommand, DoesFront, Forgets, IsKeptBy}
use Rattle.line_text.specs.Answers.{floors_of_live, forget_code, forgot_record}
use Rattle.line_text.specs.Replies.{refusal_record as refused_record}
use Rattle.line_text.proofs.AnswerLemmas.{does, does_front}

abbrev pub forgot_text : LiveMachine → Option ℕ → List ℕ
forgot_text live round = records_text (forgot_record round ∷ floors_records 0 (floors_of_live live))

pub forgot_does : (old new : LiveMachine) (round : Option ℕ) (taken now : Option (List ℕ))
    (held later : List ℕ) → Forgets old round new
    → PutsButEnd taken now later (held ++ forgot_text new round)
    → DoesCommand old (commands.Forget round) new taken now held later false
forgot_does old new round taken now held later lets put = does old new (commands.Forget round)
    (Forgot round (floors_of_live new)) taken now held later (forgot_text new round)
    (refl, lets, refl) refl put

pub forgot_front : (old new : LiveMachine) (round : Option ℕ) (taken now : Option (List ℕ))
    (held : List ℕ) → Forgets old round new → PutsFront taken now (held ++ forgot_text new round)
    → DoesFront old (commands.Forget round) new taken now held
forgot_front old new round taken now held lets put = does_front old new (commands.Forget round)
    (Forgot round (floors_of_live new)) taken now held (forgot_text new round)
    (refl, lets, refl) refl put

pub kept_does : (old new : LiveMachine) (round : Option ℕ) (error : ForgetError) (code : ℕ)
    (taken now : Option (List ℕ)) (held later : List ℕ) → IsKeptBy old round error → new ≡ old
    → code ≡ forget_code error
    → PutsButEnd taken now later (held ++ record_text (refused_record code))
    → DoesCommand old (commands.Forget round) new taken now held later true
kept_does old new round error code taken now held later kept same is put =
    does old new (commands.Forget round) (Refused code) taken now held later
    (record_text (refused_record code)) (
      record { error = error; kept = kept; code_is = is },
      same,
    ) (one_text (refused_record code)) put

pub kept_front : (old new : LiveMachine) (round : Option ℕ) (error : ForgetError) (code : ℕ)
    (taken now : Option (List ℕ)) (held : List ℕ) → IsKeptBy old round error → new ≡ old
    → code ≡ forget_code error
    → PutsFront taken now (held ++ record_text (refused_record code))
    → DoesFront old (commands.Forget round) new taken now held
kept_front old new round error code taken now held kept same is put =
    does_front old new (commands.Forget round) (Refused code) taken now held
    (record_text (refused_record code)) (
      record { error = error; kept = kept; code_is = is },
      same,
    ) (one_text (refused_record code)) put

-- the number of a cause
pub code_of_cause : (error : ForgetError) (code : ℕ) → (error ≡ forgets.OutOfMemory → code ≡ 0)
    → (error ≡ forgets.WrongMode → code ≡ 22) → (error ≡ forgets.RoundOpen → code ≡ 20)
    → (error ≡ forgets.NoSuchRound → code ≡ 48) → (error ≡ forgets.RoundLost → code ≡ 49)
    → (error ≡ forgets.NoMoreNumbers → code ≡ 50) → code ≡ forget_code error
code_of_cause forgets.OutOfMemory code a b c d e f = a refl
code_of_cause forgets.WrongMode code a b c d e f = b refl
code_of_cause forgets.RoundOpen code a b c d e f = c refl
code_of_cause forgets.NoSuchRound code a b c d e f = d refl
code_of_cause forgets.RoundLost code a b c d e f = e refl
code_of_cause forgets.NoMoreNumbers code a b c d e f = f refl
