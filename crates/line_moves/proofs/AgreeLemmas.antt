-- The events of a world's steps agree with its history.
use Rattle.std.proofs.Common.{ℕ, ◌<◌, List, length, refl, inl}
use Rattle.line_names.specs.declared.messages.MsgName.{MsgName}
use Rattle.line_tape.specs.declared.events.Event.TheVariants.{Send, Recv, Check, Mark}
use Rattle.line_tape.specs.Event.{Holds}
use Rattle.line_tape.specs.History.{Process, tape_at, incarnation_at}
use Rattle.line_catalogue.specs.Agreement.{Agrees, AgreesNext}
use Rattle.line_catalogue.proofs.AgreementLemmas.{Agrees-more}
use Rattle.std.proofs.Common.{Option}

module _ (history : List Process) (agrees : Agrees history) (p : ℕ)
    (within : p < length history) where
  -- a send under the present incarnation
  pub AgreesNext-send : (to : ℕ) (body : List ℕ)
      → AgreesNext history p (Send to (incarnation_at history p) body)
  AgreesNext-send to body = record {
    agrees = Agrees-more history p
        (Send to (incarnation_at history p) body) within refl tt agrees;
    present = refl;
  }

  -- a message that its sender's tape holds
  pub AgreesNext-receive : (message : MsgName) → Holds (tape_at history message.from) message.inc
      message.number → AgreesNext history p (Recv message)
  AgreesNext-receive message held = record
      { agrees = Agrees-more history p (Recv message) within tt (inl held) agrees; present = tt }

  -- a check
  pub AgreesNext-check : (state : List ℕ) (round : Option ℕ)
      → AgreesNext history p (Check state round)
  AgreesNext-check state round = record
      { agrees = Agrees-more history p (Check state round) within tt tt agrees; present = tt }

  -- a mark
  pub AgreesNext-mark : (from round : ℕ) → AgreesNext history p (Mark from round)
  AgreesNext-mark from round =
      record { agrees = Agrees-more history p (Mark from round) within tt tt agrees; present = tt }
