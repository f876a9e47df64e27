-- What the tape of a sender tells of a message, as a test.
use Rattle.std.proofs.Common.{◌≡◌, Option, Some, None, ℕ, Bool, true, false, List, refl, sym, ap}
use Rattle.std.specs.Prelude.{◌==◌}
use Rattle.std.specs.List.{slice_get}
use Rattle.std.specs.Option.{option_eq}
use Rattle.std.proofs.lemmas.Bool.{both_ways, eqb-true, false_from_ne_true}
use Rattle.line_names.specs.declared.messages.MsgName.{MsgName}
use Rattle.line_tape.specs.Event.{incarnations_sent, Holds}
use Rattle.line_tape.specs.History.{Process, tape_at}
use Rattle.line_moves.specs.Fates.{is_held}

-- two tests that mean the same
pub same_test : (a b : Bool) → (a ≡ true → b ≡ true) → (b ≡ true → a ≡ true) → a ≡ b
same_test true b to from = sym (to refl)
same_test false b to from = sym (false_from_ne_true b (λ t. both_ways false refl (from t)))

-- a held message, as a fact and as a test
pub held-true : (history : List Process) (message : MsgName) → is_held history message ≡ true
    → Holds (tape_at history message.from) message.inc message.number
held-true history message h =
    held_of (slice_get (incarnations_sent (tape_at history message.from)) message.number) h where
      held_of : (o : Option ℕ) → option_eq ◌==◌ o (Some message.inc) ≡ true → o ≡ Some message.inc
      held_of None h = absurd (cc)
      held_of (Some j) h = ap (λ (n : ℕ). Some n) (eqb-true j message.inc h)
