-- Numbers that are few enough to be brought back, and what a machine that lets go keeps true of
-- them.
use Rattle.std.specs.Prelude.{◌≡◌, ◌≤◌, ℕ, Bool, true, false, All, length}
use Rattle.line_names.specs.declared.certificates.Passed.{Passed}
use Rattle.line_names.specs.declared.choices.Choice.{Choice}
use Rattle.line_names.specs.declared.choices.Choice.TheVariants.{Check as AtCheck, Now}
use Rattle.line_names.specs.declared.messages.MsgName.{MsgName}
use Rattle.line_names.specs.Lines.{choice_at}
use Rattle.line_tape.specs.declared.limits.TheConstants.{MOST_EVENTS}
use Rattle.line_plan.specs.declared.plans.Plan.{Plan}
use Rattle.line_tape.specs.declared.modes.Mode.TheVariants.{Fifo}
use Rattle.line_moves.specs.Listed.{ListedRound}
use Rattle.line_world.specs.Machine.{Machine}
use Rattle.line_world.specs.declared.replies.Reply.{Reply}
use Rattle.line_world.specs.declared.replies.Reply.TheVariants.{Sent, Took, Marked, Stale, Repeated}
use Rattle.line_world.specs.declared.replies.Reply.TheVariants.{Checked, Begun, Turned, Damaged}
use Rattle.line_world.specs.declared.replies.Reply.TheVariants.{Barred, Recovered}
use Rattle.line_cuts.specs.Cuts.{Floor}
use Rattle.line_cuts.specs.Floors.{HasNumbers}
use Rattle.line_live.specs.Lived.{LetsNothingGo}
use Rattle.line_live.specs.Resumed.{AreChecks, HasFloor, IsFloorOfAll}

-- the number of the message is one that a tape may have
abbrev pub IsFewName : MsgName → Type 0
IsFewName message = message.number ≤ MOST_EVENTS

-- and so is the check that a choice is
abbrev pub IsFewChoice : Choice → Type 0
IsFewChoice (AtCheck c) = c ≤ MOST_EVENTS
IsFewChoice Now = Unit {0}

-- both are so in an entry of a certificate
pub record IsFewEntry (entry : Passed) : Type 0 where
  pub choice : IsFewChoice entry.choice
  pub message : IsFewName entry.message

-- all numbers of a plan are so
pub record IsFewPlan (plan : Plan) : Type 0 where
  pub line : (p : ℕ) → IsFewChoice (choice_at plan.line p)
  pub certificate : All IsFewEntry plan.certificate.items
  pub replays : All IsFewName plan.replays.items

-- all numbers of a reply are so
abbrev pub IsFewReply : Reply → Type 0
IsFewReply (Sent message) = IsFewName message
IsFewReply (Took message forced) = IsFewName message
IsFewReply (Marked round forced) = Unit {0}
IsFewReply (Stale message) = IsFewName message
IsFewReply (Repeated message) = IsFewName message
IsFewReply (Checked at check) = check ≤ MOST_EVENTS
IsFewReply (Begun at check round) = check ≤ MOST_EVENTS
IsFewReply (Turned at check round) = check ≤ MOST_EVENTS
IsFewReply (Damaged at check) = check ≤ MOST_EVENTS
IsFewReply (Barred at check) = check ≤ MOST_EVENTS
IsFewReply (Recovered plan states incarnations) = IsFewPlan plan.value

-- there are numbers for what was let go of each process, which is nothing unless something was
-- forgotten, and that is only where links keep their order; what is kept has the floor, which
-- survives there, and no check of a listed round is an initial state
pub record IsTallied (floor : Floor) (forgot : Bool) (kept : Machine) : Type 0 where
  pub numbers : HasNumbers floor
  pub of_all : IsFloorOfAll (length kept.history) floor
  pub none : forgot ≡ false → LetsNothingGo floor
  pub fifo : forgot ≡ true → kept.mode ≡ Fifo
  pub held : HasFloor kept.history kept.marks floor
  pub checked : All (λ (round : ListedRound). AreChecks round.checks) kept.rounds
