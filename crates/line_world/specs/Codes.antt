-- The numbers of refusals, as replies show them.
use Rattle.std.specs.Prelude.{ℕ}
use Rattle.line_world.specs.declared.replies.StepError.{StepError}
use Rattle.line_world.specs.declared.replies.StepError.TheVariants as errors

-- the number of a refusal, 0 for out of memory
abbrev pub refusal_code : StepError → ℕ
refusal_code errors.OutOfMemory = 0
refusal_code errors.NoSuchProcess = 1
refusal_code errors.TapeFull = 3
refusal_code errors.NoSuchCheck = 4
refusal_code errors.StateTooLong = 5
refusal_code errors.InitialDamage = 7
refusal_code errors.AlreadyDamaged = 8
refusal_code errors.ToSelf = 17
refusal_code errors.LinkEmpty = 18
refusal_code errors.BadPick = 19
refusal_code errors.RoundOpen = 20
refusal_code errors.NothingToTurn = 21
refusal_code errors.WrongMode = 22
refusal_code errors.NoMoreRounds = 23
refusal_code errors.NoMoreIncarnations = 24
refusal_code errors.BarNotLower = 40
