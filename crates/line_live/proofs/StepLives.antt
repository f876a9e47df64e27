-- A step of either machine, by its kind; and the steps of a run.
use Rattle.std.proofs.Common.{◌≡◌, List, [], ◌∷◌, map, refl, sym, ap, subst}
use Rattle.std.specs.List.{All}
use Rattle.std.proofs.lemmas.List.Elements.{All-head, All-tail}
use Rattle.line_tape.specs.declared.modes.Mode.{Mode}
use Rattle.line_tape.specs.declared.modes.Mode.TheVariants.{Fifo}
use Rattle.line_tape.specs.declared.steps.Step.{Step}
use Rattle.line_tape.specs.declared.steps.Step.TheVariants.{Send, Deliver, Check, Begin, Turn}
use Rattle.line_tape.specs.declared.steps.Step.TheVariants.{Damage, Bar, Recover}
use Rattle.line_world.specs.declared.replies.Answer.{Answer}
use Rattle.line_world.specs.Machine.{Machine}
use Rattle.line_world.specs.Runs.{Run, Takes}
use Rattle.line_cuts.specs.Cuts.{Floor}
use Rattle.line_live.specs.CutMachines.{cut_machine, cut_step, AnswersAlike, IsBeside, RunsAlike}
use Rattle.line_live.specs.CutMachines.{SparesFloor}
use Rattle.line_live.proofs.CheckLives.{check_alike, begin_alike, turn_alike}
use Rattle.line_live.proofs.DeliverLives.{deliver_alike}
use Rattle.line_live.proofs.MarkLives.{damage_alike, bar_alike}
use Rattle.line_live.proofs.RecoverLives.{recover_alike}
use Rattle.line_live.proofs.SendLives.{send_alike}

abbrev Alike : Floor → Machine → Step → Answer → Machine → Type 0
Alike floor old step answer cut = IsBeside floor old → Takes (cut_machine floor old)
    (cut_step floor step) answer cut → AnswersAlike floor old step answer cut

-- of a machine whose links keep their order
alike : (floor : Floor) (old : Machine) (step : Step) (answer : Answer) (cut : Machine)
    → SparesFloor floor step
    → IsBeside floor (record old { mode = Fifo })
    → Takes (cut_machine floor (record old { mode = Fifo })) (cut_step floor step) answer cut
    → AnswersAlike floor (record old { mode = Fifo }) step answer cut
alike floor old (Send from to body) answer cut spares is takes = send_alike floor old.history
    old.marks old.last_round old.rounds old.copies is from to body answer cut takes
alike floor old
    (Deliver from to pick state) answer cut spares is takes = deliver_alike floor old.history
    old.marks old.last_round old.rounds old.copies is from to pick state answer cut takes
alike floor old (Check at state) answer cut spares is takes = check_alike floor old.history
    old.marks old.last_round old.rounds old.copies is at state answer cut takes
alike floor old (Begin at state) answer cut spares is takes = begin_alike floor old.history
    old.marks old.last_round old.rounds old.copies is at state answer cut takes
alike floor old (Turn at state) answer cut spares is takes = turn_alike floor old.history old.marks
    old.last_round old.rounds old.copies is at state answer cut takes
alike floor old (Damage at check) answer cut spares is takes = damage_alike floor old.history
    old.marks old.last_round old.rounds old.copies is at check spares answer cut takes
alike floor old (Bar at check) answer cut spares is takes = bar_alike floor old.history old.marks
    old.last_round old.rounds old.copies is at check spares answer cut takes
alike floor old (Recover failed) answer cut spares is takes = recover_alike floor old.history
    old.marks old.last_round old.rounds old.copies is failed answer cut takes

pub step_alike : (floor : Floor) (old : Machine) (step : Step) (answer : Answer) (cut : Machine)
    → IsBeside floor old → SparesFloor floor step → Takes (cut_machine floor old)
    (cut_step floor step) answer cut → AnswersAlike floor old step answer cut
step_alike floor old step answer cut is spares takes =
    let ordered : old
    ≡ record old { mode = Fifo } = ap (λ (mode : Mode). record old { mode = mode }) is.mode in
    subst (λ (m : Machine). Alike floor m step answer cut) (sym ordered)
    (alike floor old step answer cut spares) is takes

pub run_alike : (floor : Floor) (old : Machine) (steps : List Step) (answers : List Answer)
    (cut : Machine) → IsBeside floor old → All (SparesFloor floor) steps
    → Run (cut_machine floor old) (map (cut_step floor) steps) answers cut
    → RunsAlike floor old steps answers cut
run_alike floor old [] [] cut is spares run =
    record { new = old; runs = refl; beside = is; same = run }
run_alike floor old [] (answer ∷ answers) cut is spares run = absurd run
run_alike floor old (step ∷ steps) [] cut is spares run = absurd run
run_alike floor old (step ∷ steps) (answer ∷ answers) cut is spares (mid, takes, run) =
    let first = step_alike floor old step answer mid is
    (All-head (SparesFloor floor) step steps spares) takes in
    let rest = run_alike floor first.new steps answers cut first.beside
    (All-tail (SparesFloor floor) step steps spares)
    (subst (λ (m : Machine). Run m (map (cut_step floor) steps) answers cut) first.same run) in
    record {
      new = rest.new;
      runs =
          (first.new, first.takes, rest.runs);
      beside = rest.beside;
      same = rest.same;
    }
