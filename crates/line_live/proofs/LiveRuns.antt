-- A run of a machine that lets go grows by one step.
use Rattle.std.proofs.Common.{◌≡◌, ℕ, ◌≤◌, List, [], ◌∷◌, ◌++◌, length, take, get_or, ◌+◌, ◌<◌}
use Rattle.std.proofs.Common.{refl, sym, ap, ◌∙◌, subst, arith}
use Rattle.std.proofs.lemmas.List.{take_more, length_push}
use Rattle.line_world.specs.declared.replies.Answer.{Answer}
use Rattle.line_tape.specs.declared.steps.Step.{Step}
use Rattle.line_live.specs.Lives.{LiveMachine, RunLive, TakesLive}

-- the first `index` steps were taken, and there is room for the answers of all
pub record IsLiveRunTo (old : LiveMachine) (steps : List Step) (index : ℕ) (answers : List Answer)
    (capacity : ℕ) (new : LiveMachine) : Type 0 where
  pub run : RunLive old (take index steps) answers new
  pub count : length answers ≡ index
  pub room : length steps ≤ capacity

pub RunLive-push : (steps : List Step) (step : Step) (answers : List Answer) (answer : Answer)
    (old mid new : LiveMachine) → RunLive old steps answers mid → TakesLive mid step answer new
    → RunLive old (steps ++ step ∷ []) (answers ++ answer ∷ []) new
RunLive-push [] step [] answer old mid new run takes =
    (new, subst (λ (m : LiveMachine). TakesLive m step answer new) run takes, refl)
RunLive-push [] step (first ∷ answers) answer old mid new run takes = absurd run
RunLive-push (first ∷ steps) step [] answer old mid new run takes = absurd run
RunLive-push (first ∷ steps) step (one ∷ answers) answer old mid new (next, took, run) takes =
    (next, took, RunLive-push steps step answers answer next mid new run takes)

-- one step more, with its answer
pub IsLiveRunTo-push : (old : LiveMachine) (steps : List Step) (index : ℕ) (answers : List Answer)
    (capacity : ℕ) (mid : LiveMachine) (step : Step) (answer : Answer) (new : LiveMachine)
    (more : List Answer) (room : ℕ)
    → IsLiveRunTo old steps index answers capacity mid → index < length steps → step ≡ get_or steps
    index step → TakesLive mid step answer new → more ≡ answers ++ answer ∷ [] → capacity ≤ room
    → IsLiveRunTo old steps (index + 1) more room new
IsLiveRunTo-push old steps index answers capacity mid step answer new more room so_far within at
    takes grown wide =
    record {
      run = subst (λ (xs : List Answer). RunLive old (take (index + 1) steps) xs new) (sym grown)
          (subst (λ (xs : List Step). RunLive old xs (answers ++ answer ∷ []) new)
          (sym (take_more steps
          index step within ∙ ap (λ (s : Step). take index steps ++ s ∷ []) (sym at)))
          (RunLive-push (take index steps) step answers answer old mid new so_far.run takes));
      count = ap (λ (xs : List Answer). length xs) grown ∙ length_push answers answer ∙ ap
          (λ (k : ℕ). k + 1) so_far.count;
      room = omega (arith, so_far.room, wide);
    }
