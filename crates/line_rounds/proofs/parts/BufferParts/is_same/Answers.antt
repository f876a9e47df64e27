-- The messages are the same just where the runs are.
use Rattle.std.proofs.Common.{◌≡◌, List, rules, sym, ap, ◌∙◌}
use Rattle.line_rounds.specs.Runs.{runs_in, RunView}
use Rattle.line_rounds.proofs.RunLemmas.{runs_unique}
use Rattle.line_rounds.proofs.parts.BufferParts.is_same.Goals as goal

pub returns : goal.returns
returns c =
    let ours : List RunView = c.self.inside.runs.value.items in
    let theirs : List RunView = c.other.inside.runs.value.items in
    let one : c.as_slice.result.now ≡ ours = search rules in
    let other : c.as_slice-2.result.now ≡ theirs = search rules in (
      λ done. sym c.self.view_is ∙ ap runs_in (sym one ∙ c.are_same_runs.ensures.0 done ∙ other)
          ∙ c.other.view_is,
      λ same. c.are_same_runs.ensures.1
          (one
          ∙ runs_unique ours theirs c.self.invariant c.other.invariant
          (c.self.view_is ∙ same ∙ sym c.other.view_is) ∙ sym other),
    )
