use Rattle.line_cuts.proofs.SameLemmas.{survives_same, latest_line_same, chain_same}
use Rattle.line_cuts.proofs.laws.same_marks_plan_alike.Goals as goal

pub returns : goal.returns
returns c = record {
  survives = λ history marks others failed p choice same. survives_same history marks others failed
      same p choice;
  latest = λ history marks others failed line same. latest_line_same history marks others failed
      line same;
  chain = λ history marks others failed entries line same. chain_same history marks others failed
      same entries line;
}
