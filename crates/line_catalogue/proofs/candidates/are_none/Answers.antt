-- Each end is 0, and past them there is none.
use Rattle.std.proofs.Common.{◌≡◌, length, get_or, ap, ◌∙◌, arith, inl, inr}
use Rattle.std.proofs.lemmas.Bool.{cases_lt}
use Rattle.std.proofs.lemmas.List.{get_or_past}
use Rattle.line_catalogue.proofs.candidates.are_none.Goals as goal

pub loop-end-preserved : goal.loop-end-preserved
loop-end-preserved c = λ p l. elim (cases_lt p c.loop-end.end-index) [
  | inl earlier ↦ c.loop-end.invariant p earlier
  | inr here ↦
      let same : p ≡ c.loop-end.end-index = omega (arith, l) in
      ap (λ k. get_or c.args.ends.now k 0) same ∙ omega arith
]

pub returns : goal.returns
returns c = λ _ p. elim (cases_lt p (length c.args.ends.now)) [
  | inl within ↦ c.loop-end.invariant p (omega (arith, within))
  | inr past ↦ get_or_past c.args.ends.now p 0 (omega arith)
]
