use Rattle.std.proofs.Common.{◌≡◌, ℕ, zero, suc, [], ◌∷◌, List, get_or, refl, ap, ◌∙◌, arith}
use Rattle.line_names.specs.declared.limits.TheConstants.{MOST_PROCESSES}
use Rattle.line_names.specs.Sets.{is_member}
use Rattle.line_names.proofs.BitLemmas.{members_of_none, words_again}
use Rattle.line_names.proofs.SetLemmas.{is_member-replicate}
use Rattle.line_names.proofs.processes.ProcSet.empty.Goals as goal

abbrev zeros : List ℕ
zeros = 0 ∷ 0 ∷ 0 ∷ 0 ∷ []

each_zero : (k : ℕ) → get_or zeros k 0 ≡ 0
each_zero zero = refl
each_zero (suc zero) = refl
each_zero (suc (suc zero)) = refl
each_zero (suc (suc (suc zero))) = refl
each_zero (suc (suc (suc (suc k)))) = refl

pub invariant_of-result : goal.invariant_of-result
invariant_of-result c = record {
  many = refl;
  fit = λ k. omega (arith, each_zero k);
  again = words_again zeros refl (λ k. omega (arith, each_zero k));
}

pub returns-clause-value : goal.returns-clause-value
returns-clause-value c = members_of_none zeros each_zero

pub returns-clause-none : goal.returns-clause-none
returns-clause-none c q = ap (λ set. is_member set q)
    (members_of_none zeros each_zero) ∙ is_member-replicate MOST_PROCESSES q
