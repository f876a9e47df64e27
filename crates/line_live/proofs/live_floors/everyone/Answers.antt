-- One process more.
use Rattle.std.proofs.Common.{◌≡◌, ℕ, true, ◌∙◌, subst, sym, arith, inl, inr}
use Rattle.std.proofs.lemmas.Bool.{cases_eq}
use Rattle.line_names.specs.Sets.{is_member}
use Rattle.line_live.proofs.live_floors.everyone.Goals as goal

pub loop-q-preserved : goal.loop-q-preserved
loop-q-preserved c = λ v within.
    let at : c.unwrap.result ≡ c.loop-q.q = (rw c.unwrap.ensures at c.try_new.ensures).1 in
    elim (cases_eq v c.unwrap.result) [
      | inl same ↦ subst (λ (p : ℕ). is_member c.with-all.result p ≡ true)
          (sym same) c.with-all.ensures.member
      | inr other ↦ c.with-all.ensures.others v other ∙ c.loop-q.invariant v
          (omega (arith, within, at, other))
    ]
