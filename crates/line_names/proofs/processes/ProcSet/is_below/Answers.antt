use Rattle.std.proofs.Common.{◌<◌, refl, sym, subst, arith}
use Rattle.std.specs.Prelude.{IsTrue}
use Rattle.std.proofs.lemmas.Bool.{false≢true}
use Rattle.line_names.specs.declared.limits.TheConstants.{MOST_PROCESSES}
use Rattle.line_names.specs.Sets.{is_member}
use Rattle.line_names.proofs.BitLemmas.{member_low, none_in_word}
use Rattle.line_names.proofs.processes.ProcSet.is_below.Goals as goal

pub returns-then-bits_from-ne0-clause-value : goal.returns-then-bits_from-ne0-clause-value
returns-then-bits_from-ne0-clause-value c = (
  λ no. absurd (false≢true no),
  λ all. absurd (
      c.if-bits_from-ne0.true (c.bits_from.ensures.1 (λ j le l.
      none_in_word c.self.inside.words c.args.n c.loop-k.k c.saturating_sub.result j (omega arith)
      (omega arith)
      (λ q there. all q (subst (λ s. IsTrue (is_member s q)) c.self.view_is there)) le l))),
)

pub returns-clause-value : goal.returns-clause-value
returns-clause-value c = (
  λ yes q there.
      let low : (q < MOST_PROCESSES) × IsTrue _ = member_low c.self.inside.words q
      (subst (λ s. IsTrue (is_member s q)) (sym c.self.view_is) there) in
      c.loop-k.invariant q (omega arith) low.1,
  λ all. refl,
)

pub returns-then-bits_from-ne0-clause-few : goal.returns-then-bits_from-ne0-clause-few
returns-then-bits_from-ne0-clause-few c q there = (member_low c.self.inside.words q
    (subst (λ s. IsTrue (is_member s q)) (sym c.self.view_is) there)).0

pub returns-clause-few : goal.returns-clause-few
returns-clause-few c q there = (member_low c.self.inside.words q
    (subst (λ s. IsTrue (is_member s q)) (sym c.self.view_is) there)).0
