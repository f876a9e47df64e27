-- The entries so far are right, and lead to the ceilings.
use Rattle.std.proofs.Common.{◌≡◌, ◌+◌, List, take, sym, subst, refl, arith}
use Rattle.std.proofs.lemmas.Option.{slice_get_read}
use Rattle.line_names.specs.declared.choices.Choice.{Choice}
use Rattle.line_tape.specs.Chain.{lowered_ceilings, IsLed}
use Rattle.line_laws.proofs.LedLemmas.{IsLine-led}
use Rattle.line_check.specs.Verdict.{wrong_entry}
use Rattle.line_check.proofs.FollowLemmas.{few-led, led-more}
use Rattle.line_check.proofs.checker.follow.Goals as goal

pub check_entry-requires-clause-line : goal.check_entry-requires-clause-line
check_entry-requires-clause-line c =
    IsLine-led c.args.history.now.processes c.args.marks.now c.args.failed.now
    (take c.loop-k.k c.args.entries.now) c.loop-k.ceilings c.loop-k.invariant

pub overflow_cast-result : goal.overflow_cast-result
overflow_cast-result c =
    omega (
      arith,
      few-led c.args.history.now.processes c.args.marks.now c.args.failed.now
          c.args.entries.now c.loop-k.k c.loop-k.ceilings c.loop-k.auto.k-end c.n-n.ensures.limits
          c.loop-k.invariant,
      c.n-n.ensures.limits.few,
    )

pub returns-in-Err-clause-fault : goal.returns-in-Err-clause-fault
returns-in-Err-clause-fault c = λ line shape.
    wrong_entry c.loop-k.k c.index-entries-k.result c.loop-k.ceilings c.in-Err.code shape
    c.loop-k.invariant
    (slice_get_read c.args.entries.now _ c.loop-k.k c.index-entries-k.result refl c.loop-k-test.true
    c.index-entries-k.is) c.in-Err.ensures.fault

after : (c : goal.After-set) → c.set.new.self ≡ lowered_ceilings c.args.history.now.processes
    c.args.marks.now c.args.failed.now c.loop-k.ceilings c.index-entries-k.result.at
after c = cc

pub loop-k-preserved : goal.loop-k-preserved
loop-k-preserved c =
    subst (λ (line : List Choice). IsLed c.args.history.now.processes c.args.marks.now
    c.args.failed.now (take (c.loop-k.k + 1) c.args.entries.now) line) (sym (after c))
    (led-more c.args.history.now.processes c.args.marks.now c.args.failed.now c.args.entries.now
    c.loop-k.k c.loop-k.ceilings c.index-entries-k.result c.loop-k-test.true
    c.index-entries-k.is c.loop-k.invariant (c.in_default.ensures.right.0 refl))
