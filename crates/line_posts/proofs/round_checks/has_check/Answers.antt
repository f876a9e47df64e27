use Rattle.std.proofs.Common.{sym, ◌∙◌}
use Rattle.line_tape.specs.Shown.{event_of_ref}
use Rattle.line_posts.proofs.ScanLemmas.{some_there, none_more}
use Rattle.line_posts.proofs.round_checks.has_check.Goals as goal

pub returns-then-is_check : goal.returns-then-is_check
returns-then-is_check c = sym (some_there c.args.tape.now.events c.args.r c.loop-i.i
    (event_of_ref c.event.result) c.event.ensures (sym c.is_check.ensures ∙ c.if-is_check.true))

pub loop-i-preserved : goal.loop-i-preserved
loop-i-preserved c = none_more c.args.tape.now.events c.args.r c.loop-i.i
    (event_of_ref c.event.result) c.event.ensures
    (sym c.is_check.ensures ∙ c.if-is_check.false) c.loop-i.invariant
