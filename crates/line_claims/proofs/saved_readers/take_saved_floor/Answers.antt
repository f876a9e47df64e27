use Rattle.std.proofs.Common.{◌<◌, ◌≤◌, length, arith}
use Rattle.std.proofs.lemmas.Result.{err_from_is_err_and}
use Rattle.line_claims.specs.SavedReadings.{saved_view}
use Rattle.line_claims.proofs.ReadingLemmas.{goes_by}
use Rattle.line_claims.proofs.SavedLemmas.{let_go_behind, let_go_ends, let_go_fails}
use Rattle.line_claims.proofs.saved_readers.take_saved_floor.Goals as goal

pub returns-then-len-n-clause-exact : goal.returns-then-len-n-clause-exact
returns-then-len-n-clause-exact c =
    let all : length c.args.begun.now.text.history.processes ≤ length
    c.args.begun.now.text.floors.items = omega (arith, c.n-n.ensures.value) in
    rw c.requires.stage
    (goes_by c.take_saved_tape.result _ _ _ _ (λ rest. let_go_ends _ c.args.begun.now.tapes
    (saved_view c.args.begun.now.text) _ _ all) c.take_saved_tape.ensures.exact)

pub returns-in_err-take_floor-clause-exact : goal.returns-in_err-take_floor-clause-exact
returns-in_err-take_floor-clause-exact c =
    let passed_on = err_from_is_err_and c.from_residual.result c.from_residual.ensures.1 in
    let more : length c.args.begun.now.text.floors.items < length
    c.args.begun.now.text.history.processes = omega (arith, c.n-n.ensures.value) in
    rw (c.requires.stage, passed_on.1, passed_on.2)
    (λ rest. let_go_fails _ _ c.args.begun.now.tapes (saved_view c.args.begun.now.text) _ _ rest
    more (λ others. c.in_err-take_floor.ensures.exact others rest))

pub returns-clause-exact : goal.returns-clause-exact
returns-clause-exact c =
    let more : length c.args.begun.now.text.floors.items < length
    c.args.begun.now.text.history.processes = omega (arith, c.n-n.ensures.value) in
    rw c.requires.stage
    (λ rest. let_go_behind _ c.args.begun.now.tapes
    (saved_view c.args.begun.now.text) _ _ _ rest more c.in_ok-take_floor.ensures.more
    (λ others. c.in_ok-take_floor.ensures.exact others rest))
