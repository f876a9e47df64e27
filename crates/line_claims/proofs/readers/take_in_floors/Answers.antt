use Rattle.std.proofs.Common.{◌<◌, ◌≤◌, refl, length, arith}
use Rattle.std.proofs.lemmas.Result.{err_from_is_err_and}
use Rattle.line_claims.specs.Texts.{check_view}
use Rattle.line_claims.proofs.PlaceLemmas.{floor_behind, floor_fails, floors_behind}
use Rattle.line_claims.proofs.ReadingLemmas.{goes_by}
use Rattle.line_claims.proofs.readers.take_in_floors.Goals as goal

pub returns-then-len-n-clause-exact : goal.returns-then-len-n-clause-exact
returns-then-len-n-clause-exact c =
    let all : length c.args.begun.now.text.history.processes ≤ length
    c.args.begun.now.text.floors.items = omega (arith, c.n-n.ensures.value) in
    rw c.requires.stage
    (goes_by c.take_in_tapes.result _ _ _ _ (λ rest. floors_behind _ _ c.args.begun.now.tapes
    (check_view c.args.begun.now.text) _ _ all) c.take_in_tapes.ensures.exact)

pub returns-in_err-take_floor-clause-exact : goal.returns-in_err-take_floor-clause-exact
returns-in_err-take_floor-clause-exact c =
    let passed_on = err_from_is_err_and c.from_residual.result c.from_residual.ensures.1 in
    let more : length c.args.begun.now.text.floors.items < length
    c.args.begun.now.text.history.processes = omega (arith, c.n-n.ensures.value) in
    rw (c.requires.stage, passed_on.1, passed_on.2)
    (λ rest. floor_fails _ _ _ c.args.begun.now.tapes (check_view c.args.begun.now.text) _ _
    rest more (λ others. c.in_err-take_floor.ensures.exact others rest))

pub returns-clause-exact : goal.returns-clause-exact
returns-clause-exact c =
    let more : length c.args.begun.now.text.floors.items < length
    c.args.begun.now.text.history.processes = omega (arith, c.n-n.ensures.value) in
    rw c.requires.stage
    (λ rest. floor_behind _ _ c.args.begun.now.tapes
    (check_view c.args.begun.now.text) _ _ _ rest more c.in_ok-take_floor.ensures.more refl refl
    (λ others. c.in_ok-take_floor.ensures.exact others rest))
