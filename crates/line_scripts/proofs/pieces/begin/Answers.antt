use Rattle.std.proofs.Common.{◌∙◌, ◌++◌, [], List, ap, sym}
use Rattle.line_fields.specs.Records.{Record}
use Rattle.line_scripts.specs.declared.commands.Command.{Command}
use Rattle.line_scripts.specs.Beginnings.{taken_of}
use Rattle.line_scripts.specs.Pieces.{script_left}
use Rattle.line_scripts.proofs.PieceLemmas.{err_after, kept_not, kept_on, ok_after}
use Rattle.line_scripts.proofs.pieces.begin.Goals as goal

pub returns-in-Some-clause-ok : goal.returns-in-Some-clause-ok
returns-in-Some-clause-ok c =
    let row = rw c.if-branch.true at c.in_ok-next_row.ensures.ok in
    ok_after c.keep_all.result _ _ _
    (λ rest. ap (λ (cs : List Command). script_left (taken_of c.args.beginning.now cs)
    (c.args.records.now ++ rest)) c.requires.none
    ∙ c.records.invariant.same rest
    ∙ ap (λ (rs : List Record). script_left (taken_of c.records.beginning []) (rs ++ rest)) row
    ∙ c.in_ok-take_before.ensures.exact (c.next_row.new.self ++ rest)
    ∙ ap (λ (cs : List Command). script_left (taken_of c.take_before.new.beginning cs)
    (c.next_row.new.self ++ rest)) (sym c.records.invariant.none))
    (kept_on c.take_before.new.beginning (c.in-Some.n, c.in-Some.first) c.keep_all.result _ _ _
    c.in-Some.ensures.some c.keep_all.ensures)

pub returns-in-Some-clause-err : goal.returns-in-Some-clause-err
returns-in-Some-clause-err c =
    let row = rw c.if-branch.true at c.in_ok-next_row.ensures.ok in
    err_after c.keep_all.result _ _
    (λ rest. ap (λ (cs : List Command). script_left (taken_of c.args.beginning.now cs)
    (c.args.records.now ++ rest)) c.requires.none
    ∙ c.records.invariant.same rest
    ∙ ap (λ (rs : List Record). script_left (taken_of c.records.beginning []) (rs ++ rest)) row
    ∙ c.in_ok-take_before.ensures.exact (c.next_row.new.self ++ rest)
    ∙ ap (λ (cs : List Command). script_left (taken_of c.take_before.new.beginning cs)
    (c.next_row.new.self ++ rest)) (sym c.records.invariant.none))
    (kept_not c.take_before.new.beginning (c.in-Some.n, c.in-Some.first) c.keep_all.result _ _ _
    c.in-Some.ensures.some c.keep_all.ensures)
