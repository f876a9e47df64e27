use Rattle.std.proofs.Common.{◌∙◌, sym}
use Rattle.line_scripts.proofs.RunScriptLemmas.{read_by_first, read_by_none, read_of_none}
use Rattle.line_scripts.proofs.scripts.begins_saved.Goals as goal

pub returns-then-not-is_plain : goal.returns-then-not-is_plain
returns-then-not-is_plain c = read_by_none _ (sym c.is_plain.ensures ∙ c.if-not-is_plain.true)

pub returns-then-not-branch : goal.returns-then-not-branch
returns-then-not-branch c =
    let none = rw c.if-not-branch.true at c.in_ok-next_row.ensures.ok in
    read_of_none _ (sym c.is_plain.ensures ∙ c.if-not-is_plain.false)
    (sym c.open-records.ensures.records ∙ none.0)

pub returns : goal.returns
returns c =
    let row = rw c.if-not-branch.false at c.in_ok-next_row.ensures.ok in
    read_by_first _ _ _ c.eq.result (sym c.is_plain.ensures ∙ c.if-not-is_plain.false)
    (sym c.open-records.ensures.records ∙ row)
    (rw (c.field.ensures, c.as_slice.ensures) at c.eq.ensures)
