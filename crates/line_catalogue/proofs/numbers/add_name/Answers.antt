-- To the row of its sender, if there is one.
use Rattle.std.proofs.Common.{◌≡◌, ◌<◌, ◌++◌, ◌∷◌, [], List, ℕ, length, get_or, set, sym, ap, ◌∙◌}
use Rattle.std.proofs.Common.{subst, arith}
use Rattle.line_names.specs.declared.messages.MsgName.{MsgName}
use Rattle.line_catalogue.specs.Left.{AreIn}
use Rattle.line_catalogue.proofs.NumberLemmas.{in-add}
use Rattle.line_catalogue.proofs.numbers.add_name.Goals as goal

pub returns-in_ok-add-clause-added : goal.returns-in_ok-add-clause-added
returns-in_ok-add-clause-added c = λ names held.
    let m : MsgName = c.args.message.now in
    let rows : List (List ℕ) = c.args.rows.now.items in
    let row : List ℕ = c.index_mut.result.now in
    let at : c.get-p.result ≡ m.from = c.get-p.ensures.value in
    let is : row
    ≡ get_or rows m.from row = c.index_mut.ensures.value ∙ ap (λ k. get_or rows k row) at in
    let inside : m.from < length rows = omega
    (arith, at, c.if-p-len.true, c.len.ensures, c.args.rows.now.ok.0) in
    let ends : List ℕ = c.args.ends.now in
    let new : AreIn (names ++ m ∷ []) ends
    (set rows m.from (row ++ m.number ∷ [])) = in-add names m ends rows row is inside held in
    subst (λ k. AreIn (names ++ m ∷ []) ends (set rows k c.add.new.self)) (sym at) (subst (λ (r :
    List ℕ). AreIn (names ++ m ∷ []) ends (set rows m.from r)) (sym c.in_ok-add.ensures) new)
