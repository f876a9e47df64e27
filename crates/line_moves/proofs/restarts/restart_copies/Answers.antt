-- What goes between two processes, of all that is in transit, is in transit between them.
use Rattle.std.proofs.Common.{◌≡◌, ◌++◌, Bool, List, filter, map, ap, ◌∙◌}
use Rattle.line_names.specs.declared.choices.Choice.{Choice}
use Rattle.line_names.specs.declared.messages.MsgName.{MsgName}
use Rattle.line_tape.specs.declared.items.Item.{Item}
use Rattle.line_tape.specs.declared.items.Item.TheVariants.{Message}
use Rattle.line_tape.specs.History.{Process}
use Rattle.line_tape.specs.Transit.{goes_between}
use Rattle.line_laws.proofs.LetterLemmas.{open_are, parts}
use Rattle.line_rounds.specs.Tables.{between}
use Rattle.line_moves.specs.Rooms.{items_held}
use Rattle.line_moves.proofs.restarts.restart_copies.Goals as goal

pub returns-clause-put : goal.returns-clause-put
returns-clause-put c = λ p q p_within q_within.
    let history : List Process = c.args.history.now.processes in
    let line : List Choice = c.args._line.now in
    let goes : MsgName → Bool = goes_between history p q in
    let shown : List MsgName → List Item = λ ms. map (λ m. Message m) (filter goes ms) in
    let held : List (List (List Item)) → List Item = λ links. between links p q in
    let same : map items_held c.count_messages.new.rows.items ≡ c.args.links.now =
    c.in_ok-count_messages.ensures.same ∙ c.count_none.ensures.same ∙ c.links.view_is in
    c.put_messages.ensures.put p q p_within q_within
    ∙ ap (λ (items : List Item). items ++ shown c.args.copies.now) (ap held same)
    ∙ ap (λ (ms : List MsgName). held c.args.links.now ++ shown ms) c.requires.transit
    ∙ ap (λ (ms : List MsgName). held c.args.links.now ++ map (λ m. Message m) ms)
    (parts history line history (open_are history line) p q)
