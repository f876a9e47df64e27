-- Nothing was done yet.
use Rattle.std.proofs.Common.{ℕ, List, [], None, replicate, sym, ap, ◌∙◌, subst}
use Rattle.line_names.specs.declared.messages.MsgName.{MsgName}
use Rattle.line_tape.specs.declared.items.Item.{Item}
use Rattle.line_tape.specs.History.{Process, fresh}
use Rattle.line_tape.specs.Views.{MarksView, no_marks}
use Rattle.line_tape.specs.declared.modes.Mode.{Mode}
use Rattle.line_moves.specs.Listed.{ListedRound}
use Rattle.line_moves.specs.Worlds.{AreRounds, IsWorld}
use Rattle.line_world.proofs.KnownFacts.{kept_with}
use Rattle.line_world.proofs.StartLemmas.{copies-start, AreRounds-start, IsWorld-start}
use Rattle.line_world.proofs.SeenLemmas.{seen}
use Rattle.line_world.specs.Machine.{Machine}
use Rattle.line_world.proofs.worlds.World.new.Goals as goal

-- no copies are on the links
pub returns-clause-ok : goal.returns-clause-ok
returns-clause-ok c =
    let n : ℕ = c.args.n in
    let mode : Mode = c.args.mode in
    let history : List Process = replicate n fresh in
    let rounds : List ListedRound = c.new-4.result.items in
    let links : List (List (List Item)) = c.in_ok-links.links in
    let marks : MarksView = no_marks n in
    ap (λ (m : Mode). seen m c.in_ok-catalogue.catalogue.processes c.in_ok-catalogue.catalogue.marks
    0 rounds links) c.in_ok-protocol.ensures.mode
    ∙ ap (λ (h : List Process). seen mode h c.in_ok-catalogue.catalogue.marks 0 rounds links)
    c.in_ok-catalogue.ensures.processes
    ∙ ap (λ (v : MarksView). seen mode history v 0 rounds links) c.in_ok-catalogue.ensures.marks
    ∙ ap (λ (ls : List ListedRound). seen mode history marks 0 ls links) c.new-4.ensures
    ∙ ap (λ (queues : List (List (List Item))). seen mode history marks 0 [] queues)
    c.in_ok-links.ensures
    ∙ ap (λ (copies : List (List (List MsgName))). let m : Machine = record {
      mode = mode;
      history = history;
      marks = marks;
      last_round = 0;
      rounds = [];
      copies =
          copies;
    } in m) (copies-start n mode)

pub invariant_of-result : goal.invariant_of-result
invariant_of-result c =
    let n : ℕ = c.args.n in
    let mode : Mode = c.args.mode in
    kept_with mode None c.in_ok-protocol.protocol c.in_ok-protocol.ensures.mode
    c.in_ok-protocol.ensures.closed c.in_ok-catalogue.catalogue.processes (replicate n fresh)
    c.in_ok-catalogue.ensures.processes c.in_ok-links.links 0 c.new-4.result.items
    (subst (λ (q : List (List (List Item))). IsWorld mode (replicate n fresh) q)
    (sym c.in_ok-links.ensures) (IsWorld-start n mode))
    (subst (λ (rounds : List ListedRound). AreRounds mode (replicate n fresh) 0 None rounds)
    (sym c.new-4.ensures) (AreRounds-start n mode))
    c.in_ok-protocol.ensures.following
