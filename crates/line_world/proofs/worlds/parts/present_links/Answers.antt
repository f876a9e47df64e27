-- The line is one where each process stands, and the links hold what is in transit there.
use Rattle.std.proofs.Common.{◌≡◌, ◌<◌, ℕ, List, length, map, replicate, sym, ap, ◌∙◌, subst}
use Rattle.line_names.specs.declared.choices.Choice.{Choice}
use Rattle.line_names.specs.declared.choices.Choice.TheVariants.{Now}
use Rattle.line_tape.specs.declared.items.Item.{Item}
use Rattle.line_tape.specs.declared.items.Item.TheVariants.{Message}
use Rattle.line_tape.specs.History.{Process}
use Rattle.line_tape.specs.Line.{IsLine}
use Rattle.line_tape.specs.Transit.{in_transit_between}
use Rattle.line_rounds.specs.Tables.{between}
use Rattle.line_moves.specs.Worlds.{AreQueues}
use Rattle.line_world.proofs.ResumeLemmas.{empty_queues, present_is, present_world}
use Rattle.line_world.proofs.worlds.parts.present_links.Goals as goal

pub transit-requires : goal.transit-requires
transit-requires c =
    let history : List Process = c.args.catalogue.now.processes in
    subst (IsLine history) (sym (c.present_line-line.ensures ∙ ap
    (λ (n : ℕ). replicate n Now) c.n-n.ensures.value)) (present_is history)

pub restart_links-requires-clause-queued : goal.restart_links-requires-clause-queued
restart_links-requires-clause-queued c =
    let history : List Process = c.args.catalogue.now.processes in
    subst (λ (h : List Process). AreQueues h c.in_ok-links.links) (sym c.history.ensures.processes)
    (subst (AreQueues history) (sym c.in_ok-links.ensures)
    (empty_queues history c.n-n.result c.n-n.ensures.value))

pub returns : goal.returns
returns c =
    let history : List Process = c.args.catalogue.now.processes in
    let queues : List (List (List Item)) = c.restart_links.new.links in
    let line_is : c.present_line-line.result ≡ replicate (length history) Now =
    c.present_line-line.ensures ∙ ap (λ (n : ℕ). replicate n Now) c.n-n.ensures.value in
    let told : (p q : ℕ) → p < length history → q < length history → between queues p q
    ≡ map (λ m. Message m) (in_transit_between history c.present_line-line.result p q) =
    subst (λ (h : List Process). (p q : ℕ) → p < length h → q < length h
    → between queues p q ≡ map (λ m. Message m) (in_transit_between h c.present_line-line.result
    p q)) c.history.ensures.processes c.in_ok-restart_links.ensures.put in
    present_world history queues c.requires.fit c.requires.received
    (subst (λ (h : List Process). AreQueues h queues) c.history.ensures.processes
    c.in_ok-restart_links.ensures.queued)
    (subst (λ (line : List Choice). (p q : ℕ) → p < length history → q < length history → between
    queues p q ≡ map (λ m. Message m) (in_transit_between history line p q)) line_is told)
