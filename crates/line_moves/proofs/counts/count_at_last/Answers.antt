-- What is in transit at a line, found at the last of the rounds or counted anew.
use Rattle.std.proofs.Common.{◌≡◌, List, sym, ap, ◌∙◌, subst}
use Rattle.line_names.specs.declared.choices.Choice.{Choice}
use Rattle.line_tape.specs.History.{Process}
use Rattle.line_tape.specs.Line.{IsLine}
use Rattle.line_tape.specs.Transit.{in_transit}
use Rattle.line_rounds.specs.Channels.{channels_at}
use Rattle.line_rounds.proofs.CompletedLemmas.{IsLine-last}
use Rattle.line_moves.specs.Openings.{AreInTransit}
use Rattle.line_moves.proofs.TurnFacts.{channels_found}
use Rattle.line_moves.proofs.counts.count_at_last.Goals as goal

pub is_still_at-requires-clause-line : goal.is_still_at-requires-clause-line
is_still_at-requires-clause-line c =
    subst (λ (h : List Process). IsLine h c.line-line.result) (sym c.history.ensures.processes)
    (IsLine-last c.args.catalogue.now.processes c.args.turning.now c.args.at c.line-line.result
    c.requires.at c.requires.turning c.line-line.ensures c.requires.others)

pub keep_transit-requires-clause-line : goal.keep_transit-requires-clause-line
keep_transit-requires-clause-line c =
    IsLine-last c.args.catalogue.now.processes c.args.turning.now c.args.at c.line-line.result
    c.requires.at c.requires.turning c.line-line.ensures c.requires.others

pub transit-requires : goal.transit-requires
transit-requires c =
    IsLine-last c.args.catalogue.now.processes c.args.turning.now c.args.at c.line-line.result
    c.requires.at c.requires.turning c.line-line.ensures c.requires.others

pub returns-clause-channels : goal.returns-clause-channels
returns-clause-channels c =
    let history : List Process = c.args.catalogue.now.processes in
    let line : List Choice = c.line-line.result in
    let found : c.deref.result.now ≡ in_transit c.history-2.result.now.processes line =
    c.deref.ensures.value ∙ c.in_ok-messages.ensures ∙ ap (λ (h : List Process). in_transit h line)
    (sym c.history-2.ensures.processes) in
    let held : c.in_ok-held.held ≡ channels_at history line =
    c.in_ok-held.ensures.transit line found ∙ ap
    (λ (h : List Process). channels_at h line) c.history-2.ensures.processes in
    record {
      line = line;
      last = c.line-line.ensures;
      counted = subst (AreInTransit history line) (sym (c.in_ok-channels.ensures ∙ held))
          (channels_found history line);
    }
