-- What is in transit of all its sends, or of the first ones.
use Rattle.std.proofs.Common.{◌≡◌, ◌++◌, ℕ, List, length, take, sym, ap, ◌∙◌, arith}
use Rattle.std.proofs.lemmas.List.{append_assoc, take_at}
use Rattle.line_names.specs.declared.choices.Choice.{Choice}
use Rattle.line_names.specs.declared.messages.MsgName.{MsgName}
use Rattle.line_tape.specs.History.{Process}
use Rattle.line_catalogue.specs.Left.{open_first}
use Rattle.line_catalogue.proofs.OpenLemmas.{open-front}
use Rattle.line_catalogue.proofs.settlings.settle_sender.Goals as goal

pub returns-then-looked-sends-clause-left : goal.returns-then-looked-sends-clause-left
returns-then-looked-sends-clause-left c =
    c.in_ok-looked.ensures.found c.args.messages.now.items c.in_ok-add_first.ensures ∙ ap
    (λ (k : ℕ). c.args.messages.now.items ++ open_first c.args.history.now.processes
    c.args.line.now c.args.sender.now.p k) c.if-looked-sends.true

pub returns-clause-left : goal.returns-clause-left
returns-clause-left c =
    let history : List Process = c.args.history.now.processes in
    let line : List Choice = c.args.line.now in
    let p : ℕ = c.args.sender.now.p in
    let old : List MsgName = c.args.messages.now.items in
    let first : List MsgName = old ++ open_first history line p c.args.sender.now.end in
    let front = open-front history line p c.args.sender.now.end c.in_ok-looked.looked
    c.in_ok-looked.ensures.since in
    let whole : c.add_since.new.messages.items
    ≡ first ++ front.0 = c.in_ok-looked.ensures.found old c.in_ok-add_first.ensures ∙ ap
    (λ (xs : List MsgName). old ++ xs) front.1 ∙ sym
    (append_assoc old (open_first history line p c.args.sender.now.end) front.0) in
    let count : length first
    ≡ c.len-first.result = omega (
      arith,
      c.len-first.ensures,
      c.add_first.new.messages.ok.0,
      ap
          (λ (xs : List MsgName). length xs) c.in_ok-add_first.ensures,
    ) in
    c.truncate.ensures.items ∙ ap
    (take c.len-first.result) whole ∙ take_at first front.0 c.len-first.result count
