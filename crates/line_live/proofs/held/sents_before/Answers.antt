use Rattle.std.proofs.Common.{◌<◌, List, length, sym, ◌∙◌, arith}
use Rattle.std.proofs.lemmas.List.{ext_get_or}
use Rattle.line_names.specs.declared.choices.Choice.{Choice}
use Rattle.line_tape.specs.History.{Process}
use Rattle.line_vectors.specs.Reach.{sents_of}
use Rattle.line_vectors.proofs.ReachLemmas.{sents-at}
use Rattle.line_vectors.proofs.ReachLemmas.{length-sents}
use Rattle.line_live.proofs.held.sents_before.Goals as goal

pub returns : goal.returns
returns c =
    let history : List Process = c.args.catalogue.now.processes in
    let line : List Choice = c.args.line.now in
    ext_get_or 0 c.loop-q.sent (sents_of history line)
    (c.loop-q.invariant.count ∙ sym (length-sents history line)) (λ p h.
    let within : p < length history = omega (arith, h, c.loop-q.invariant.count) in
    c.loop-q.invariant.each p (omega (arith, within, c.loop-q-test.false, c.n-n.ensures.value)) ∙
    sym (sents-at history line p 0 within))
