-- What was written is read again.
use Rattle.std.proofs.Common.{List, [], length, ap, ◌∙◌}
use Rattle.line_tape.specs.History.{Process}
use Rattle.line_claims.specs.Texts.{history_of_text}
use Rattle.line_claims.specs.Versions.{earliest_version}
use Rattle.line_claims.proofs.VersionLemmas.{earliest_has_room, earliest_is_checked}
use Rattle.line_claims.proofs.VersionLemmas.{earliest_is_early}
use Rattle.line_claims.proofs.WriteLemmas.{kept_text}
use Rattle.line_claims.proofs.WrittenLemmas.{none_in_range, text_again}
use Rattle.line_claims.proofs.kept.write_history.Goals as goal

pub returns-in-Ok-put_all-clause-text : goal.returns-in-Ok-put_all-clause-text
returns-in-Ok-put_all-clause-text c =
    let put = rw (
      c.in_ok-writer.ensures,
      c.earliest_version-version.ensures.value,
      c.n.ensures.value,
    ) at c.in-Ok.ensures.put.ok in
    c.into_bytes.ensures ∙ kept_text _ _ _ _ _ (ap (λ s. s.bytes) c.new-sink.ensures) put
    (rw c.text.ensures at c.in-Ok-put_all.ensures.ok)

pub returns-in-Ok-put_all-clause-again : goal.returns-in-Ok-put_all-clause-again
returns-in-Ok-put_all-clause-again c rounds =
    let put = rw (
      c.in_ok-writer.ensures,
      c.earliest_version-version.ensures.value,
      c.n.ensures.value,
    ) at c.in-Ok.ensures.put.ok in
    let text = c.into_bytes.ensures ∙ kept_text _ _ _ _ _ (ap (λ s. s.bytes) c.new-sink.ensures) put
    (rw c.text.ensures at c.in-Ok-put_all.ensures.ok) in
    let history : List Process = c.args.history.now.processes in
    let fit = c.in-Ok.ensures.range rounds in
    ap history_of_text text ∙ text_again (earliest_version (length history)) [] history
    (earliest_is_checked (length history))
    (none_in_range (earliest_version (length history)) (length history)
    (earliest_is_early (length history))) fit (earliest_has_room (length history) fit.few)
