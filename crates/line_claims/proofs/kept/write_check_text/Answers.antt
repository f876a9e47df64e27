use Rattle.std.proofs.Common.{◌∙◌, ap}
use Rattle.line_claims.proofs.WriteLemmas.{kept_text}
use Rattle.line_claims.proofs.kept.write_check_text.Goals as goal

pub returns-in-Ok-put_all : goal.returns-in-Ok-put_all
returns-in-Ok-put_all c =
    let put = rw c.in_ok-writer.ensures at c.in-Ok.ensures.ok in
    c.into_bytes.ensures ∙ kept_text _ _ _ _ _ (ap (λ s. s.bytes) c.new-sink.ensures) put
    (rw c.text.ensures at c.in-Ok-put_all.ensures.ok)
