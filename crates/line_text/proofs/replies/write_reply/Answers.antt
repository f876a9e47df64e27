use Rattle.std.proofs.Common.{ap, ◌∙◌}
use Rattle.line_claims.proofs.WriteLemmas.{kept_text}
use Rattle.line_text.proofs.replies.write_reply.Goals as goal

pub returns : goal.returns
returns c =
    let put = rw c.in_ok-writer.ensures at c.in-Ok.ensures.ok in
    c.into_bytes.ensures ∙ kept_text _ _ _ _ _ (ap (λ s. s.bytes) c.new-sink.ensures) put
    (rw c.text.ensures at c.in-Ok-put_all.ensures.ok)
