use Rattle.std.proofs.Common.{◌≡◌, ◌∙◌, [], ap, inl, refl, sym}
use Rattle.std.proofs.lemmas.List.{append-nil}
use Rattle.line_claims.specs.Readings.{text_left}
use Rattle.line_claims.specs.Texts.{check_of_text}
use Rattle.line_claims.proofs.FaultLemmas.{check_text_faults, reads_codes}
use Rattle.line_claims.proofs.texts.read_check_text.Goals as goal

pub returns-in-Ok-clause-codes : goal.returns-in-Ok-clause-codes
returns-in-Ok-clause-codes c =
    let same : text_left _ [] ≡ check_of_text c.args.text.now = sym (c.in-Ok.ensures [] (inl refl))
    ∙ ap (text_left _) (append-nil c.args.text.now) ∙ c.new-reader.ensures c.args.text.now in
    reads_codes _ c.into_check.result _ (check_text_faults c.args.text.now)
    (rw same at c.into_check.ensures)
