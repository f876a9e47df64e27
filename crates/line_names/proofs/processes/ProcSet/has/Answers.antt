use Rattle.std.proofs.Common.{◌%◌, ◌/◌, get_or, sym, ap, ◌∙◌}
use Rattle.std.specs.Prelude.{◌==◌}
use Rattle.std.proofs.lemmas.Nat.Bits.{shr_and_one}
use Rattle.line_names.specs.Sets.{is_member}
use Rattle.line_names.proofs.BitLemmas.{is_member_at}
use Rattle.line_names.proofs.processes.ProcSet.has.Goals as goal

pub returns : goal.returns
returns c =
    let words = c.self.inside.words in
    ap (λ b. b == 1) (shr_and_one (get_or words (c.get-p.result / 64) 0) (c.get-p.result % 64))
    ∙ sym (is_member_at words c.get-p.result c.get-p.ensures.few)
    ∙ ap (λ set. is_member set c.get-p.result) c.self.view_is ∙ ap
    (λ p. is_member c.args.self.now p) c.get-p.ensures.value
