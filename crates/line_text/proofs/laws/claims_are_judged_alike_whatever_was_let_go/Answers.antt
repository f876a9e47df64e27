use Rattle.std.proofs.Common.{refl, arith}
use Rattle.line_claims.proofs.ClaimWrittenLemmas.{check_text_again}
use Rattle.line_text.proofs.LawLemmas.{judged_the_same}
use Rattle.line_text.proofs.laws.claims_are_judged_alike_whatever_was_let_go.Goals as goal

pub returns : goal.returns
returns c version later floors others history claim verdict old new known also room space fit told
    heard good well same =
    let first = check_text_again version floors history claim known
    (omega (arith, room, same)) fit told good same in
    let second = check_text_again later others history claim also
    (omega (arith, space, same)) fit heard well same in (
      judged_the_same _ _ _ _ verdict old new first second refl refl,
      judged_the_same _ _ _ _ verdict
          old new second first refl refl,
    )
