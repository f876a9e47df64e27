use Rattle.std.proofs.Common.{arith}
use Rattle.line_claims.proofs.ClaimWrittenLemmas.{check_text_again, claim_text_again}
use Rattle.line_claims.proofs.LaterLemmas.{later_reads_the_same}
use Rattle.line_claims.proofs.laws.claims_are_read_again.Goals as goal

pub returns-clause-alone : goal.returns-clause-alone
returns-clause-alone c version claim fit = claim_text_again version claim fit

pub returns-clause-both : goal.returns-clause-both
returns-clause-both c version floors history claim known room fit told good same = check_text_again
    version floors history claim known (omega (arith, room, same)) fit told good same

pub returns-clause-later : goal.returns-clause-later
returns-clause-later c n text claim h = later_reads_the_same n text claim h
