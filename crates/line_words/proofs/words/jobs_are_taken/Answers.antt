-- Each command line, computed.
use Rattle.std.proofs.Common.{ap, arith, refl, Some}
use Rattle.clap.proofs.OnLiterals.{clap_on_literals}
use Rattle.line_words.proofs.words.jobs_are_taken.Goals as goal

pub returns-clause-run : goal.returns-clause-run
unfolding clap_on_literals
returns-clause-run c = (refl, refl)

pub returns-clause-serve : goal.returns-clause-serve
unfolding clap_on_literals
returns-clause-serve c = (refl, (refl, refl))

pub returns-clause-saved : goal.returns-clause-saved
unfolding clap_on_literals
returns-clause-saved c file is = (refl, (refl, ap Some is))

pub returns-clause-collect : goal.returns-clause-collect
unfolding clap_on_literals
returns-clause-collect c = (refl, refl)

pub returns-clause-check : goal.returns-clause-check
unfolding clap_on_literals
returns-clause-check c = (refl, refl)

pub returns-clause-drill : goal.returns-clause-drill
unfolding clap_on_literals
returns-clause-drill c = (
  refl,
  (
    refl,
    record {
      spelled = ((omega arith, (omega arith, tt)), refl);
      no_less = omega arith;
      no_more = omega arith;
    },
    record {
      spelled = ((omega arith, (omega arith, tt)), refl);
      no_less = omega arith;
      no_more = omega arith;
    },
  ),
)

pub returns-clause-both : goal.returns-clause-both
unfolding clap_on_literals
returns-clause-both c = (
  refl,
  (
    refl,
    record {
      spelled = ((omega arith, (omega arith, tt)), refl);
      no_less = omega arith;
      no_more = omega arith;
    },
    record {
      spelled = ((omega arith, (omega arith, tt)), refl);
      no_less = omega arith;
      no_more = omega arith;
    },
  ),
)

pub returns-clause-workers : goal.returns-clause-workers
unfolding clap_on_literals
returns-clause-workers c = (
  refl,
  (
    refl,
    record {
      spelled = ((omega arith, (omega arith, (omega arith, tt))), refl);
      no_less = omega arith;
      no_more = omega arith;
    },
    record {
      spelled = ((omega arith, (omega arith, tt)), refl);
      no_less = omega arith;
      no_more = omega arith;
    },
  ),
)

pub returns-clause-rounds : goal.returns-clause-rounds
unfolding clap_on_literals
returns-clause-rounds c = (
  refl,
  (
    refl,
    record {
      spelled = ((omega arith, (omega arith, tt)), refl);
      no_less = omega arith;
      no_more = omega arith;
    },
    record {
      spelled =
          ((omega arith, (omega arith, (omega arith, (omega arith, (omega arith, tt))))), refl);
      no_less = omega arith;
      no_more = omega arith;
    },
  ),
)
