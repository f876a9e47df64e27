-- No mark is on a later check than the last key.
use Rattle.line_tape.proofs.MarkedLemmas.{keys_up_to}
use Rattle.line_tape.proofs.marks.greatest.Goals as goal

pub returns-in-Some-clause-greatest : goal.returns-in-Some-clause-greatest
returns-in-Some-clause-greatest c =
    keys_up_to c.in-Some.check.now c.args.numbers.now.entries c.in-Some.ensures.all_up_to
