use Rattle.std.proofs.Common.{arith}
use Rattle.line_names.proofs.BitLemmas.{none_from}
use Rattle.line_names.proofs.processes.bits_from.Goals as goal

pub returns-then-i-lt64 : goal.returns-then-i-lt64
returns-then-i-lt64 c = none_from c.args.word c.args.i c.ranges.word.fits (omega arith)
