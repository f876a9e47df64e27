use Rattle.std.proofs.Common.{◌-◌, arith, length}
use Rattle.line_text.proofs.AllowedLemmas.{line_alone, line_empty, line_returned}
use Rattle.line_text.proofs.lines.without_return.Goals as goal

pub returns-then-len-eq0-clause-allowed : goal.returns-then-len-eq0-clause-allowed
returns-then-len-eq0-clause-allowed c = (line_empty _ c.if-len-eq0.true).0

pub returns-then-len-eq0-clause-same : goal.returns-then-len-eq0-clause-same
returns-then-len-eq0-clause-same c = (line_empty _ c.if-len-eq0.true).1

pub returns-then-line-last-ne13-clause-allowed : goal.returns-then-line-last-ne13-clause-allowed
returns-then-line-last-ne13-clause-allowed c = (line_alone c.args.line.now
    (length c.args.line.now - 1) c.requires (omega arith) c.if-line-last-ne13.true).0

pub returns-then-line-last-ne13-clause-same : goal.returns-then-line-last-ne13-clause-same
returns-then-line-last-ne13-clause-same c = (line_alone c.args.line.now
    (length c.args.line.now - 1) c.requires (omega arith) c.if-line-last-ne13.true).1

pub returns-clause-allowed : goal.returns-clause-allowed
returns-clause-allowed c = (line_returned c.args.line.now (length c.args.line.now - 1) c.requires
    (omega arith) c.if-line-last-ne13.false).0

pub returns-clause-same : goal.returns-clause-same
returns-clause-same c = (line_returned c.args.line.now (length c.args.line.now - 1) c.requires
    (omega arith) c.if-line-last-ne13.false).1
