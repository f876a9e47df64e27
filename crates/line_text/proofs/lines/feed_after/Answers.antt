use Rattle.line_text.proofs.PlainLemmas.{allowed_to, bare_behind, bare_here, first_behind}
use Rattle.line_text.proofs.PlainLemmas.{first_here}
use Rattle.line_text.proofs.lines.feed_after.Goals as goal

pub returns-then-text-end-eq13-clause-feed : goal.returns-then-text-end-eq13-clause-feed
returns-then-text-end-eq13-clause-feed c =
    first_behind _ _ c.requires.input c.requires.line c.requires.within c.if-text-end-eq13.true

pub returns-then-text-end-eq13-clause-allowed : goal.returns-then-text-end-eq13-clause-allowed
returns-then-text-end-eq13-clause-allowed c = (allowed_to _ _ c.requires.input
    (first_behind _ _ c.requires.input c.requires.line c.requires.within c.if-text-end-eq13.true)).0

pub returns-then-text-end-eq13-clause-bare : goal.returns-then-text-end-eq13-clause-bare
returns-then-text-end-eq13-clause-bare c =
    bare_behind _ _ c.requires.input c.requires.line c.requires.within c.if-text-end-eq13.true

pub returns-clause-feed : goal.returns-clause-feed
returns-clause-feed c =
    first_here _ _ c.requires.input c.requires.line c.requires.within c.if-text-end-eq13.false

pub returns-clause-allowed : goal.returns-clause-allowed
returns-clause-allowed c = (allowed_to _ _ c.requires.input
    (first_here _ _ c.requires.input c.requires.line c.requires.within c.if-text-end-eq13.false)).0

pub returns-clause-bare : goal.returns-clause-bare
returns-clause-bare c = bare_here _ _ c.requires.input c.requires.line c.requires.within
