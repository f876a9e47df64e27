use Rattle.line_text.proofs.JudgeLemmas.{code_is}
use Rattle.line_text.proofs.judgings.code_of.Goals as goal

pub returns : goal.returns
returns c =
    let told = c.code.ensures in
    code_is _ _ told.top told.received told.orphan told.differs told.consistent told.shape
    told.state told.incarnation told.transit told.send told.repeated told.missing
