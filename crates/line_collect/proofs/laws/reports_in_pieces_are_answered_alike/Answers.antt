use Rattle.line_text.proofs.PieceLemmas.{in_pieces, of_pieces}
use Rattle.line_collect.specs.Collecting.{collect_rules}
use Rattle.line_collect.proofs.laws.reports_in_pieces_are_answered_alike.Goals as goal

pub returns : goal.returns
returns c old new bytes more answers = (
  in_pieces collect_rules old new bytes more answers,
  of_pieces collect_rules old new bytes more answers,
)
