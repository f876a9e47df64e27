use Rattle.line_text.proofs.PieceLemmas.{in_pieces, of_pieces}
use Rattle.line_service.specs.Services.{service_rules}
use Rattle.line_service.proofs.laws.pieces_are_answered_alike.Goals as goal

pub returns : goal.returns
returns c old new bytes more answers = (
  in_pieces service_rules old new bytes more answers,
  of_pieces service_rules old new bytes more answers,
)
