use Rattle.std.proofs.Common.{◌≡◌, map, take}
use Rattle.std.specs.List.{All}
use Rattle.line_live.specs.Resumed.{resumed_round, IsConsistentRound}
use Rattle.line_live.proofs.resumed.resumed_listing.Given as goal

abbrev pub invariant-loop-round : goal.invariant-loop-round
invariant-loop-round l = record {
  same : l.catalogue ≡ l.fn.catalogue;
  rounds : l.listing.items
      ≡ map (resumed_round l.fn.catalogue.processes) (take l.round-index l.rounds);
  consistent : All (IsConsistentRound l.fn.catalogue.processes) (take l.round-index l.rounds);
}
