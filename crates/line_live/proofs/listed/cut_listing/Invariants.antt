use Rattle.std.proofs.Common.{◌≡◌, map, take}
use Rattle.std.specs.List.{filter}
use Rattle.line_live.specs.CutMachines.{cut_listed, is_listed_on}
use Rattle.line_live.proofs.listed.cut_listing.Given as goal

abbrev pub invariant-loop-round : goal.invariant-loop-round
invariant-loop-round l = l.cut.items
    ≡ map (cut_listed l.floor) (filter (is_listed_on l.floor) (take l.round-index l.rounds))
