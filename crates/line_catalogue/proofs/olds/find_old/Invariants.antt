use Rattle.std.proofs.Common.{◌≡◌, ◌<◌, ℕ, true, drop}
use Rattle.std.specs.List.{Contains}
use Rattle.line_names.specs.declared.messages.MsgName.{MsgName}
use Rattle.line_names.specs.Sets.{is_member}
use Rattle.line_tape.specs.declared.events.Event.TheVariants.{Recv}
use Rattle.line_tape.specs.Line.{events_before}
use Rattle.line_catalogue.specs.Left.{place_at, start_at}
use Rattle.line_catalogue.proofs.olds.find_old.Given as goal

abbrev pub invariant-loop-q : goal.invariant-loop-q
invariant-loop-q l = (q : ℕ) (m : MsgName) → q < l.q
    → Contains (drop (place_at l.kept.places.now q) (events_before l.history.processes l.line q))
    (Recv m) → m.number < start_at l.known.bases.items m.from → is_member l.senders m.from ≡ true
