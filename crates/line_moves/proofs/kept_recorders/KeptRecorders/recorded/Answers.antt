-- Markers ascend, so one of the process is the only one of it, wherever it stands.
use Rattle.std.proofs.Common.{◌≡◌, List, sym, ap, ◌∙◌, subst, arith}
use Rattle.line_rounds.specs.Recording.{MarkerView}
use Rattle.line_moves.specs.Openings.{kept_channel, AreByProcess}
use Rattle.line_moves.proofs.KeptMarkers.{found_here, told}
use Rattle.line_moves.proofs.kept_recorders.KeptRecorders.recorded.Goals as goal

pub returns-then-get : goal.returns-then-get
returns-then-get c =
    let markers : List MarkerView = c.deref.result.now in
    let own : MarkerView = c.in-Some.own.now in
    let is : markers ≡ c.args.self.now = c.deref.ensures.value ∙ c.self.view_is in
    let found = c.in-Some.ensures.lookup.3 in
    let same : own.me ≡ c.args.to = omega (
      arith,
      c.if-get.true,
      c.get-in-Some.ensures.value,
      c.get-in-Some-2.ensures.value,
      c.me.ensures,
    ) in
    c.names.ensures
    ∙ sym (ap (told c.args.round c.args.from c.args.to) (found_here markers _ c.args.to own
    (subst AreByProcess (sym is) c.requires.ascend) found.0 (found.1 own) same))
    ∙ ap (λ (ms : List MarkerView). kept_channel ms c.args.round c.args.from c.args.to) is
