-- What is kept then is what is left of the whole.
use Rattle.std.proofs.Common.{ap}
use Rattle.std.specs.Prelude.{Some}
use Rattle.line_cuts.specs.Cuts.{Floor}
use Rattle.line_posts.proofs.ForgetLemmas.{keeps_left}
use Rattle.line_posts.proofs.forgetting.let_go.Goals as goal

pub returns-clause-done : goal.returns-clause-done
returns-clause-done c = λ history keeps.
    let K = c.args.catalogue.now in
    let L = c.in_ok-later in
    let C = c.in_ok-cut in
    let N = c.in_ok-next in
    record {
      later = L.later;
      at = L.ensures.live;
      floor = ap (λ (f : Floor). Some f) N.ensures.floor;
      marks = N.ensures.marks;
      keeps = keeps_left K.processes K.marks L.later L.ensures.live L.ensures.is L.ensures.stays
          C.cut.processes C.cut.marks C.ensures.processes C.ensures.marks c.args.forgotten.now
          history N.next keeps c.history-history.ensures.agrees c.marks-marks.ensures.exist
          c.marks-marks.ensures.count N.ensures.floor N.ensures.marks;
    }
