use Rattle.std.proofs.Common.{◌≡◌, ◌+◌, ◌||◌, ℕ, length, vec_len, sym, subst, arith}
use Rattle.line_tape.specs.Line.{events_before, AreSentBefore}
use Rattle.line_plan.proofs.MovedLemmas.{IsMoved-on, AreSentBelow-on}
use Rattle.line_plan.specs.Sweeps.{IsSweeping}
use Rattle.line_plan.proofs.SweepLemmas.{sweeping_on}
use Rattle.line_plan.proofs.planner.sweep.Goals as goal

pub loop-q-preserved : goal.loop-q-preserved
loop-q-preserved c =
    let at : c.unwrap-at.result ≡ c.loop-q.q = (rw c.unwrap-at.ensures at c.try_new.ensures).1 in
    record {
      led = c.in_ok-moved.ensures.led;
      sent = c.in_ok-moved.ensures.sent;
      clean = c.in_ok-moved.ensures.clean;
      moved = IsMoved-on c.args.catalogue.now.processes c.args.line.now c.loop-q.line
          c.visit_dirty.new.line (vec_len c.args.certificate.now) (vec_len c.loop-q.certificate)
          (vec_len c.visit_dirty.new.certificate) c.loop-q.lowered c.in_ok-moved.moved
          c.loop-q.invariant.moved c.in_ok-moved.ensures.moved;
      sweeping = subst
          (λ (p : ℕ). IsSweeping
          (length c.args.catalogue.now.processes) c.args.certificate.now.items (p + 1)
          (c.loop-q.lowered || c.in_ok-moved.moved) c.visit_dirty.new.certificate.items
          c.visit_dirty.new.visits.dirty) at
          (sweeping_on
          (length c.args.catalogue.now.processes) c.args.certificate.now.items
          c.unwrap-at.result c.loop-q.lowered c.in_ok-moved.moved c.loop-q.certificate.items
          c.visit_dirty.new.certificate.items c.loop-q.visits.dirty
          c.visit_dirty.new.visits.dirty
          (omega (arith, at, c.loop-q-test.true, c.n-n.ensures.value))
          (subst (λ (p : ℕ). IsSweeping
          (length c.args.catalogue.now.processes) c.args.certificate.now.items p
          c.loop-q.lowered c.loop-q.certificate.items c.loop-q.visits.dirty)
          (sym at) c.loop-q.invariant.sweeping)
          c.in_ok-moved.ensures.passed c.in_ok-moved.ensures.begun c.in_ok-moved.ensures.visited
          c.in_ok-moved.ensures.fewer);
      none = AreSentBelow-on c.args.catalogue.now.processes c.loop-q.line c.visit_dirty.new.line
          (vec_len c.loop-q.certificate)
          (vec_len c.visit_dirty.new.certificate) c.loop-q.q c.loop-q.lowered c.in_ok-moved.moved
          c.in_ok-moved.ensures.moved c.loop-q.invariant.none
          (subst (λ (q : ℕ). AreSentBefore c.args.catalogue.now.processes c.visit_dirty.new.line
          (events_before c.args.catalogue.now.processes c.visit_dirty.new.line q)) at
          c.in_ok-moved.ensures.none);
    }

pub returns-clause-none : goal.returns-clause-none
returns-clause-none c = λ h q l. c.loop-q.invariant.none h q (omega arith)
