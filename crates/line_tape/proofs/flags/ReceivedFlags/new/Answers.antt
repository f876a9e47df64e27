-- No more sends stand before a choice than on the tape.
use Rattle.std.proofs.Common.{◌≡◌, ◌≤◌, ℕ, List, length, arith}
use Rattle.line_names.specs.Lines.{choice_at}
use Rattle.line_tape.specs.declared.events.Event.{Event}
use Rattle.line_tape.specs.Front.{place}
use Rattle.line_tape.specs.History.{tape_at}
use Rattle.line_tape.proofs.CutLemmas.{sends_take}
use Rattle.line_tape.proofs.flags.ReceivedFlags.new.Goals as goal

pub returns : goal.returns
returns c = λ line. record {
  processes = omega (arith, c.loop-q.invariant.0, c.n-n.ensures.value);
  sends_of = λ p within.
      let tape : List Event = tape_at c.args.history.now.processes p in
      omega (
        arith,
        c.loop-q.invariant.1 p (omega (
          arith,
          c.loop-q.invariant.0,
          c.n-n.ensures.value,
          within,
        )),
        sends_take tape (place tape (choice_at line p)),
      );
}
