use Rattle.std.proofs.Common.{◌+◌, ◌++◌, ◌∷◌, [], take, drop, refl, sym}
use Rattle.std.specs.VecDeque.{deque_items}
use Rattle.line_tape.specs.Shown.{event_of_ref}
use Rattle.line_posts.proofs.ManyLemmas.{copied_more, states_more}
use Rattle.line_posts.proofs.reports.states_of.Goals as goal

pub loop-i-preserved : goal.loop-i-preserved
loop-i-preserved c =
    let T = c.args.tape.now.events in
    let D = drop c.args.from T in
    let e = event_of_ref c.event.result in
    states_more (take c.loop-i.i D) (take (c.loop-i.i + 1) D) e (deque_items c.loop-i.states)
    (deque_items c.keep_state.new.states) c.loop-i.invariant c.in_ok-keep_state.ensures
    (sym (copied_more T (take c.loop-i.i D)
    (take c.loop-i.i D ++ e ∷ []) c.args.from c.loop-i.i e refl c.event.ensures refl))
