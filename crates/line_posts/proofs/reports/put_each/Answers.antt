use Rattle.std.proofs.Common.{◌≡◌, ◌∙◌, ◌+◌, ◌<◌, ◌++◌, ◌∷◌, [], ℕ, List, Some, take, drop, refl}
use Rattle.std.proofs.Common.{sym, ap, arith}
use Rattle.std.specs.List.{filter_map}
use Rattle.std.specs.VecDeque.{deque_items}
use Rattle.std.specs.Prelude.{slice_get}
use Rattle.line_tape.specs.declared.events.Event.{Event}
use Rattle.line_tape.specs.Event.{state_of}
use Rattle.line_tape.specs.Shown.{event_of_ref}
use Rattle.line_posts.specs.Ends.{producer_end, with_items}
use Rattle.line_posts.proofs.EndLemmas.{producer_more}
use Rattle.line_posts.proofs.ManyLemmas.{at_drop, copied_more, next_of, states_first, states_left}
use Rattle.line_posts.proofs.ManyLemmas.{with_more, with_none}
use Rattle.line_posts.proofs.ReplayLemmas.{short_at}
use Rattle.line_posts.proofs.reports.put_each.Goals as goal

pub loop-i-init : goal.loop-i-init
loop-i-init c = record {
  end = with_none
      (producer_end c.args.line.now);
  free = omega arith;
  states = c.requires.states;
}

-- the event that is put next is the next of those
next : (tape : List Event) (from i k : ℕ) (e : Event) → i < k → slice_get tape (from + i) ≡ Some e
    → drop i (take k (drop from tape)) ≡ e ∷ drop (i + 1) (take k (drop from tape))
next tape from i k e lt at =
    next_of (drop from tape) i k e lt (at_drop tape from i (from + i) e refl at)

pub event_of-event-requires-clause-short : goal.event_of-event-requires-clause-short
event_of-event-requires-clause-short c = short_at c.args.tape.now.events (c.args.from + c.loop-i.i)
    (event_of_ref c.event.result) c.len-limits.ensures.limits c.event.ensures

pub event_of-event-requires-clause-state : goal.event_of-event-requires-clause-state
event_of-event-requires-clause-state c =
    let all = take c.args.k (drop c.args.from c.args.tape.now.events) in (
      filter_map state_of (drop (c.loop-i.i + 1) all),
      states_first (drop c.loop-i.i all)
          (drop (c.loop-i.i + 1) all) (event_of_ref c.event.result)
          (deque_items c.loop-i.states) c.loop-i.invariant.states
          (next c.args.tape.now.events c.args.from c.loop-i.i c.args.k (event_of_ref c.event.result)
          (omega (arith, c.loop-i-test.true)) c.event.ensures),
    )

pub push_reserved-requires : goal.push_reserved-requires
push_reserved-requires c = (let f = c.loop-i.invariant.free in let r = c.requires.room in let t =
    c.loop-i-test.true in (omega (arith, f, r, t), tt))

pub loop-i-preserved : goal.loop-i-preserved
loop-i-preserved c =
    let T = c.args.tape.now.events in
    let D = drop c.args.from T in
    let e = event_of_ref c.event.result in
    let i = c.loop-i.invariant in
    let all = take c.args.k D in
    let put = producer_more c.loop-i.line c.push_reserved.new.self c.event_of-event.result
    c.push_reserved.ensures.ring c.push_reserved.ensures.sent.0 in
    let free = c.push_reserved.ensures.sent.1 in
    let was = i.free in
    record {
      end = with_more (producer_end c.args.line.now) (producer_end c.loop-i.line)
          (producer_end c.push_reserved.new.self) (take c.loop-i.i D)
          (take (c.loop-i.i + 1) D) c.event_of-event.result i.end put
          (sym (copied_more T (take c.loop-i.i D)
          (take c.loop-i.i D ++ c.event_of-event.result ∷ []) c.args.from c.loop-i.i e refl
          c.event.ensures
          (ap (λ v. take c.loop-i.i D ++ v ∷ []) c.event_of-event.ensures.value)));
      free = omega (arith, free, was);
      states = states_left (drop c.loop-i.i all) (drop (c.loop-i.i + 1) all) e
          (deque_items c.loop-i.states) (deque_items c.event_of-event.new.states) i.states
          (next c.args.tape.now.events c.args.from c.loop-i.i c.args.k (event_of_ref c.event.result)
          (omega (arith, c.loop-i-test.true)) c.event.ensures) c.event_of-event.ensures.rest;
    }

pub returns : goal.returns
returns c =
    let f = c.loop-i-test.false in
    let a = c.loop-i.auto in
    let all : c.loop-i.i ≡ c.args.k = omega (arith, f) in
    c.loop-i.invariant.end ∙ ap (λ n. with_items (producer_end c.args.line.now)
    (take n (drop c.args.from c.args.tape.now.events))) all
