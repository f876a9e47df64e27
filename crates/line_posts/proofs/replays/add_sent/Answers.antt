use Rattle.std.proofs.Common.{◌≡◌, ◌∙◌, ◌+◌, ◌-◌, ◌<◌, ◌∷◌, [], ℕ, List, Some, length, take, drop}
use Rattle.std.proofs.Common.{refl, sym, ap, subst, arith}
use Rattle.std.specs.Prelude.{slice_get}
use Rattle.std.proofs.lemmas.List.{take_all, drop_all}
use Rattle.line_tape.specs.declared.events.Event.{Event}
use Rattle.line_tape.specs.Event.{sends}
use Rattle.line_tape.specs.Shown.{event_of_ref}
use Rattle.line_posts.specs.Replays.{packets_of, AreOfSender, AreSorted, AreSquare, IsNoted}
use Rattle.line_posts.proofs.ReplayLemmas.{drop_next, plain_at, sends_push, short_at, take_next}
use Rattle.line_posts.proofs.SortLemmas.{named_at, of_none, of_then, sorted_before, sorted_done}
use Rattle.line_posts.proofs.SortLemmas.{sorted_start, sorted_whole}
use Rattle.line_posts.proofs.replays.add_sent.Goals as goal

-- how many sends stand before the event that is looked at
before : (tape : List Event) (i : ℕ) (e : Event) → 0 < i → slice_get tape (i - 1) ≡ Some e
    → sends (take i tape) ≡ sends (take (i - 1) tape) + sends (e ∷ [])
before tape i e some at =
    let same : i ≡ (i - 1) + 1 = omega (arith, some) in
    ap (λ k. sends (take k tape)) same ∙
    (ap sends (take_next tape (i - 1) e at) ∙ sends_push (take (i - 1) tape) e)

pub loop-i-init : goal.loop-i-init
loop-i-init c =
    let T = c.args.tape.now.events in
    let all = c.len-i.ensures.value in
    record {
      number_is = c.sends-number.ensures.value ∙ sym
          (ap sends (take_all c.len-i.result T (omega (arith, all))));
      left_is = c.requires.sum;
      long = refl;
      sorted = sorted_start c.args.counts.now.items c.args.p (sends (take c.len-i.result T))
          (drop c.len-i.result T) (packets_of c.args.packets.now.items)
          (drop_all c.len-i.result T (omega (arith, all))) c.requires.none;
      sender = of_none (length c.args.counts.now.items) c.args.p
          (packets_of c.args.packets.now.items) c.requires.packets;
    }

pub overflow_sub-number : goal.overflow_sub-number
overflow_sub-number c =
    (let b = before c.args.tape.now.events c.loop-i.i (event_of_ref c.event-event.result)
    (omega arith) c.event-event.ensures in let n = c.loop-i.invariant.number_is in let v =
    c.send_count-number.ensures.value in omega (arith, b, n, v))

pub note_sent-requires-clause-short : goal.note_sent-requires-clause-short
note_sent-requires-clause-short c = short_at c.args.tape.now.events (c.loop-i.i - 1)
    (event_of_ref c.event-event.result) c.len-i.ensures.limits c.event-event.ensures

pub note_sent-requires-clause-plain : goal.note_sent-requires-clause-plain
note_sent-requires-clause-plain c = plain_at c.args.tape.now.events (c.loop-i.i - 1)
    (event_of_ref c.event-event.result) c.requires.plain c.event-event.ensures

pub note_sent-requires-clause-named : goal.note_sent-requires-clause-named
note_sent-requires-clause-named c = named_at (length c.args.counts.now.items)
    (length c.loop-i.counts.items) c.args.tape.now.events c.args.tape.now.events (c.loop-i.i - 1)
    (event_of_ref c.event-event.result) c.loop-i.invariant.long refl c.requires.named
    c.event-event.ensures

pub note_sent-requires-clause-from : goal.note_sent-requires-clause-from
note_sent-requires-clause-from c =
    (let l = c.loop-i.invariant.long in let f = c.requires.from in omega (arith, l, f))

pub note_sent-requires-clause-packets : goal.note_sent-requires-clause-packets
note_sent-requires-clause-packets c = subst (λ n. AreSquare n (packets_of c.loop-i.packets.items))
    (sym c.loop-i.invariant.long) c.loop-i.invariant.sender.square

pub overflow_sub-left : goal.overflow_sub-left
overflow_sub-left c = (let s = c.in_ok-taken.ensures.noted.sum in let l = c.loop-i.invariant.left_is
    in omega (arith, s, l))

pub loop-i-preserved : goal.loop-i-preserved
loop-i-preserved c =
    let T = c.args.tape.now.events in
    let i = c.loop-i.invariant in
    let j = c.loop-i.i - 1 in
    let e = event_of_ref c.event-event.result in
    let b = before c.args.tape.now.events c.loop-i.i (event_of_ref c.event-event.result)
    (omega arith) c.event-event.ensures in
    let n = i.number_is in
    let v = c.send_count-number.ensures.value in
    let at : c.loop-i.number - c.send_count-number.result
    ≡ sends (take j T) = omega (arith, b, n, v) in
    let noted : IsNoted c.args.p
    (sends (take j T)) e c.loop-i.counts.items c.note_sent.new.counts.items (packets_of
    c.loop-i.packets.items) (packets_of c.note_sent.new.packets.items) c.in_ok-taken.taken =
    subst (λ k. IsNoted c.args.p k e c.loop-i.counts.items c.note_sent.new.counts.items
    (packets_of c.loop-i.packets.items) (packets_of c.note_sent.new.packets.items)
    c.in_ok-taken.taken) at c.in_ok-taken.ensures.noted in
    let s = noted.sum in
    let l = i.left_is in
    let same : c.loop-i.i ≡ j + 1 = omega arith in
    record {
      number_is = at;
      left_is = omega (arith, s, l);
      long = noted.count ∙ i.long;
      sorted = subst
          (λ (es : List Event). AreSorted c.args.counts.now.items c.args.p
          (sends (take j T)) es c.note_sent.new.counts.items
          (packets_of c.note_sent.new.packets.items))
          (sym (drop_next T j c.loop-i.i e c.event-event.ensures same))
          (sorted_before c.args.counts.now.items c.args.p (sends (take c.loop-i.i T))
          (sends (take j T)) e
          (drop c.loop-i.i T) c.loop-i.counts.items c.note_sent.new.counts.items
          (packets_of c.loop-i.packets.items) (packets_of c.note_sent.new.packets.items)
          c.in_ok-taken.taken b i.long i.sorted noted);
      sender = of_then (length c.args.counts.now.items) c.args.p
          (packets_of c.args.packets.now.items) (packets_of c.loop-i.packets.items)
          (packets_of c.note_sent.new.packets.items) i.sender
          (subst (λ k. AreOfSender k c.args.p (packets_of c.loop-i.packets.items)
          (packets_of c.note_sent.new.packets.items)) i.long noted.sender);
    }

pub returns-then-left-eq0-clause-sent : goal.returns-then-left-eq0-clause-sent
returns-then-left-eq0-clause-sent c = λ q lt.
    (let z = c.if-left-eq0.true in
    let l = c.loop-i.invariant.left_is in
    sorted_done c.args.counts.now.items c.args.p c.loop-i.i c.args.tape.now.events
    c.loop-i.counts.items (packets_of c.loop-i.packets.items) c.loop-i.invariant.sorted
    (omega (arith, z, l)) q lt)

pub returns-clause-sent : goal.returns-clause-sent
returns-clause-sent c = λ q lt.
    (let f = c.loop-i-test.false in
    sorted_whole c.args.counts.now.items c.args.p c.loop-i.i c.args.tape.now.events
    c.loop-i.counts.items (packets_of c.loop-i.packets.items) c.loop-i.invariant.sorted
    (omega (arith, f)) q lt)
