-- One event of the sender more, up to its whole tape.
use Rattle.std.proofs.Common.{◌≡◌, ◌+◌, ◌↔◌, ◌∷◌, [], ℕ, Bool, List, Option, Some, None, drop}
use Rattle.std.proofs.Common.{length, sym, ap, ◌∙◌, subst, arith}
use Rattle.std.specs.Prelude.{◌==◌}
use Rattle.std.specs.List.{cons_option, filter_map}
use Rattle.std.proofs.lemmas.Bool.{false≢true}
use Rattle.std.proofs.lemmas.List.{take_all}
use Rattle.line_names.specs.declared.choices.Choice.TheVariants.{Now}
use Rattle.line_tape.specs.declared.events.Event.{Event}
use Rattle.line_tape.specs.declared.items.Item.{Item}
use Rattle.line_tape.specs.Event.{sends}
use Rattle.line_tape.specs.Fit.{item_received, items_sent, received_from}
use Rattle.line_tape.specs.Front.{front}
use Rattle.line_tape.specs.History.{Process, tape_at}
use Rattle.line_tape.specs.Shown.{event_of_ref}
use Rattle.line_world.specs.Deliveries.{AreDelivered}
use Rattle.line_world.proofs.WalkLemmas.{sent_step, walk_on}
use Rattle.line_world.proofs.idle.are_delivered.Goals.{in-Some+else-not-is_delivered, in-None}
use Rattle.line_world.proofs.idle.are_delivered.Goals as goal

whole_tape : (tape events given : List Event) → events ≡ front given Now → given ≡ tape
    → events ≡ tape
whole_tape tape events given is same =
    is ∙ ap (λ (t : List Event). front t Now) same ∙ take_all (length tape) tape (omega arith)

pub returns-then-not-is_delivered : goal.returns-then-not-is_delivered
returns-then-not-is_delivered c =
    let history : List Process = c.args.history.now.processes in
    let p : ℕ = c.args.p in
    let q : ℕ = c.args.q in
    let own : Bool = p == q in
    let sent : List Event = c.front-sent.result in
    let received : List Event = c.front-received.result in
    let e : Event = event_of_ref c.at-event.result in
    let sent_is : sent ≡ tape_at history p = whole_tape (tape_at history p) sent
    c.tape.result.now.events c.front-sent.ensures c.tape.ensures.events in
    let received_is : received ≡ tape_at history q = whole_tape (tape_at history q) received
    c.tape-2.result.now.events c.front-received.ensures c.tape-2.ensures.events in
    let here : items_sent p q c.loop-i.number (drop c.loop-i.i sent) ≡ c.in-Some.item
    ∷ items_sent p q (c.loop-i.number + sends (e ∷ [])) (drop (c.loop-i.i + 1) sent) =
    sent_step p q c.loop-i.number c.loop-i.i sent e (Some c.in-Some.item) c.at-event.ensures
    (c.item_sent.ensures ∙ ap (λ (o : Option Item). cons_option o []) c.in-Some.is) in (
      λ h. absurd (false≢true h),
      λ are.
          let found : AreDelivered own (filter_map (item_received p) received)
          (items_sent p q 0 sent) =
          subst (λ (es : List Event). AreDelivered own (filter_map (item_received p) es)
          (items_sent p q 0 sent)) (sym received_is)
          (subst (λ (es : List Event). AreDelivered own (received_from history q p)
          (items_sent p q 0 es)) (sym sent_is) are) in
          absurd (c.is_delivered.ensures.no (items_sent p q (c.loop-i.number + sends (e ∷ []))
          (drop (c.loop-i.i + 1) sent)) c.if-not-is_delivered.true
          (subst (AreDelivered own (filter_map (item_received p) (drop c.loop-i.place received)))
          here (c.loop-i.invariant.left.1 found))),
    )

pub loop-i-preserved : goal.loop-i-preserved
loop-i-preserved c =
    let p : ℕ = c.args.p in
    let q : ℕ = c.args.q in
    let own : Bool = p == q in
    let k : ℕ = c.loop-i.number in
    let i : ℕ = c.loop-i.i in
    let n : ℕ = c.sends_in-number.result in
    let sent : List Event = c.front-sent.result in
    let received : List Event = c.front-received.result in
    let e : Event = event_of_ref c.at-event.result in
    let whole : List Item = filter_map (item_received p) received in
    let all : List Item = items_sent p q 0 sent in
    let old : List Item = filter_map (item_received p) (drop c.loop-i.place received) in
    record {
      few = omega (arith, c.loop-i.invariant.few, c.sends_in-number.ensures.one);
      left = elim c.match-item_sent.branch [
        | in-Some+else-not-is_delivered w ↦
            subst (λ (place : ℕ). AreDelivered own
            (filter_map (item_received p) (drop place received)) (items_sent p q (k + n)
            (drop (i + 1) sent)) ↔ AreDelivered own whole all) (sym w.place-is)
            (walk_on own p q k n i sent e (Some w.in-Some.item) old (filter_map (item_received p)
            (drop w.is_delivered.new.place received)) whole all c.at-event.ensures
            (c.item_sent.ensures ∙ ap (λ (o : Option Item). cons_option o []) w.in-Some.is)
            c.sends_in-number.ensures.value
            (λ rest. w.is_delivered.ensures.yes rest w.if-not-is_delivered.false)
            c.loop-i.invariant.left)
        | in-None w ↦
            subst (λ (place : ℕ). AreDelivered own
            (filter_map (item_received p) (drop place received)) (items_sent p q (k + n)
            (drop (i + 1) sent)) ↔ AreDelivered own whole all) (sym w.place-is)
            (walk_on own p q k n i sent e None old old whole all c.at-event.ensures
            (c.item_sent.ensures ∙ ap (λ (o : Option Item). cons_option o []) w.in-None.is)
            c.sends_in-number.ensures.value
            (λ rest. (λ are. are, λ are. are)) c.loop-i.invariant.left)
      ];
    }
