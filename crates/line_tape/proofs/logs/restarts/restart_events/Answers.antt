-- An event that stays moves down behind those that stayed.
use Rattle.std.proofs.Common.{◌≡◌, ◌<◌, ◌+◌, ℕ, cond, List, length, take, drop, set, Some, None}
use Rattle.std.proofs.Common.{refl, sym, ap, ◌∙◌, arith}
use Rattle.std.specs.Prelude.{vec_len, vec_capacity}
use Rattle.std.specs.List.{filter_map, swap}
use Rattle.std.proofs.lemmas.List.{take_all}
use Rattle.line_tape.specs.declared.logs.KeptEvent.{KeptEvent}
use Rattle.line_tape.specs.Laid.{restarted_kept}
use Rattle.line_tape.proofs.IndexLemmas.{same_each, settle-kept, settle-kept_rest, settle-gone}
use Rattle.line_tape.proofs.IndexLemmas.{settle-gone_rest}
use Rattle.line_tape.proofs.logs.restarts.restart_events.Goals.{then-restart_event}
use Rattle.line_tape.proofs.logs.restarts.restart_events.Goals.{else-restart_event}
use Rattle.line_tape.proofs.logs.restarts.restart_events.Goals as goal

pub loop-i-init : goal.loop-i-init
loop-i-init c = record {
  done = sym (same_each restarted_kept
      (take c.args.settled c.args.events.now.items) c.requires.settled);
  rest = refl;
  behind = omega arith;
  many = refl;
  capacity = refl;
}

pub loop-i-preserved : goal.loop-i-preserved
loop-i-preserved c =
    let old : List KeptEvent = c.args.events.now.items in
    let events : List KeptEvent = c.loop-i.events.items in
    let i : ℕ = c.loop-i.i in
    let end : ℕ = c.loop-i.end in
    let x : KeptEvent = c.index_mut.result.now in
    let y : KeptEvent = c.restart_event.new.event in
    let within : i < length old = omega (arith, c.args.events.now.ok.0, c.len-i-end.ensures) in
    let many : length events ≡ length old = omega
    (arith, c.loop-i.invariant.many, c.loop-i.events.ok.0, c.args.events.now.ok.0) in
    elim c.if-restart_event.branch [
      | then-restart_event w ↦
          let stays : restarted_kept x ≡ Some y = c.restart_event.ensures ∙ ap
          (λ b. cond b (Some y) None) w.if-restart_event.true in
          let moved : c.if-restart_event.events.items ≡ swap (set events i y) i end = ap
          (λ v. v.items) w.events-is ∙ w.swap.ensures.items in
          record {
            done = ap (λ n. take n c.if-restart_event.events.items) w.end-is ∙ ap
                (take (end + 1)) moved ∙ settle-kept restarted_kept old events i end x y within many
                c.loop-i.invariant.behind c.loop-i.invariant.rest c.loop-i.invariant.done
                c.index_mut.ensures.value stays;
            rest = ap (drop (i + 1)) moved ∙ settle-kept_rest restarted_kept old events i end x y
                within many c.loop-i.invariant.behind c.loop-i.invariant.rest
                c.loop-i.invariant.done c.index_mut.ensures.value;
            behind = omega (arith, w.end-is, c.loop-i.invariant.behind);
            many = ap (λ v. vec_len v) w.events-is ∙ w.swap.ensures.len ∙ c.loop-i.invariant.many;
            capacity = ap (λ v. vec_capacity v) w.events-is ∙ w.swap.ensures.capacity ∙
                c.loop-i.invariant.capacity;
          }
      | else-restart_event w ↦
          let goes : restarted_kept x ≡ None = c.restart_event.ensures ∙ ap
          (λ b. cond b (Some y) None) w.if-restart_event.false in
          record {
            done = ap (λ n. take n c.if-restart_event.events.items) w.end-is ∙ ap
                (λ v. take end v.items) w.events-is ∙ settle-gone restarted_kept old events i end x
                y within many c.loop-i.invariant.behind c.loop-i.invariant.rest
                c.loop-i.invariant.done c.index_mut.ensures.value goes;
            rest = ap (λ v. drop (i + 1) v.items) w.events-is ∙ settle-gone_rest restarted_kept old
                events i end x y within many c.loop-i.invariant.behind c.loop-i.invariant.rest
                c.loop-i.invariant.done c.index_mut.ensures.value;
            behind = omega (arith, w.end-is, c.loop-i.invariant.behind);
            many = ap (λ v. vec_len v) w.events-is ∙ c.loop-i.invariant.many;
            capacity = ap (λ v. vec_capacity v) w.events-is ∙ c.loop-i.invariant.capacity;
          }
    ]

pub returns-clause-items : goal.returns-clause-items
returns-clause-items c =
    c.truncate.ensures.items ∙ c.loop-i.invariant.done ∙ ap (filter_map restarted_kept)
    (take_all c.loop-i.i c.args.events.now.items (omega (arith, c.args.events.now.ok.0)))
