use Rattle.std.proofs.Common.{◌∙◌, ℕ, List, length, replicate, sym, ap, arith}
use Rattle.std.specs.Prelude.{slice_get}
use Rattle.std.proofs.lemmas.List.{length-replicate}
use Rattle.std.proofs.lemmas.Result.{OkIff-at_ok}
use Rattle.line_tape.specs.History.{fresh, Process}
use Rattle.line_tape.specs.Rounds.{rounds_checked}
use Rattle.line_tape.proofs.EventLemmas.{tape_start}
use Rattle.line_posts.specs.Preparations.{AreJournals, IsPrepared}
use Rattle.line_posts.specs.Replays.{packets_of, AreAllReplays}
use Rattle.line_posts.proofs.FleetLemmas.{journals_more, no_replays_fresh}
use Rattle.line_posts.proofs.RoundsGathered.{if_ok_then}
use Rattle.line_posts.proofs.fleets.prepare_fresh.Goals as goal

pub loop-q-init : goal.loop-q-init
loop-q-init c = record {
  count = ap length c.in_ok-journals.ensures.items;
  each = λ p journal at.
      (let none = ap (λ t. slice_get t p) c.in_ok-journals.ensures.items in absurd (cc (none, at)));
}

pub new-requires-clause-bare : goal.new-requires-clause-bare
new-requires-clause-bare c = ap rounds_checked c.new-tape.ensures

pub loop-q-preserved : goal.loop-q-preserved
loop-q-preserved c =
    let i = c.loop-q.invariant in
    let e = c.in_ok-journal.ensures in
    let me = (OkIff-at_ok c.try_new.result _ _ _ c.try_new.ensures c.unwrap-me.ensures).1 in
    let both = journals_more (replicate c.args.n fresh) 0 c.loop-q.q c.loop-q.journals.items
    c.push.new.self.items c.in_ok-journal.journal i.count i.each c.in_ok-push.ensures.items
    (record {
      n_is = e.same.0 ∙ sym (length-replicate c.args.n fresh);
      me_is = e.same.1 ∙ me;
      floor_is = e.same.2;
      tape_is = e.tape.0 ∙ (c.new-tape.ensures ∙ sym (tape_start c.args.n c.loop-q.q));
      rounds_are = e.tape.1;
    }) in
    record { count = both.0; each = both.1 }

pub returns : goal.returns
returns c =
    let i = c.loop-q.invariant in
    let f = c.loop-q-test.false in
    let l = length-replicate c.args.n fresh in
    let k = i.count in
    let journals : AreJournals (replicate c.args.n fresh) 0 c.loop-q.journals.items = record
    { count = omega (arith, f, l, k); each = i.each } in
    if_ok_then c.prepare.result
    (λ prepared. (opening : List Process) (floor : ℕ)
    → AreJournals opening floor c.loop-q.journals.items → AreAllReplays opening (packets_of
    c.in_ok-replays.replays.items) → IsPrepared opening floor c.args.capacity prepared)
    (λ prepared. IsPrepared (replicate c.args.n fresh) 0 c.args.capacity prepared)
    (λ prepared f. f (replicate c.args.n fresh) 0 journals (no_replays_fresh c.args.n
    (packets_of c.in_ok-replays.replays.items) c.in_ok-replays.ensures))
    c.prepare.ensures
