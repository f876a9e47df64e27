use Rattle.std.proofs.Common.{◌∙◌, length, sym, ap, subst, arith}
use Rattle.std.specs.Prelude.{slice_get}
use Rattle.std.specs.List.{filter_map}
use Rattle.std.proofs.lemmas.Result.{OkIff-at_ok}
use Rattle.line_names.specs.Lines.{choice_at}
use Rattle.line_tape.specs.Front.{front, HasChoice}
use Rattle.line_tape.specs.History.{tape_at}
use Rattle.line_tape.specs.Restart.{restarted_history, restarted_event}
use Rattle.line_tape.specs.Rounds.{rounds_checked}
use Rattle.line_laws.proofs.LinkLemmas.{no_rounds}
use Rattle.line_tape.proofs.StayLemmas.{tape_restarted, length_restarted}
use Rattle.line_posts.proofs.FleetLemmas.{journals_more}
use Rattle.line_posts.proofs.restarts.journals_at.Goals as goal

pub loop-q-init : goal.loop-q-init
loop-q-init c = record {
  count = ap length c.in_ok-journals.ensures.items;
  each = λ p journal at.
      (let none = ap (λ t. slice_get t p) c.in_ok-journals.ensures.items in absurd (cc (none, at)));
}

-- the tape that is cut is that of the process
pub restart-requires : goal.restart-requires
restart-requires c =
    let copied = c.in_ok-tape.ensures ∙ c.tape.ensures.events in
    subst (λ t. HasChoice t c.at.result) (sym copied)
    (subst (HasChoice (tape_at c.args.history.now.processes c.unwrap-me.result))
    (sym c.at.ensures) (c.requires.exist c.unwrap-me.result))

pub new-requires-clause-bare : goal.new-requires-clause-bare
new-requires-clause-bare c = ap rounds_checked c.restart.ensures.events ∙ no_rounds
    (front c.in_ok-tape.tape.events c.at.result)

pub loop-q-preserved : goal.loop-q-preserved
loop-q-preserved c =
    let i = c.loop-q.invariant in
    let e = c.in_ok-journal.ensures in
    let H = c.args.history.now.processes in
    let L = c.args.line.now in
    let me = (OkIff-at_ok c.try_new.result _ _ _ c.try_new.ensures c.unwrap-me.ensures).1 in
    let copied = c.in_ok-tape.ensures ∙ c.tape.ensures.events in
    let cut = c.restart.ensures.events ∙
    (ap (λ t. filter_map restarted_event (front t c.at.result)) copied ∙
    (ap (λ k. filter_map restarted_event (front (tape_at H c.unwrap-me.result) k)) c.at.ensures
    ∙ (ap (λ v. filter_map restarted_event (front (tape_at H v) (choice_at L v))) me ∙ sym
    (tape_restarted H L c.loop-q.q c.requires.length_is)))) in
    let both = journals_more (restarted_history H L) c.args.floor c.loop-q.q c.loop-q.journals.items
    c.push.new.self.items c.in_ok-journal.journal i.count i.each c.in_ok-push.ensures.items
    (record {
      n_is = e.same.0 ∙ (c.n-n.ensures.value ∙ sym (length_restarted H L c.requires.length_is));
      me_is = e.same.1 ∙ me;
      floor_is = e.same.2;
      tape_is = e.tape.0 ∙ cut;
      rounds_are = e.tape.1;
    }) in
    record { count = both.0; each = both.1 }

pub returns : goal.returns
returns c =
    let i = c.loop-q.invariant in
    let f = c.loop-q-test.false in
    let n = c.n-n.ensures.value in
    let l = length_restarted c.args.history.now.processes c.args.line.now c.requires.length_is in
    let k = i.count in
    record { count = omega (arith, f, n, l, k); each = i.each }
