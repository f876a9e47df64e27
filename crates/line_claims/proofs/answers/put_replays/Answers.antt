-- One message more is written.
use Rattle.std.proofs.Common.{List, sym, ap, arith}
use Rattle.std.specs.Prelude.{map}
use Rattle.line_check.specs.declared.answers.Replay.{Replay}
use Rattle.line_devices.proofs.OutputLemmas.{out_all, out_front, out_left, out_more, out_none}
use Rattle.line_fields.specs.Texts.{records_text}
use Rattle.line_claims.specs.Records.{full_replay_record}
use Rattle.line_claims.proofs.WalkLemmas.{walk_begins}
use Rattle.line_claims.proofs.answers.put_replays.Goals as goal

pub due-init : goal.due-init
due-init g c = record {
  number = omega (arith, c.new-cursor.ensures.number, c.new-cursor.ensures.place);
  out = out_left _ _ _ _ _ _ _ _ _
      (ap (λ (xs : List Replay). records_text (map full_replay_record xs))
      (sym (walk_begins c.args.history.now.processes c.args.line.now c.new-cursor.result
      c.new-cursor.ensures.process c.new-cursor.ensures.number c.new-cursor.ensures.place)))
      (out_none _ _ _ _);
}

pub due-preserved : goal.due-preserved
due-preserved g c = record {
  number = c.in-Some.ensures.number;
  out = out_more _ _ (ap (λ (xs : List Replay). records_text (map full_replay_record xs))
      c.in-Some.ensures.left) c.due.invariant.out c.in_ok-put_replay-in-Some.ensures;
}

pub returns-in_err-put_replay-in-Some : goal.returns-in_err-put_replay-in-Some
returns-in_err-put_replay-in-Some g c =
    out_front _ _ _ _ _
    (ap (λ (xs : List Replay). records_text (map full_replay_record xs)) c.in-Some.ensures.left)
    c.due.invariant.out c.in_err-put_replay-in-Some.ensures c.from_residual.ensures.1

pub returns-in-None : goal.returns-in-None
returns-in-None g c =
    out_all tt (ap (λ (xs : List Replay). records_text (map full_replay_record xs))
    c.in-None.ensures.left) c.due.invariant.out
