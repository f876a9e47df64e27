-- The ceilings so far are those of the processes so far.
use Rattle.std.proofs.Common.{◌≡◌, ◌++◌, ◌∷◌, [], List, ℕ, length, map, sym, ap, ◌∙◌, arith}
use Rattle.std.specs.List.{range_with_len}
use Rattle.std.proofs.lemmas.List.{length-map}
use Rattle.std.proofs.lemmas.List.FromFn.{length-range_with_len, map-range_with_len_more}
use Rattle.line_names.specs.declared.choices.Choice.{Choice}
use Rattle.line_tape.specs.Chain.{latest_choice}
use Rattle.line_tape.proofs.survival.first_ceilings.Goals as goal

pub push-requires : goal.push-requires
push-requires c =
    let f : ℕ → Choice = latest_choice c.args.history.now.processes c.args.marks.now
    c.args.failed.now in
    omega (
      arith,
      ap (λ (xs : List Choice). length xs) c.loop-q.invariant,
      length-map
          (range_with_len 0 c.loop-q.q) f,
      length-range_with_len 0 c.loop-q.q,
      c.n-n.ensures.value,
      c.n-n.ensures.limits.few,
    )

pub loop-q-preserved : goal.loop-q-preserved
loop-q-preserved c =
    let f : ℕ → Choice = latest_choice c.args.history.now.processes c.args.marks.now
    c.args.failed.now in
    let at : c.unwrap-p.result ≡ c.loop-q.q = (rw c.unwrap-p.ensures at c.try_new.ensures).1 in
    let more = map-range_with_len_more f 0 c.loop-q.q c.loop-q.q (omega arith) in
    let choice : c.latest_choice.result ≡ f c.loop-q.q = c.latest_choice.ensures.value ∙ ap f at in
    c.push.ensures ∙ ap (λ (xs : List Choice). xs ++ c.latest_choice.result ∷ []) c.loop-q.invariant
    ∙ ap (λ (x : Choice). map f (range_with_len 0 c.loop-q.q) ++ x ∷ []) choice ∙ sym more
