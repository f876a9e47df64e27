-- One process more, of so many as there may be.
use Rattle.std.proofs.Common.{◌≡◌, ◌-◌, ◌++◌, ◌∷◌, [], ℕ, List, length, map, sym, ap, ◌∙◌, arith}
use Rattle.std.specs.List.{range_with_len}
use Rattle.std.proofs.lemmas.List.{length-map, map-append}
use Rattle.std.proofs.lemmas.List.FromFn.{length-map-range_with_len, map-range_with_len_more}
use Rattle.line_names.specs.declared.choices.Choice.{Choice}
use Rattle.line_names.specs.declared.choices.Choice.TheVariants.{Check as AtCheck}
use Rattle.line_tape.specs.Rounds.{check_line}
use Rattle.line_cuts.specs.Cuts.{Floor, floor_check, lost_checks}
use Rattle.line_live.proofs.HeldFloors.{first_at}
use Rattle.line_live.proofs.held.kept_line.Goals as goal

pub push-requires : goal.push-requires
push-requires c =
    let floor : Floor = c.args.floor.now in
    let f : ℕ → ℕ = λ (p : ℕ). floor_check floor p - lost_checks floor p in
    let count : length c.loop-q.line ≡ c.loop-q.q =
    ap (λ (line : List Choice). length line) c.loop-q.invariant ∙ length-map (map f (range_with_len
    0 c.loop-q.q)) (λ k. AtCheck k) ∙ length-map-range_with_len f 0 c.loop-q.q in
    omega (arith, count, c.loop-q-test.true, c.requires.few)

pub loop-q-preserved : goal.loop-q-preserved
loop-q-preserved c =
    let floor : Floor = c.args.floor.now in
    let f : ℕ → ℕ = λ (p : ℕ). floor_check floor p - lost_checks floor p in
    let at : c.unwrap-p.result ≡ c.loop-q.q = (rw c.unwrap-p.ensures at c.try_new.ensures).1 in
    let here : c.first_check.result
    ≡ f c.loop-q.q = c.first_check.ensures ∙ first_at floor c.unwrap-p.result ∙ ap f at in
    c.push.ensures
    ∙ ap (λ (line : List Choice). line ++ AtCheck c.first_check.result ∷ []) c.loop-q.invariant
    ∙ ap (λ (k : ℕ). check_line (map f (range_with_len 0 c.loop-q.q)) ++ AtCheck k ∷ []) here
    ∙ sym (ap check_line (map-range_with_len_more f 0 c.loop-q.q c.loop-q.q (omega arith)) ∙
    map-append (λ k. AtCheck k) (map f (range_with_len 0 c.loop-q.q)) (f c.loop-q.q ∷ []))
