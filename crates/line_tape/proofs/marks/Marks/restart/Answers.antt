-- One process more, up to all that there are.
use Rattle.std.proofs.Common.{◌≡◌, ◌<◌, ◌≤◌, List, ℕ, None, Option, replicate, filter, get_or}
use Rattle.std.proofs.Common.{length, set, suc, ◌+◌, sym, ap, ◌∙◌, arith}
use Rattle.line_names.specs.declared.choices.Choice.{Choice}
use Rattle.line_names.specs.declared.choices.Choice.TheVariants.{Check as AtCheck}
use Rattle.line_names.specs.Lines.{choice_at}
use Rattle.line_tape.specs.Restart.{is_kept, restarted_damage}
use Rattle.line_tape.specs.Views.{MarksView}
use Rattle.line_tape.proofs.EachLemmas.{so_far, kept_damage, next-same, one_more, all-done}
use Rattle.line_tape.proofs.EachLemmas.{damage-each}
use Rattle.line_tape.proofs.marks.Marks.restart.Goals as goal

pub loop-p-preserved : goal.loop-p-preserved
loop-p-preserved c =
    let old : List (List ℕ) = c.args.self.now.damaged in
    let line : List Choice = c.args.line.now in
    let p : ℕ = c.loop-p.p in
    let item : List ℕ = c.index_mut.result.now in
    let many : length c.self.inside.damaged.items
    ≡ length old = ap (λ (m : MarksView). length m.damaged) c.self.view_is in
    let within : p < length old = omega (arith, many) in
    let same : item
    ≡ get_or old p item = c.index_mut.ensures.value ∙ ap (λ (xs : List (List ℕ)). get_or xs p
    item) c.loop-p.invariant.damaged ∙ next-same kept_damage old line p item c.requires in
    let choice : get_or c.choices-choices.result.now p (AtCheck 0) ≡ choice_at line p = ap
    (λ (xs : List Choice). get_or xs p (AtCheck 0)) c.choices-choices.ensures.value in
    let went : c.restart.new.self
    ≡ kept_damage (get_or old p item) (choice_at line p) = c.restart.ensures ∙ ap (λ (x :
    Choice). filter (is_kept x) item) choice ∙ ap (filter (is_kept (choice_at line p))) same in
    let next : suc p ≡ p + 1 = omega arith in
    record {
      damaged = ap
          (λ (xs : List (List ℕ)). set xs p c.restart.new.self) c.loop-p.invariant.damaged ∙ ap
          (set (so_far kept_damage old line p) p) went ∙ one_more kept_damage old line p item
          (AtCheck 0) within c.requires ∙ ap (so_far kept_damage old line) next;
      bars = c.loop-p.invariant.bars;
    }

pub returns : goal.returns
returns c =
    let old : List (List ℕ) = c.args.self.now.damaged in
    let line : List Choice = c.args.line.now in
    let many : length c.self.inside.damaged.items
    ≡ length old = ap (λ (m : MarksView). length m.damaged) c.self.view_is in
    let past : length old ≤ c.loop-p.p = omega (arith, many) in
    let all : c.loop-p.self-inside.damaged.items
    ≡ restarted_damage old line = c.loop-p.invariant.damaged ∙ all-done kept_damage old line
    c.loop-p.p past c.requires ∙ sym (damage-each old line) in
    let gone : c.clear.new.self ≡ replicate (length c.args.self.now.bars) None = c.clear.ensures ∙
    ap (λ (bars : List (Option ℕ)). replicate (length bars) None) c.loop-p.invariant.bars in
    ap (λ (xs : List (List ℕ)). let marks : MarksView = record
    { damaged = xs; bars = c.clear.new.self } in marks) all
    ∙ ap (λ (bars : List (Option ℕ)). let marks : MarksView = record
    { damaged = restarted_damage old line; bars = bars } in marks) gone
