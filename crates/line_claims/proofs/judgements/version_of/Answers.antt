use Rattle.std.proofs.Common.{cond, ◌≡◌, ◌<◌, ◌≤◌, ◌∙◌, Bool, List, ℕ, true, false, ap, sym, length}
use Rattle.std.proofs.Common.{arith}
use Rattle.std.specs.Option.{is_some}
use Rattle.std.proofs.lemmas.List.FromFn.{length-map-range_with_len}
use Rattle.line_tape.specs.History.{Process}
use Rattle.line_tape.specs.Views.{bar_at}
use Rattle.line_claims.specs.Records.{damaged_of, in_order}
use Rattle.line_claims.specs.Versions.{earliest_version}
use Rattle.line_claims.proofs.PartLemmas.{bar_behind, bar_found, no_bar_found}
use Rattle.line_claims.proofs.judgements.version_of.Goals as goal

pub returns-then-is_some : goal.returns-then-is_some
returns-then-is_some c =
    let history : List Process = c.args.history.now.processes in
    let lt : c.loop-value.value < length history = omega arith in
    let here : is_some (bar_at c.args.marks.now c.loop-value.value)
    ≡ true = ap (λ (p : ℕ). is_some (bar_at c.args.marks.now p)) (sym c.in-Ok.ensures.1) ∙ ap
    is_some (sym c.bar_of.ensures) ∙ sym c.is_some.ensures ∙ c.if-is_some.true in
    ap (λ (b : Bool). cond b 2
    (earliest_version (length (in_order history c.args.marks.now).damaged)))
    (sym (c.loop-value.invariant ∙ bar_found (bar_at c.args.marks.now)
    (length history) c.loop-value.value lt here))

pub loop-value-preserved : goal.loop-value-preserved
loop-value-preserved c =
    let history : List Process = c.args.history.now.processes in
    let lt : c.loop-value.value < length history = omega arith in
    let free : is_some (bar_at c.args.marks.now c.loop-value.value)
    ≡ false = ap (λ (p : ℕ). is_some (bar_at c.args.marks.now p)) (sym c.in-Ok.ensures.1) ∙ ap
    is_some (sym c.bar_of.ensures) ∙ sym c.is_some.ensures ∙ c.if-is_some.false in
    c.loop-value.invariant ∙ bar_behind (bar_at c.args.marks.now)
    (length history) c.loop-value.value lt free

pub returns : goal.returns
returns c =
    let history : List Process = c.args.history.now.processes in
    let le : length history ≤ c.loop-value.value = omega arith in
    let many : ℕ = length (in_order history c.args.marks.now).damaged in
    let long : many ≡ length history = length-map-range_with_len
    (damaged_of history c.args.marks.now) 0 (length history) in
    c.earliest_version.ensures.value ∙ ap earliest_version (c.n-n.ensures.value ∙ sym long)
    ∙ ap (λ (b : Bool). cond b 2 (earliest_version many)) (sym (c.loop-value.invariant ∙
    no_bar_found (bar_at c.args.marks.now) (length history) c.loop-value.value le))
