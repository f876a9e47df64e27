-- One number of the row more.
use Rattle.std.proofs.Common.{◌≡◌, ◌<◌, ◌≤◌, ◌+◌, ◌++◌, ℕ, List, get_or, sym, ap, ◌∙◌, append-nil}
use Rattle.std.proofs.Common.{arith, inl, inr, ◌⊎◌}
use Rattle.std.proofs.lemmas.Bool.{cases_lt}
use Rattle.line_names.specs.declared.choices.Choice.{Choice}
use Rattle.line_names.specs.declared.messages.MsgName.{MsgName}
use Rattle.line_tape.specs.History.{Process}
use Rattle.line_catalogue.specs.Left.{open_first}
use Rattle.line_catalogue.proofs.OpenLemmas.{gap-to, none_between}
use Rattle.line_catalogue.proofs.senders.add_old.Goals.{then-next-number+then-number-end+in_ok-add_if_open}
use Rattle.line_catalogue.proofs.senders.add_old.Goals.{else-next-number}
use Rattle.line_catalogue.proofs.senders.add_old.Goals.{else-next-number-via-then-next-number+else-number-end}
use Rattle.line_catalogue.proofs.senders.add_old.Goals.{else-next-number-via-else-next-number}
use Rattle.line_catalogue.proofs.senders.add_old.Goals as goal

pub loop-number-init : goal.loop-number-init
loop-number-init c = record {
  low = omega arith;
  found = sym (append-nil c.args.messages.now.items);
  passed = λ j l. absurd (omega (arith, l));
}

pub loop-number-preserved : goal.loop-number-preserved
loop-number-preserved c =
    let history : List Process = c.args.history.now.processes in
    let line : List Choice = c.args.line.now in
    let p : ℕ = c.args.p in
    let row : List ℕ = c.args.row.now in
    let old : List MsgName = c.args.messages.now.items in
    let i : ℕ = c.loop-number.number-index in
    let next : ℕ = c.loop-number.next in
    let number : ℕ = get_or row i 0 in
    elim c.if-next-number.branch [
      | then-next-number+then-number-end+in_ok-add_if_open w ↦
          let after : c.if-next-number.next ≡ number + 1 = w.next-is in
          let up : next ≤ number = w.if-next-number.true in
          let below : number < c.args.end = w.if-number-end.true in
          let none : open_first history line p next
          ≡ open_first history line p number = gap-to history line p c.args.end row
          c.requires.end c.requires.held next number up (omega (arith, below))
          (none_between row c.args.end i next number c.requires.sorted
          c.loop-number.invariant.passed (omega (arith, below)) (λ _. omega arith)) in
          record {
            low = omega (arith, after, below);
            found = ap (λ v. v.items) w.messages-is ∙ w.in_ok-add_if_open.ensures old
                (c.loop-number.invariant.found ∙ ap (λ (xs : List MsgName). old ++ xs) none) ∙ ap
                (λ (k : ℕ). old ++ open_first history line p k) (sym after);
            passed = λ j l. elim (cases_lt j i) [
              | inl earlier ↦ elim (c.loop-number.invariant.passed j earlier) [
                | inl a ↦ inl (omega (arith, a, up, after))
                | inr b ↦ inr b
              ]
              | inr here ↦
                  let same : j ≡ i = omega (arith, l) in
                  inl (omega (arith, after, ap (λ (k : ℕ). get_or row k 0) same))
            ];
          }
      | else-next-number w ↦
          let after : c.if-next-number.next ≡ next = w.next-is in
          let apart : (number < next) ⊎ (c.args.end ≤ number) = elim w.else-next-number.branch [
            | else-next-number-via-then-next-number+else-number-end v ↦ inr v.if-number-end.false
            | else-next-number-via-else-next-number v ↦ inl v.if-next-number.false
          ] in
          record {
            low = omega (arith, after, c.loop-number.invariant.low);
            found = ap (λ v. v.items) w.messages-is ∙ c.loop-number.invariant.found ∙ ap
                (λ (k : ℕ). old ++ open_first history line p k) (sym after);
            passed = λ j l. elim (cases_lt j i) [
              | inl earlier ↦ elim (c.loop-number.invariant.passed j earlier) [
                | inl a ↦ inl (omega (arith, a, after))
                | inr b ↦ inr b
              ]
              | inr here ↦
                  let same : j ≡ i = omega (arith, l) in
                  elim apart [
                    | inl a ↦ inl (omega (arith, a, after, ap (λ (k : ℕ). get_or row k 0) same))
                    | inr b ↦ inr (omega (arith, b, ap (λ (k : ℕ). get_or row k 0) same))
                  ]
            ];
          }
    ]

pub returns : goal.returns
returns c =
    let history : List Process = c.args.history.now.processes in
    let line : List Choice = c.args.line.now in
    let p : ℕ = c.args.p in
    let row : List ℕ = c.args.row.now in
    let i : ℕ = c.loop-number.number-index in
    let next : ℕ = c.loop-number.next in
    let end : ℕ = c.args.end in
    let none : open_first history line p next
    ≡ open_first history line p end = gap-to history line p end row c.requires.end
    c.requires.held next end c.loop-number.invariant.low (omega arith)
    (none_between row end i next end c.requires.sorted c.loop-number.invariant.passed
    (omega arith) (λ l. absurd (omega (arith, l, c.loop-number-test.false)))) in
    c.loop-number.invariant.found ∙ ap (λ (xs : List MsgName). c.args.messages.now.items ++ xs) none
