use Rattle.std.proofs.Common.{◌+◌, ◌<◌, ◌≤◌, arith, length}
use Rattle.std.proofs.lemmas.Simd.{length-chunk}
use lib.Count.{count_trailing_zeros}
use lib.Lanes.{chunk}
use Rattle.line_fields.proofs.EndLemmas.{parted_at_comma, parted_begins, parted_ends, parted_line}
use Rattle.line_fields.proofs.EndLemmas.{parted_within}
use Rattle.line_fields.proofs.MarkLemmas.{marks_are}
use Rattle.line_fields.proofs.SplitLemmas.{feed_ends, other_byte, other_mark, parted_passes}
use Rattle.line_fields.proofs.SplitLemmas.{return_ends, under_begins, under_ends, under_first}
use Rattle.line_fields.proofs.SplitLemmas.{under_mark, under_more}
use Rattle.line_fields.proofs.splits.split.Goals as goal
use Rattle.line_fields.proofs.splits.split.Goals.{then-text-at-eq44+in_ok-push-2, else-text-at-eq44}
use Rattle.line_fields.proofs.splits.split.Goals.{then-loop-at-2-test+else-text-at-ne10}
use Rattle.line_fields.proofs.splits.split.Goals.{then-loop-at-2-test+then-text-at-ne10+else-text-at-ne13}
use Rattle.line_fields.proofs.splits.split.Goals.{else-loop-at-2-test}

pub loop-at-init : goal.loop-at-init
loop-at-init c = rw c.clear.ensures.items (parted_begins c.args.text.now)

pub loop-marks-init : goal.loop-marks-init
loop-marks-init c =
    let text = c.args.text.now in
    let at = c.loop-at.at in
    let room : at + 16 ≤ length text = omega
    (arith, c.loop-at-test.true, c.loop-at.invariant.inside) in
    under_begins text c.loop-at.ends.items at _ c.loop-at.invariant room
    (marks_are (chunk at 16 text) 16 (length-chunk at 16 text room) (omega arith))

pub bounds-text-mark : goal.bounds-text-mark
bounds-text-mark c =
    let s = c.loop-marks in
    let first = under_first c.args.text.now s.ends.items c.loop-at.at s.next s.marks s.invariant
    (omega (arith, c.loop-marks-test.true)) in
    omega (arith, first.within, s.invariant.high, s.invariant.room)

pub returns-then-text-mark-ne44-clause-line : goal.returns-then-text-mark-ne44-clause-line
returns-then-text-mark-ne44-clause-line c =
    let text = c.args.text.now in
    let s = c.loop-marks in
    let some : 0 < s.marks = omega (arith, c.loop-marks-test.true) in
    let first = under_first text s.ends.items c.loop-at.at s.next s.marks s.invariant some in
    parted_line text s.ends.items (s.next + count_trailing_zeros 64 s.marks)
    (under_mark text s.ends.items c.loop-at.at s.next s.marks s.invariant some)
    (λ lt. other_mark _ first.there c.if-text-mark-ne44.true)

pub returns-then-text-mark-ne44-clause-within : goal.returns-then-text-mark-ne44-clause-within
returns-then-text-mark-ne44-clause-within c =
    let s = c.loop-marks in
    let so = under_mark c.args.text.now s.ends.items c.loop-at.at s.next s.marks s.invariant
    (omega (arith, c.loop-marks-test.true)) in
    rw c.in_ok-push.ensures.items
    (parted_within c.args.text.now s.ends.items (s.next + count_trailing_zeros 64 s.marks) so)

pub returns-then-text-mark-ne44-clause-fields : goal.returns-then-text-mark-ne44-clause-fields
returns-then-text-mark-ne44-clause-fields c =
    let s = c.loop-marks in
    let so = under_mark c.args.text.now s.ends.items c.loop-at.at s.next s.marks s.invariant
    (omega (arith, c.loop-marks-test.true)) in
    rw c.in_ok-push.ensures.items
    (parted_ends c.args.text.now s.ends.items (s.next + count_trailing_zeros 64 s.marks) so)

pub overflow_shr-marks : goal.overflow_shr-marks
overflow_shr-marks c =
    let s = c.loop-marks in
    let first = under_first c.args.text.now s.ends.items c.loop-at.at s.next s.marks s.invariant
    (omega (arith, c.loop-marks-test.true)) in
    omega (arith, first.within, s.invariant.low)

pub loop-marks-preserved : goal.loop-marks-preserved
loop-marks-preserved c =
    let s = c.loop-marks in
    rw c.in_ok-push.ensures.items (under_more c.args.text.now s.ends.items c.loop-at.at s.next
    s.marks s.invariant (omega (arith, c.loop-marks-test.true)) c.if-text-mark-ne44.false)

pub loop-at-preserved : goal.loop-at-preserved
loop-at-preserved c =
    let s = c.loop-marks in
    under_ends c.args.text.now s.ends.items c.loop-at.at s.next s.marks s.invariant
    (omega (arith, c.loop-marks-test.false))

pub loop-at-2-preserved : goal.loop-at-2-preserved
loop-at-2-preserved c =
    let text = c.args.text.now in
    let s = c.loop-at-2 in
    let lt : s.at < length text = c.loop-at-2-test.true in
    elim c.if-text-at-eq44.branch [
      | then-text-at-eq44+in_ok-push-2 w ↦ rw (w.ends-is, w.in_ok-push-2.ensures.items)
          (parted_at_comma text s.ends.items s.at s.invariant lt w.if-text-at-eq44.true)
      | else-text-at-eq44 w ↦ rw w.ends-is (parted_passes text s.ends.items s.at s.invariant lt
          (other_byte _ w.if-text-at-eq44.false (c.if-text-at-ne10.true) (c.if-text-at-ne13.true)))
    ]

pub returns-clause-line : goal.returns-clause-line
returns-clause-line c =
    let s = c.loop-at-2 in
    parted_line c.args.text.now s.ends.items s.at s.invariant
    (λ lt. elim c.loop-at-2-test.branch [
      | then-loop-at-2-test+else-text-at-ne10 w ↦ feed_ends _ w.if-text-at-ne10.false
      | then-loop-at-2-test+then-text-at-ne10+else-text-at-ne13 w ↦ return_ends _
          w.if-text-at-ne13.false
      | else-loop-at-2-test w ↦ absurd (omega (arith, lt, w.loop-at-2-test.false))
    ])

pub returns-clause-within : goal.returns-clause-within
returns-clause-within c = rw c.in_ok-push-3.ensures.items
    (parted_within c.args.text.now c.loop-at-2.ends.items c.loop-at-2.at c.loop-at-2.invariant)

pub returns-clause-fields : goal.returns-clause-fields
returns-clause-fields c = rw c.in_ok-push-3.ensures.items
    (parted_ends c.args.text.now c.loop-at-2.ends.items c.loop-at-2.at c.loop-at-2.invariant)
