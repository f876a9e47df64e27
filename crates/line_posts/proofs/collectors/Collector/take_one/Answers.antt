use Rattle.std.proofs.Common.{◌≡◌, ◌≢◌, ◌<◌, ◌∙◌, ◌∷◌, [], ℕ, List, refl, length, sym, ap, subst}
use Rattle.std.proofs.Common.{arith}
use mathlib.Core.List.{IsPrefix}
use Rattle.line_posts.specs.Ends.{in_ends, items_at, known_at, known_rows, row_at, with_item, End}
use Rattle.line_posts.proofs.EndLemmas.{items_other, length_item, looked_rows, other_rows}
use Rattle.line_posts.proofs.EndLemmas.{rows_known, taken_rows}
use Rattle.line_tape.specs.declared.events.Event.{Event}
use Rattle.line_tape.specs.History.{Process, with_event}
use Rattle.line_catalogue.specs.declared.refusals.AddError.TheVariants.{OutOfMemory}
use Rattle.line_posts.specs.Collected.{CollectorView, IsNotAdded}
use Rattle.line_posts.specs.Forgotten.{taken_history}
use Rattle.line_posts.specs.Kept.{collector_at, floor_of, IsKeptOf, MayAdd}
use Rattle.line_posts.proofs.LeftLemmas.{keeps_still}
use Rattle.line_posts.proofs.ReportLemmas.{collected_is, collects, left_others, looked_only}
use Rattle.line_posts.proofs.ReportLemmas.{more_is, more_seen, same_first, taken_long, taken_more}
use Rattle.line_posts.proofs.collectors.Collector.take_one.Goals as goal

pub add_next-requires-clause-may : goal.add_next-requires-clause-may
add_next-requires-clause-may c =
    let I = c.self.inside in
    let N = c.reserve.new.self in
    let H = taken_history I.opening.value.processes (in_ends I.lines.items) in
    let event : c.front_at.result.now ≡ c.take_at-event.result = same_first _ _ _ _
    (sym c.front_at.ensures.1 ∙ c.take_at-event.ensures.first) in
    let may : MayAdd (floor_of I.forgotten) H c.args.p c.front_at.result.now =
    c.in_default.ensures.ok H c.self.invariant.1 in (
      H,
      keeps_still I.forgotten H I.catalogue.processes N.processes I.catalogue.marks N.marks
          c.reserve.ensures.processes c.reserve.ensures.marks c.self.invariant.1,
      subst (MayAdd (floor_of I.forgotten) H c.args.p) event may,
    )

pub returns-then-not-look_at-clause-ok : goal.returns-then-not-look_at-clause-ok
returns-then-not-look_at-clause-ok c =
    let I = c.self.inside in
    let at = c.get-at.ensures.value in
    let seen : IsPrefix (known_at I.lines.items c.args.p)
    (known_at c.look_at.new.ins.items c.args.p) = subst (λ (x : ℕ). IsPrefix (known_at
    I.lines.items x) (known_at c.look_at.new.ins.items x)) at c.look_at.ensures.seen in
    let others : (k : ℕ) → k ≢ c.args.p
    → known_at c.look_at.new.ins.items k
    ≡ known_at I.lines.items k = subst (λ (x : ℕ). (k : ℕ) → k ≢ x → known_at
    c.look_at.new.ins.items k ≡ known_at I.lines.items k) at c.look_at.ensures.others in (
      looked_only c.args.self.now I.opening.value.processes I.forgotten I.catalogue.marks
          (in_ends I.lines.items)
          (known_rows I.lines.items) I.capacity c.self.view_is c.self.inside.catalogue.marks
          (in_ends c.look_at.new.ins.items)
          (known_rows c.look_at.new.ins.items) refl c.look_at.ensures.ends
          (looked_rows I.lines.items c.look_at.new.ins.items c.args.p seen others),
      rows_known c.look_at.new.ins.items c.args.p ∙ subst (λ (x : ℕ). known_at
          c.look_at.new.ins.items x ≡ []) at (c.look_at.ensures.none c.if-not-look_at.true),
    )

pub returns-then-not-look_at-clause-more : goal.returns-then-not-look_at-clause-more
returns-then-not-look_at-clause-more c =
    let I = c.self.inside in
    let at = c.get-at.ensures.value in
    let seen : IsPrefix (known_at I.lines.items c.args.p)
    (known_at c.look_at.new.ins.items c.args.p) = subst (λ (x : ℕ). IsPrefix (known_at
    I.lines.items x) (known_at c.look_at.new.ins.items x)) at c.look_at.ensures.seen in
    let others : (k : ℕ) → k ≢ c.args.p
    → known_at c.look_at.new.ins.items k
    ≡ known_at I.lines.items k = subst (λ (x : ℕ). (k : ℕ) → k ≢ x → known_at
    c.look_at.new.ins.items k ≡ known_at I.lines.items k) at c.look_at.ensures.others in
    more_seen c.args.self.now _
    (looked_only c.args.self.now I.opening.value.processes I.forgotten I.catalogue.marks
    (in_ends I.lines.items)
    (known_rows I.lines.items) I.capacity c.self.view_is c.self.inside.catalogue.marks
    (in_ends c.look_at.new.ins.items)
    (known_rows c.look_at.new.ins.items) refl c.look_at.ensures.ends
    (looked_rows I.lines.items c.look_at.new.ins.items c.args.p seen others))

pub returns-then-not-look_at-clause-others : goal.returns-then-not-look_at-clause-others
returns-then-not-look_at-clause-others c =
    let I = c.self.inside in
    let at = c.get-at.ensures.value in
    let seen : IsPrefix (known_at I.lines.items c.args.p)
    (known_at c.look_at.new.ins.items c.args.p) = subst (λ (x : ℕ). IsPrefix (known_at
    I.lines.items x) (known_at c.look_at.new.ins.items x)) at c.look_at.ensures.seen in
    let others : (k : ℕ) → k ≢ c.args.p
    → known_at c.look_at.new.ins.items k
    ≡ known_at I.lines.items k = subst (λ (x : ℕ). (k : ℕ) → k ≢ x → known_at
    c.look_at.new.ins.items k ≡ known_at I.lines.items k) at c.look_at.ensures.others in
    left_others c.args.self.now I.opening.value.processes I.forgotten I.catalogue.marks
    (in_ends I.lines.items) (known_rows I.lines.items) I.capacity c.self.view_is c.args.p
    (in_ends c.look_at.new.ins.items) (known_rows c.look_at.new.ins.items)
    (λ q ne. ap (λ t. items_at t q) c.look_at.ensures.ends)
    (other_rows I.lines.items c.look_at.new.ins.items c.args.p others)

pub returns-in-Err-clause-err : goal.returns-in-Err-clause-err
returns-in-Err-clause-err c =
    let I = c.self.inside in
    let at = c.get-at.ensures.value in
    let seen : IsPrefix (known_at I.lines.items c.args.p)
    (known_at c.look_at.new.ins.items c.args.p) = subst (λ (x : ℕ). IsPrefix (known_at
    I.lines.items x) (known_at c.look_at.new.ins.items x)) at c.look_at.ensures.seen in
    let others : (k : ℕ) → k ≢ c.args.p
    → known_at c.look_at.new.ins.items k
    ≡ known_at I.lines.items k = subst (λ (x : ℕ). (k : ℕ) → k ≢ x → known_at
    c.look_at.new.ins.items k ≡ known_at I.lines.items k) at c.look_at.ensures.others in
    looked_only c.args.self.now I.opening.value.processes I.forgotten I.catalogue.marks
    (in_ends I.lines.items)
    (known_rows I.lines.items) I.capacity c.self.view_is c.self.inside.catalogue.marks
    (in_ends c.look_at.new.ins.items)
    (known_rows c.look_at.new.ins.items) refl c.look_at.ensures.ends
    (looked_rows I.lines.items c.look_at.new.ins.items c.args.p seen others)

pub returns-in-Err-clause-more : goal.returns-in-Err-clause-more
returns-in-Err-clause-more c =
    let I = c.self.inside in
    let at = c.get-at.ensures.value in
    let seen : IsPrefix (known_at I.lines.items c.args.p)
    (known_at c.look_at.new.ins.items c.args.p) = subst (λ (x : ℕ). IsPrefix (known_at
    I.lines.items x) (known_at c.look_at.new.ins.items x)) at c.look_at.ensures.seen in
    let others : (k : ℕ) → k ≢ c.args.p
    → known_at c.look_at.new.ins.items k
    ≡ known_at I.lines.items k = subst (λ (x : ℕ). (k : ℕ) → k ≢ x → known_at
    c.look_at.new.ins.items k ≡ known_at I.lines.items k) at c.look_at.ensures.others in
    more_seen c.args.self.now _
    (looked_only c.args.self.now I.opening.value.processes I.forgotten I.catalogue.marks
    (in_ends I.lines.items)
    (known_rows I.lines.items) I.capacity c.self.view_is c.self.inside.catalogue.marks
    (in_ends c.look_at.new.ins.items)
    (known_rows c.look_at.new.ins.items) refl c.look_at.ensures.ends
    (looked_rows I.lines.items c.look_at.new.ins.items c.args.p seen others))

pub returns-in-Err-clause-others : goal.returns-in-Err-clause-others
returns-in-Err-clause-others c =
    let I = c.self.inside in
    let at = c.get-at.ensures.value in
    let seen : IsPrefix (known_at I.lines.items c.args.p)
    (known_at c.look_at.new.ins.items c.args.p) = subst (λ (x : ℕ). IsPrefix (known_at
    I.lines.items x) (known_at c.look_at.new.ins.items x)) at c.look_at.ensures.seen in
    let others : (k : ℕ) → k ≢ c.args.p
    → known_at c.look_at.new.ins.items k
    ≡ known_at I.lines.items k = subst (λ (x : ℕ). (k : ℕ) → k ≢ x → known_at
    c.look_at.new.ins.items k ≡ known_at I.lines.items k) at c.look_at.ensures.others in
    left_others c.args.self.now I.opening.value.processes I.forgotten I.catalogue.marks
    (in_ends I.lines.items) (known_rows I.lines.items) I.capacity c.self.view_is c.args.p
    (in_ends c.look_at.new.ins.items) (known_rows c.look_at.new.ins.items)
    (λ q ne. ap (λ t. items_at t q) c.look_at.ensures.ends)
    (other_rows I.lines.items c.look_at.new.ins.items c.args.p others)

pub returns-then-is_err-clause-err : goal.returns-then-is_err-clause-err
returns-then-is_err-clause-err c =
    let I = c.self.inside in
    let at = c.get-at.ensures.value in
    let seen : IsPrefix (known_at I.lines.items c.args.p)
    (known_at c.look_at.new.ins.items c.args.p) = subst (λ (x : ℕ). IsPrefix (known_at
    I.lines.items x) (known_at c.look_at.new.ins.items x)) at c.look_at.ensures.seen in
    let others : (k : ℕ) → k ≢ c.args.p
    → known_at c.look_at.new.ins.items k
    ≡ known_at I.lines.items k = subst (λ (x : ℕ). (k : ℕ) → k ≢ x → known_at
    c.look_at.new.ins.items k ≡ known_at I.lines.items k) at c.look_at.ensures.others in
    looked_only c.args.self.now I.opening.value.processes I.forgotten I.catalogue.marks
    (in_ends I.lines.items)
    (known_rows I.lines.items) I.capacity c.self.view_is c.reserve.new.self.marks
    (in_ends c.look_at.new.ins.items)
    (known_rows c.look_at.new.ins.items) c.reserve.ensures.marks c.look_at.ensures.ends
    (looked_rows I.lines.items c.look_at.new.ins.items c.args.p seen others)

pub returns-then-is_err-clause-more : goal.returns-then-is_err-clause-more
returns-then-is_err-clause-more c =
    let I = c.self.inside in
    let at = c.get-at.ensures.value in
    let seen : IsPrefix (known_at I.lines.items c.args.p)
    (known_at c.look_at.new.ins.items c.args.p) = subst (λ (x : ℕ). IsPrefix (known_at
    I.lines.items x) (known_at c.look_at.new.ins.items x)) at c.look_at.ensures.seen in
    let others : (k : ℕ) → k ≢ c.args.p
    → known_at c.look_at.new.ins.items k
    ≡ known_at I.lines.items k = subst (λ (x : ℕ). (k : ℕ) → k ≢ x → known_at
    c.look_at.new.ins.items k ≡ known_at I.lines.items k) at c.look_at.ensures.others in
    more_seen c.args.self.now _
    (looked_only c.args.self.now I.opening.value.processes I.forgotten I.catalogue.marks
    (in_ends I.lines.items)
    (known_rows I.lines.items) I.capacity c.self.view_is c.reserve.new.self.marks
    (in_ends c.look_at.new.ins.items)
    (known_rows c.look_at.new.ins.items) c.reserve.ensures.marks c.look_at.ensures.ends
    (looked_rows I.lines.items c.look_at.new.ins.items c.args.p seen others))

pub returns-then-is_err-clause-others : goal.returns-then-is_err-clause-others
returns-then-is_err-clause-others c =
    let I = c.self.inside in
    let at = c.get-at.ensures.value in
    let seen : IsPrefix (known_at I.lines.items c.args.p)
    (known_at c.look_at.new.ins.items c.args.p) = subst (λ (x : ℕ). IsPrefix (known_at
    I.lines.items x) (known_at c.look_at.new.ins.items x)) at c.look_at.ensures.seen in
    let others : (k : ℕ) → k ≢ c.args.p
    → known_at c.look_at.new.ins.items k
    ≡ known_at I.lines.items k = subst (λ (x : ℕ). (k : ℕ) → k ≢ x → known_at
    c.look_at.new.ins.items k ≡ known_at I.lines.items k) at c.look_at.ensures.others in
    left_others c.args.self.now I.opening.value.processes I.forgotten I.catalogue.marks
    (in_ends I.lines.items) (known_rows I.lines.items) I.capacity c.self.view_is c.args.p
    (in_ends c.look_at.new.ins.items) (known_rows c.look_at.new.ins.items)
    (λ q ne. ap (λ t. items_at t q) c.look_at.ensures.ends)
    (other_rows I.lines.items c.look_at.new.ins.items c.args.p others)

pub returns-in-Err-clause-why : goal.returns-in-Err-clause-why
returns-in-Err-clause-why c =
    let I = c.self.inside in
    let N = c.look_at.new.ins.items in
    let w = subst (λ (t : CollectorView). c.args.p < length t.opening)
    (sym c.self.view_is) c.requires in
    let H = taken_history I.opening.value.processes (in_ends I.lines.items) in
    let L : List (End Event) = in_ends N in
    let refused : IsNotAdded
    (floor_of I.forgotten) H c.args.p c.front_at.result.now c.in-Err.why = c.in-Err.ensures.why
    H c.self.invariant.1
    (omega (arith, w, taken_long I.opening.value.processes (in_ends I.lines.items))) in (
      c.front_at.result.now,
      c.front_at.ensures.0,
      rows_known N c.args.p ∙ subst (λ (x : ℕ). known_at N x ≡ c.front_at.result.now
          ∷ c.front_at.ensures.0) c.get-at.ensures.value c.front_at.ensures.1,
      subst (λ (l : List (End Event)). IsNotAdded (floor_of I.forgotten)
          (taken_history I.opening.value.processes l) c.args.p c.front_at.result.now c.in-Err.why)
          (sym c.look_at.ensures.ends) refused,
    )

pub returns-then-is_err-clause-why : goal.returns-then-is_err-clause-why
returns-then-is_err-clause-why c =
    let I = c.self.inside in
    let N = c.look_at.new.ins.items in
    let H = taken_history I.opening.value.processes (in_ends I.lines.items) in
    let may : MayAdd (floor_of I.forgotten) H c.args.p c.front_at.result.now =
    c.in_default.ensures.ok H c.self.invariant.1 in (
      c.front_at.result.now,
      c.front_at.ensures.0,
      rows_known N c.args.p ∙ subst (λ (x : ℕ). known_at N x ≡ c.front_at.result.now
          ∷ c.front_at.ensures.0) c.get-at.ensures.value c.front_at.ensures.1,
      subst (λ (l : List (End Event)). IsNotAdded (floor_of I.forgotten)
          (taken_history I.opening.value.processes l) c.args.p c.front_at.result.now OutOfMemory)
          (sym c.look_at.ensures.ends) (may.named, may.short, may.few, may.well),
    )

pub invariant_of-self-2 : goal.invariant_of-self-2
invariant_of-self-2 c =
    let I = c.self.inside in
    let N = c.reserve.new.self in
    let O = I.opening.value.processes in
    let L : List (End Event) = in_ends I.lines.items in
    let T : List (End Event) = in_ends c.take_at-event.new.ins.items in
    let H = taken_history O L in
    let event : c.front_at.result.now ≡ c.take_at-event.result = same_first _ _ _ _
    (sym c.front_at.ensures.1 ∙ c.take_at-event.ensures.first) in
    let w = subst (λ (t : CollectorView). c.args.p < length t.opening)
    (sym c.self.view_is) c.requires in
    let long : length L ≡ length O = c.self.invariant.0.line_count in
    let looked = c.look_at.ensures.ends in
    let taken = c.take_at-event.ensures.ends in
    let p = c.get-at.ensures.value in
    let lines : T ≡ with_item L c.args.p c.take_at-event.result = cc (taken, looked, p) in
    let may : MayAdd (floor_of I.forgotten) H c.args.p c.take_at-event.result = subst (MayAdd
    (floor_of I.forgotten) H c.args.p) event (c.in_default.ensures.ok H c.self.invariant.1) in
    let keeps = keeps_still I.forgotten H I.catalogue.processes N.processes I.catalogue.marks
    N.marks c.reserve.ensures.processes c.reserve.ensures.marks c.self.invariant.1 in
    let more : taken_history O T ≡ with_event H c.args.p c.take_at-event.result = ap
    (taken_history O) lines ∙ taken_more O L c.args.p c.take_at-event.result w long in (
      collects O I.forgotten c.add_next.new.catalogue.marks T
          (known_rows c.take_at-event.new.ins.items) I.capacity (ap (λ (l : List (End Event)).
          length l) lines ∙ length_item L c.args.p c.take_at-event.result ∙ long),
      subst (λ (h : List Process). IsKeptOf I.forgotten h c.add_next.new.catalogue.processes
          c.add_next.new.catalogue.marks) (sym more) (c.add_next.ensures.kept H keeps may),
    )

pub returns-clause-ok : goal.returns-clause-ok
returns-clause-ok c =
    let I = c.self.inside in
    let at = c.get-at.ensures.value in
    let seen : IsPrefix (known_at I.lines.items c.args.p)
    (known_at c.look_at.new.ins.items c.args.p) = subst (λ (x : ℕ). IsPrefix (known_at
    I.lines.items x) (known_at c.look_at.new.ins.items x)) at c.look_at.ensures.seen in
    let others : (k : ℕ) → k ≢ c.args.p
    → known_at c.look_at.new.ins.items k
    ≡ known_at I.lines.items k = subst (λ (x : ℕ). (k : ℕ) → k ≢ x → known_at
    c.look_at.new.ins.items k ≡ known_at I.lines.items k) at c.look_at.ensures.others in
    let event = c.take_at-event.result in
    let T = c.take_at-event.new.ins.items in
    let w = subst (λ (t : CollectorView). c.args.p < length t.opening)
    (sym c.self.view_is) c.requires in
    let long = c.self.invariant.0.line_count in
    let marks = c.add_next.ensures.marks ∙ c.reserve.ensures.marks in
    let looked = c.look_at.ensures.ends in
    let taken = c.take_at-event.ensures.ends in
    let lines : in_ends T
    ≡ with_item (in_ends I.lines.items) c.args.p event = cc (taken, looked, at) in
    let first : known_at c.look_at.new.ins.items c.args.p
    ≡ event ∷ known_at T c.args.p = subst (λ (x : ℕ). known_at c.look_at.new.ins.items x
    ≡ event ∷ known_at T x) at c.take_at-event.ensures.first in
    let apart : (k : ℕ) → k ≢ c.args.p
    → known_at T k
    ≡ known_at I.lines.items k = λ k ne. subst (λ (x : ℕ). (k : ℕ) → k ≢ x → known_at T k ≡
    known_at c.look_at.new.ins.items k) at c.take_at-event.ensures.others k ne ∙ others k ne in
    let begins = taken_rows I.lines.items c.look_at.new.ins.items T c.args.p event seen first in
    let new = collected_is c.args.self.now I.opening.value.processes I.forgotten I.catalogue.marks
    (in_ends I.lines.items) (known_rows I.lines.items) I.capacity c.self.view_is c.args.p event
    c.add_next.new.catalogue.marks (in_ends T) (known_rows T) w long marks lines in (
      event,
      new,
      subst (λ (t : CollectorView). IsPrefix (row_at t.seen c.args.p)
          (event ∷ row_at (known_rows T) c.args.p)) c.self.view_is begins,
    )

pub returns-clause-more : goal.returns-clause-more
returns-clause-more c =
    let I = c.self.inside in
    let at = c.get-at.ensures.value in
    let seen : IsPrefix (known_at I.lines.items c.args.p)
    (known_at c.look_at.new.ins.items c.args.p) = subst (λ (x : ℕ). IsPrefix (known_at
    I.lines.items x) (known_at c.look_at.new.ins.items x)) at c.look_at.ensures.seen in
    let others : (k : ℕ) → k ≢ c.args.p
    → known_at c.look_at.new.ins.items k
    ≡ known_at I.lines.items k = subst (λ (x : ℕ). (k : ℕ) → k ≢ x → known_at
    c.look_at.new.ins.items k ≡ known_at I.lines.items k) at c.look_at.ensures.others in
    let event = c.take_at-event.result in
    let T = c.take_at-event.new.ins.items in
    let w = subst (λ (t : CollectorView). c.args.p < length t.opening)
    (sym c.self.view_is) c.requires in
    let long = c.self.invariant.0.line_count in
    let marks = c.add_next.ensures.marks ∙ c.reserve.ensures.marks in
    let looked = c.look_at.ensures.ends in
    let taken = c.take_at-event.ensures.ends in
    let lines : in_ends T
    ≡ with_item (in_ends I.lines.items) c.args.p event = cc (taken, looked, at) in
    let first : known_at c.look_at.new.ins.items c.args.p
    ≡ event ∷ known_at T c.args.p = subst (λ (x : ℕ). known_at c.look_at.new.ins.items x
    ≡ event ∷ known_at T x) at c.take_at-event.ensures.first in
    let apart : (k : ℕ) → k ≢ c.args.p
    → known_at T k
    ≡ known_at I.lines.items k = λ k ne. subst (λ (x : ℕ). (k : ℕ) → k ≢ x → known_at T k ≡
    known_at c.look_at.new.ins.items k) at c.take_at-event.ensures.others k ne ∙ others k ne in
    let begins = taken_rows I.lines.items c.look_at.new.ins.items T c.args.p event seen first in
    let old = collector_at I.opening.value.processes I.forgotten I.catalogue.marks
    (in_ends I.lines.items) (known_rows I.lines.items) I.capacity in
    let own = collected_is old I.opening.value.processes I.forgotten I.catalogue.marks
    (in_ends I.lines.items) (known_rows I.lines.items) I.capacity refl c.args.p event
    c.add_next.new.catalogue.marks (in_ends T) (known_rows T) w long marks lines in
    (more_is c.args.self.now old
    (collector_at I.opening.value.processes I.forgotten c.add_next.new.catalogue.marks
    (in_ends T) (known_rows T) I.capacity) c.args.p event c.self.view_is own c.self.invariant.0
    w begins (other_rows I.lines.items T c.args.p apart)).0

pub returns-clause-count : goal.returns-clause-count
returns-clause-count c =
    let I = c.self.inside in
    let at = c.get-at.ensures.value in
    let seen : IsPrefix (known_at I.lines.items c.args.p)
    (known_at c.look_at.new.ins.items c.args.p) = subst (λ (x : ℕ). IsPrefix (known_at
    I.lines.items x) (known_at c.look_at.new.ins.items x)) at c.look_at.ensures.seen in
    let others : (k : ℕ) → k ≢ c.args.p
    → known_at c.look_at.new.ins.items k
    ≡ known_at I.lines.items k = subst (λ (x : ℕ). (k : ℕ) → k ≢ x → known_at
    c.look_at.new.ins.items k ≡ known_at I.lines.items k) at c.look_at.ensures.others in
    let event = c.take_at-event.result in
    let T = c.take_at-event.new.ins.items in
    let w = subst (λ (t : CollectorView). c.args.p < length t.opening)
    (sym c.self.view_is) c.requires in
    let long = c.self.invariant.0.line_count in
    let marks = c.add_next.ensures.marks ∙ c.reserve.ensures.marks in
    let looked = c.look_at.ensures.ends in
    let taken = c.take_at-event.ensures.ends in
    let lines : in_ends T
    ≡ with_item (in_ends I.lines.items) c.args.p event = cc (taken, looked, at) in
    let first : known_at c.look_at.new.ins.items c.args.p
    ≡ event ∷ known_at T c.args.p = subst (λ (x : ℕ). known_at c.look_at.new.ins.items x
    ≡ event ∷ known_at T x) at c.take_at-event.ensures.first in
    let apart : (k : ℕ) → k ≢ c.args.p
    → known_at T k
    ≡ known_at I.lines.items k = λ k ne. subst (λ (x : ℕ). (k : ℕ) → k ≢ x → known_at T k ≡
    known_at c.look_at.new.ins.items k) at c.take_at-event.ensures.others k ne ∙ others k ne in
    let begins = taken_rows I.lines.items c.look_at.new.ins.items T c.args.p event seen first in
    let old = collector_at I.opening.value.processes I.forgotten I.catalogue.marks
    (in_ends I.lines.items) (known_rows I.lines.items) I.capacity in
    let own = collected_is old I.opening.value.processes I.forgotten I.catalogue.marks
    (in_ends I.lines.items) (known_rows I.lines.items) I.capacity refl c.args.p event
    c.add_next.new.catalogue.marks (in_ends T) (known_rows T) w long marks lines in
    (more_is c.args.self.now old
    (collector_at I.opening.value.processes I.forgotten c.add_next.new.catalogue.marks
    (in_ends T) (known_rows T) I.capacity) c.args.p event c.self.view_is own c.self.invariant.0
    w begins (other_rows I.lines.items T c.args.p apart)).1

pub returns-clause-others : goal.returns-clause-others
returns-clause-others c =
    let I = c.self.inside in
    let at = c.get-at.ensures.value in
    let seen : IsPrefix (known_at I.lines.items c.args.p)
    (known_at c.look_at.new.ins.items c.args.p) = subst (λ (x : ℕ). IsPrefix (known_at
    I.lines.items x) (known_at c.look_at.new.ins.items x)) at c.look_at.ensures.seen in
    let others : (k : ℕ) → k ≢ c.args.p
    → known_at c.look_at.new.ins.items k
    ≡ known_at I.lines.items k = subst (λ (x : ℕ). (k : ℕ) → k ≢ x → known_at
    c.look_at.new.ins.items k ≡ known_at I.lines.items k) at c.look_at.ensures.others in
    let event = c.take_at-event.result in
    let T = c.take_at-event.new.ins.items in
    let w = subst (λ (t : CollectorView). c.args.p < length t.opening)
    (sym c.self.view_is) c.requires in
    let long = c.self.invariant.0.line_count in
    let marks = c.add_next.ensures.marks ∙ c.reserve.ensures.marks in
    let looked = c.look_at.ensures.ends in
    let taken = c.take_at-event.ensures.ends in
    let lines : in_ends T
    ≡ with_item (in_ends I.lines.items) c.args.p event = cc (taken, looked, at) in
    let first : known_at c.look_at.new.ins.items c.args.p
    ≡ event ∷ known_at T c.args.p = subst (λ (x : ℕ). known_at c.look_at.new.ins.items x
    ≡ event ∷ known_at T x) at c.take_at-event.ensures.first in
    let apart : (k : ℕ) → k ≢ c.args.p
    → known_at T k
    ≡ known_at I.lines.items k = λ k ne. subst (λ (x : ℕ). (k : ℕ) → k ≢ x → known_at T k ≡
    known_at c.look_at.new.ins.items k) at c.take_at-event.ensures.others k ne ∙ others k ne in
    let begins = taken_rows I.lines.items c.look_at.new.ins.items T c.args.p event seen first in
    left_others c.args.self.now I.opening.value.processes I.forgotten I.catalogue.marks
    (in_ends I.lines.items) (known_rows I.lines.items) I.capacity c.self.view_is c.args.p
    (in_ends T) (known_rows T) (λ q ne. ap (λ t. items_at t q) lines ∙ items_other
    (in_ends I.lines.items) c.args.p q event ne) (other_rows I.lines.items T c.args.p apart)
