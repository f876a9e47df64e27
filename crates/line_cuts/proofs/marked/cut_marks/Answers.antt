-- The processes so far have what is left of their marks and bars, and the others none.
use Rattle.std.proofs.Common.{◌≡◌, ◌≢◌, ◌≤◌, [], ℕ, List, false, length, replicate, Option, None}
use Rattle.std.proofs.Common.{get_or, sym, ap, ◌∙◌, subst, arith, inl, inr}
use Rattle.std.specs.Prelude.{◌==◌}
use Rattle.std.specs.List.{list_any}
use Rattle.std.proofs.lemmas.Bool.{cases_eq, cases_lt}
use Rattle.std.proofs.lemmas.List.{get_or-replicate, get_or_past, length-replicate}
use Rattle.line_tape.specs.Survival.{is_damaged}
use Rattle.line_tape.specs.Views.{MarksView, bar_at, damaged_at, no_marks}
use Rattle.line_cuts.specs.Cuts.{Floor, cut_marks}
use Rattle.line_cuts.proofs.MarkedCuts.{length_bars, length_damaged, none_past, same_bars}
use Rattle.line_cuts.proofs.marked.cut_marks.Goals as goal

unmarked : (n p c : ℕ) → is_damaged (no_marks n) p c ≡ false
unmarked n p c =
    let none : damaged_at (no_marks n) p ≡ [] = elim (cases_lt p n) [
      | inl within ↦ get_or-replicate n p [] [] within
      | inr past ↦ get_or_past (replicate n []) p []
          (omega (arith, length-replicate {A = List ℕ} n []))
    ] in
    ap (λ (ds : List ℕ). list_any (λ d. d == c) ds) none

unbarred : (n p : ℕ) → bar_at (no_marks n) p ≡ None
unbarred n p = elim (cases_lt p n) [
  | inl within ↦ get_or-replicate n p None None within
  | inr past ↦ get_or_past (replicate n None) p None
      (omega (arith, length-replicate {A = Option ℕ} n None))
]

pub loop-q-init : goal.loop-q-init
loop-q-init c =
    let new : c.in_ok-cut.cut ≡ no_marks c.processes-n.result = c.in_ok-cut.ensures in
    let n : ℕ = c.processes-n.result in
    record {
      count = ap (λ (m : MarksView). length m.damaged) new ∙ length-replicate {A = List ℕ} n [] ∙
          c.processes-n.ensures.value;
      bars_count = ap (λ (m : MarksView). length m.bars) new ∙ length-replicate {A = Option ℕ} n
          None ∙ c.processes-n.ensures.value;
      marked = λ p x h. absurd (omega arith);
      unmarked = λ p x h. ap (λ (m : MarksView). is_damaged m p x) new ∙ unmarked n p x;
      barred = λ p h. absurd (omega arith);
      unbarred = λ p h. ap (λ (m : MarksView). bar_at m p) new ∙ unbarred n p;
    }

pub cut_damaged-requires : goal.cut_damaged-requires
cut_damaged-requires c =
    let p : ℕ = c.unwrap-p.result in
    let at : p ≡ c.loop-q.q = (rw c.unwrap-p.ensures at c.try_new.ensures).1 in
    record {
      process = omega (arith, c.processes-n.ensures.value);
      count = c.loop-q.invariant.count;
      none = λ x. c.loop-q.invariant.unmarked p x (omega arith);
    }

pub cut_bar-requires : goal.cut_bar-requires
cut_bar-requires c =
    let p : ℕ = c.unwrap-p.result in
    let at : p ≡ c.loop-q.q = (rw c.unwrap-p.ensures at c.try_new.ensures).1 in
    record {
      process = omega (
        arith,
        c.processes-n.ensures.value,
        c.loop-q.invariant.count,
        c.cut_damaged.ensures.count,
      );
      place = omega (
        arith,
        c.processes-n.ensures.value,
        c.loop-q.invariant.bars_count,
        ap
            (λ (bars : List (Option ℕ)). length bars) c.cut_damaged.ensures.bars,
      );
      none = ap (λ (bars : List (Option ℕ)). get_or bars p None) c.cut_damaged.ensures.bars ∙
          c.loop-q.invariant.unbarred p (omega arith);
    }

pub loop-q-preserved : goal.loop-q-preserved
loop-q-preserved c =
    let p : ℕ = c.unwrap-p.result in
    let at : p ≡ c.loop-q.q = (rw c.unwrap-p.ensures at c.try_new.ensures).1 in
    let mid : MarksView = c.cut_damaged.new.cut in
    let new : MarksView = c.cut_bar.new.cut in
    let marks : MarksView = c.args.marks.now in
    let floor : Floor = c.args.floor.now in
    let inv = c.loop-q.invariant in
    let same : (r x : ℕ) → is_damaged new r x ≡ is_damaged mid r x = λ r x. ap (λ
    (ds : List (List ℕ)). list_any (λ d. d == x) (get_or ds r [])) c.cut_bar.ensures.damaged in
    let bars : (r : ℕ) → bar_at mid r ≡ bar_at c.loop-q.cut r = λ r. ap
    (λ (bars : List (Option ℕ)). get_or bars r None) c.cut_damaged.ensures.bars in
    record {
      count = ap (λ (ds : List (List ℕ)). length ds) c.cut_bar.ensures.damaged ∙
          c.cut_damaged.ensures.count ∙ inv.count;
      bars_count = c.cut_bar.ensures.count ∙ ap
          (λ (bars : List (Option ℕ)). length bars) c.cut_damaged.ensures.bars ∙ inv.bars_count;
      marked = λ r x h. elim (cases_eq r p) [
        | inl here ↦ same r x ∙ subst (λ (k : ℕ). is_damaged mid k x ≡ is_damaged
            (cut_marks floor marks) k x) (sym here) (c.in_ok-cut_damaged.ensures.marked x)
        | inr apart ↦
            let apart_q : r ≢ c.loop-q.q = λ e. apart (omega arith) in
            same r x ∙ c.in_ok-cut_damaged.ensures.others r x apart ∙ inv.marked r x (omega arith)
      ];
      unmarked = λ r x h. same r x ∙ c.in_ok-cut_damaged.ensures.others r x
          (λ e. omega arith) ∙ inv.unmarked r x (omega arith);
      barred = λ r h. elim (cases_eq r p) [
        | inl here ↦ subst (λ (k : ℕ). bar_at new k ≡ bar_at (cut_marks floor marks) k)
            (sym here) c.cut_bar.ensures.bar
        | inr apart ↦
            let apart_q : r ≢ c.loop-q.q = λ e. apart (omega arith) in
            c.cut_bar.ensures.others r apart ∙ bars r ∙ inv.barred r (omega arith)
      ];
      unbarred = λ r h. c.cut_bar.ensures.others r (λ e. omega arith) ∙ bars r ∙ inv.unbarred r
          (omega arith);
    }

pub returns : goal.returns
returns c =
    let marks : MarksView = c.args.marks.now in
    let floor : Floor = c.args.floor.now in
    let cut : MarksView = c.loop-q.cut in
    let inv = c.loop-q.invariant in
    let all : length marks.damaged ≤ c.loop-q.q = omega (arith, c.processes-n.ensures.value) in
    record {
      count = inv.count ∙ sym (length_damaged floor marks);
      bars = same_bars cut.bars (cut_marks floor marks).bars
          (inv.bars_count ∙ sym (length_bars floor marks ∙ c.processes-n.ensures.bars))
          (λ p within. inv.barred p (omega (arith, inv.bars_count)));
      damaged = λ p x. elim (cases_lt p (length marks.damaged)) [
        | inl within ↦ inv.marked p x (omega arith)
        | inr past ↦ none_past cut p x (omega (arith, inv.count)) ∙ sym
            (none_past (cut_marks floor marks) p x (omega (arith, length_damaged floor marks)))
      ];
    }
