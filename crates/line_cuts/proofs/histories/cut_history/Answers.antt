-- The processes so far are what is left of them, and the others have done nothing.
use Rattle.std.proofs.Common.{◌≡◌, ◌≢◌, ◌<◌, ℕ, List, length, replicate, sym, ap, ◌∙◌, subst, arith}
use Rattle.std.proofs.Common.{inl, inr}
use Rattle.std.proofs.lemmas.Bool.{cases_eq, cases_lt}
use Rattle.std.proofs.lemmas.List.{get_or-replicate, get_or_past, get_or-set_same, get_or-set_other}
use Rattle.std.proofs.lemmas.List.{length-replicate, length-set}
use Rattle.line_tape.specs.History.{Process, fresh, process_at, tape_at, incarnation_at}
use Rattle.line_tape.specs.History.{with_incarnation}
use Rattle.line_cuts.specs.Cuts.{Floor, cut_history}
use Rattle.line_cuts.proofs.LatestCuts.{length_history}
use Rattle.line_cuts.proofs.StepCuts.{cut_process, process_cut, same_history}
use Rattle.line_cuts.proofs.AddedLemmas.{same_process}
use Rattle.line_cuts.proofs.histories.cut_history.Goals as goal

all_fresh : (n p : ℕ) → process_at (replicate n fresh) p ≡ fresh
all_fresh n p = elim (cases_lt p n) [
  | inl within ↦ get_or-replicate n p fresh fresh within
  | inr past ↦ get_or_past (replicate n fresh) p fresh (omega (arith, length-replicate n fresh))
]

-- the process whose incarnation is set
module _ (history : List Process) (p inc : ℕ) where
  set_count : length (with_incarnation history p inc) ≡ length history
  set_count = length-set history p (record (process_at history p) { incarnation = inc })

  set_here : p < length history → process_at (with_incarnation history p inc) p
      ≡ record (process_at history p) { incarnation = inc }
  set_here within =
      get_or-set_same history p (record (process_at history p) { incarnation = inc }) fresh within

  set_other : (q : ℕ) → q ≢ p → process_at (with_incarnation history p inc) q ≡ process_at history q
  set_other q apart =
      get_or-set_other history p q (record (process_at history p) { incarnation = inc }) fresh apart

pub loop-q-init : goal.loop-q-init
loop-q-init c = record {
  count = ap (λ (h : List Process). length h) c.in-Ok.ensures.ok ∙ length-replicate c.n-n.result
      fresh ∙ c.n-n.ensures.value;
  done = λ p h. absurd (omega arith);
  left = λ p h. ap
      (λ (h : List Process). process_at h p) c.in-Ok.ensures.ok ∙ all_fresh c.n-n.result p;
}

pub cut_tape-requires : goal.cut_tape-requires
cut_tape-requires c =
    let p : ℕ = c.unwrap-p.result in
    let old : List Process = c.loop-q.cut.processes in
    let history : List Process = c.args.history.now.processes in
    let at : p ≡ c.loop-q.q = (rw c.unwrap-p.ensures at c.try_new.ensures).1 in
    let within : p < length old = omega (arith, c.loop-q.invariant.count, c.n-n.ensures.value) in
    let set : c.set_incarnation.new.self.processes
    ≡ with_incarnation old p c.incarnation.result = c.set_incarnation.ensures.processes in
    record {
      process = omega (arith, c.loop-q.invariant.count);
      count = ap (λ (h : List Process). length h) set ∙ set_count old p c.incarnation.result ∙
          c.loop-q.invariant.count;
      empty = ap (λ (h : List Process). tape_at h p) set
          ∙ ap (λ (v : Process). v.tape) (set_here old p c.incarnation.result within)
          ∙ ap (λ (v : Process). v.tape) (c.loop-q.invariant.left p (omega arith));
    }

pub loop-q-preserved : goal.loop-q-preserved
loop-q-preserved c =
    let p : ℕ = c.unwrap-p.result in
    let old : List Process = c.loop-q.cut.processes in
    let new : List Process = c.cut_tape.new.cut.processes in
    let history : List Process = c.args.history.now.processes in
    let inc : ℕ = c.incarnation.result in
    let at : p ≡ c.loop-q.q = (rw c.unwrap-p.ensures at c.try_new.ensures).1 in
    let within : p < length old = omega (arith, c.loop-q.invariant.count, c.n-n.ensures.value) in
    let set : c.set_incarnation.new.self.processes
    ≡ with_incarnation old p inc = c.set_incarnation.ensures.processes in
    let cut = c.in_ok-cut_tape.ensures in
    let here : process_at new p ≡ cut_process c.args.floor.now p (process_at history p) =
    same_process (process_at new p) (cut_process c.args.floor.now p (process_at history p))
    (cut.incarnation ∙ ap (λ (h : List Process). incarnation_at h p) set ∙ ap
    (λ (v : Process). v.incarnation) (set_here old p inc within) ∙ c.incarnation.ensures)
    cut.tape in
    let other : (r : ℕ) → r ≢ p → process_at new r ≡ process_at old r =
    λ r apart. cut.others r apart ∙ ap
    (λ (h : List Process). process_at h r) set ∙ set_other old p inc r apart in
    record {
      count = cut.count ∙ ap
          (λ (h : List Process). length h) set ∙ set_count old p inc ∙ c.loop-q.invariant.count;
      done = λ r h. elim (cases_eq r p) [
        | inl same ↦ subst (λ (k : ℕ). process_at new k
            ≡ cut_process c.args.floor.now k (process_at history k)) (sym same) here
        | inr apart ↦
            let apart_q : r ≢ c.loop-q.q = λ e. apart (omega arith) in
            other r apart ∙ c.loop-q.invariant.done r (omega arith)
      ];
      left = λ r h. other r (λ e. omega arith) ∙ c.loop-q.invariant.left r (omega arith);
    }

pub returns : goal.returns
returns c =
    let cut : List Process = c.loop-q.cut.processes in
    let history : List Process = c.args.history.now.processes in
    let floor : Floor = c.args.floor.now in
    same_history cut (cut_history floor history)
    (c.loop-q.invariant.count ∙ sym (length_history floor history))
    (λ p within. c.loop-q.invariant.done p
    (omega (arith, c.n-n.ensures.value, c.loop-q.invariant.count)) ∙ sym
    (process_cut floor history p (omega (arith, c.loop-q.invariant.count))))
