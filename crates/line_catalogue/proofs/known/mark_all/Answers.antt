-- There are as many marks as the last start tells, and process by process more of them are set.
use Rattle.std.proofs.Common.{◌≡◌, ◌+◌, ◌++◌, ◌-◌, ℕ, List, Bool, true, false, get_or, length}
use Rattle.std.proofs.Common.{replicate, take, drop, sym, ap, ◌∙◌, subst, arith, inl, inr}
use Rattle.std.proofs.lemmas.Bool.{cases_lt, false≢true}
use Rattle.std.proofs.lemmas.List.{get_or-replicate, get_or_default, get_or_past, length-replicate}
use Rattle.line_names.specs.declared.choices.Choice.{Choice}
use Rattle.line_tape.specs.History.{Process}
use Rattle.line_catalogue.specs.Known.{AreKnown, AreMarkRows, AreReceiptsMarkedSince}
use Rattle.line_catalogue.specs.Left.{place_at, start_at}
use Rattle.line_catalogue.proofs.KnownLemmas.{noted-more, rows-same, starts-last, written-back}
use Rattle.line_catalogue.proofs.known.mark_all.Goals as goal

-- none of so many marks is set
none-marked : (marks : List Bool) (n i : ℕ) → marks ≡ replicate n false
    → get_or marks i false ≡ true → ⊥
none-marked marks n i are marked = false≢true (elim (cases_lt i n) [
  | inl within ↦ sym (get_or-replicate n i false false within)
  | inr past ↦ sym (get_or_past (replicate n false) i false
      (omega (arith, past, length-replicate {A = Bool} n false)))
] ∙ sym (ap (λ (ms : List Bool). get_or ms i false) are) ∙ marked)

pub loop-q-init : goal.loop-q-init
loop-q-init c =
    let starts : List ℕ = c.in_ok-starts.starts.items in
    let marks : List Bool = c.in_ok-marks.marks.items in
    let count : c.len.result ≡ length starts = c.len.ensures ∙ c.in_ok-starts.starts.ok.0 in
    let last : ℕ = c.index-all.result.now in
    let at : last
    ≡ start_at starts (length starts - 1) = c.index-all.ensures ∙ sym
    (get_or_default starts (c.len.result - 1) 0 last (omega (
      arith,
      count,
      c.in_ok-starts.ensures.count,
    ))) ∙ ap (λ (k : ℕ). start_at starts (k - 1)) count in
    let all : length marks ≡ start_at starts (length starts - 1) = omega
    (arith, c.in_ok-marks.ensures.len, c.in_ok-marks.marks.ok.0, at) in
    record {
      rows = record {
        count = c.in_ok-starts.ensures.count;
        sorted = c.in_ok-starts.ensures.sorted;
        within = λ p. omega (arith, all, starts-last starts p c.in_ok-starts.ensures.sorted);
      };
      known = λ p k inside mark. absurd (none-marked marks c.index-all.result.now (start_at starts p
          + k) (c.in_ok-marks.ensures.items_if_clones_equal (λ y same. same)) mark.1);
      noted = λ q l. absurd (omega (arith, l));
    }

pub loop-q-preserved : goal.loop-q-preserved
loop-q-preserved c =
    let history : List Process = c.args.history.now.processes in
    let line : List Choice = c.args.line.now in
    let bases : List ℕ = c.loop-p.bases.items in
    let starts : List ℕ = c.in_ok-starts.starts.items in
    let old : List Bool = c.loop-q.marks.items in
    let lent : List Bool = c.as_mut_slice.result.now in
    let new : List Bool = c.mark_receipts.new.marks in
    let r : ℕ = c.loop-q.q in
    let at : c.unwrap.result ≡ r = (rw c.unwrap.ensures at c.try_new.ensures).1 in
    let is : length lent
    ≡ length old = ap (λ (ms : List Bool). length ms) c.as_mut_slice.ensures.value in
    let same : length new ≡ length old = omega (arith, c.mark_receipts.auto.marks, is) in
    let back : take c.loop-q.marks.len (new ++ drop (length new) old)
    ≡ new = written-back c.loop-q.marks.len new old c.loop-q.marks.ok.0 same in
    let known : AreKnown history line bases starts new =
    subst (λ (xs : List ℕ). AreKnown history line bases xs new) c.as_slice-in-loop-q-2.ensures.value
    (subst (λ (bs : List ℕ). AreKnown history line bs c.as_slice-in-loop-q-2.result.now new)
    c.as_slice-in-loop-q.ensures.value
    (c.mark_receipts.ensures.known
    (subst (λ (bs : List ℕ). AreKnown history line bs c.as_slice-in-loop-q-2.result.now lent)
    (sym c.as_slice-in-loop-q.ensures.value)
    (subst (λ (xs : List ℕ). AreKnown history line bases xs lent)
    (sym c.as_slice-in-loop-q-2.ensures.value) (subst (AreKnown history line bases starts)
    (sym c.as_mut_slice.ensures.value) c.loop-q.invariant.known)))))
    in
    let kept : (i : ℕ) → get_or old i false ≡ true
    → get_or new i false ≡ true = λ i marked. c.mark_receipts.ensures.kept i
    (ap (λ (ms : List Bool). get_or ms i false) c.as_mut_slice.ensures.value ∙ marked) in
    let noted : AreReceiptsMarkedSince history line bases starts new r
    (place_at c.args.places.now r) =
    subst (λ (k : ℕ). AreReceiptsMarkedSince history line bases starts new k
    (place_at c.args.places.now r)) at
    (subst (λ (xs : List ℕ). AreReceiptsMarkedSince history line bases xs new c.unwrap.result
    (place_at c.args.places.now r)) c.as_slice-in-loop-q-2.ensures.value
    (subst (λ (bs : List ℕ). AreReceiptsMarkedSince history line bs
    c.as_slice-in-loop-q-2.result.now new c.unwrap.result (place_at c.args.places.now r))
    c.as_slice-in-loop-q.ensures.value c.mark_receipts.ensures.noted))
    in
    record {
      rows = subst (AreMarkRows history starts) (sym back)
          (rows-same history starts old new same c.loop-q.invariant.rows);
      known = subst (AreKnown history line bases starts) (sym back) known;
      noted = λ q l. subst (λ (ms : List Bool). AreReceiptsMarkedSince history line bases starts ms
          q (place_at c.args.places.now q)) (sym back) (elim (cases_lt q r) [
            | inl earlier ↦ λ e among. noted-more history bases starts old new q e kept
                (c.loop-q.invariant.noted q earlier e among)
            | inr here ↦
                let one : r ≡ q = omega (arith, l, here) in
                subst (λ (k : ℕ). AreReceiptsMarkedSince history line bases starts new k
                (place_at c.args.places.now k)) one noted
          ]);
    }
