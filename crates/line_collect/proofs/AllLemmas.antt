-- From the beginning: whatever one who lets go does, the collection that keeps everything may do.
use Rattle.std.proofs.Common.{◌≡◌, ℕ, zero, suc, ◌+◌, Bool, true, false, ◌&&◌, List, [], ◌∷◌}
use Rattle.std.proofs.Common.{length, replicate, get_or, None, refl, sym, ap, ◌∙◌, subst, arith}
use Rattle.std.specs.Prelude.{nat_lt, ◌==◌}
use Rattle.std.specs.List.{Contains, list_any}
use Rattle.std.proofs.lemmas.List.{length-map, length-replicate}
use Rattle.std.proofs.lemmas.List.FromFn.{length-map-range_with_len}
use Rattle.line_catalogue.proofs.AgreementLemmas.{Agrees-fresh}
use Rattle.line_collect.specs.Alongside.{Collected, CollectsAll, IsCollectedByWhole, IsLeftOfAll}
use Rattle.line_collect.specs.Alongside.{WholeAll}
use Rattle.line_collect.specs.Alongside.{Forgot, Recovered, Reported}
use Rattle.line_collect.specs.Collections.{CollectionView, gone_back, nothing_collected}
use Rattle.line_collect.specs.Lives.{LiveCollectionView, nothing_live}
use Rattle.line_collect.proofs.LeftLemmas.{forgotten_left, live_plan_is, recovered_left}
use Rattle.line_collect.proofs.ReportLemmas.{report_taken}
use Rattle.line_cuts.specs.Cuts.{Floor, cut_bar, cut_history, cut_marks, floor_check, floor_line}
use Rattle.line_cuts.specs.Cuts.{lost_checks, whole_line}
use Rattle.line_cuts.proofs.ConsistentCuts.{floor_at}
use Rattle.line_cuts.proofs.LatestCuts.{length_history}
use Rattle.line_cuts.proofs.StepCuts.{cut_process, process_cut, same_history}
use Rattle.line_cuts.proofs.SurvivalCuts.{bar_cut}
use Rattle.line_cuts.proofs.SameLists.{same_list}
use Rattle.line_live.proofs.RestartCuts.{none_at}
use Rattle.line_cuts.specs.Floors.{first_floor}
use Rattle.line_cuts.proofs.MarkedCuts.{damaged_left, length_damaged}
use Rattle.line_names.specs.declared.choices.Choice.{Choice}
use Rattle.line_names.specs.declared.choices.Choice.TheVariants.{Check as AtCheck}
use Rattle.line_names.specs.Lines.{choice_at}
use Rattle.line_plan.specs.declared.plans.Plan.{Plan}
use Rattle.line_tape.specs.declared.events.Event.{Event}
use Rattle.line_tape.specs.declared.events.Event.TheVariants.{Recv}
use Rattle.line_tape.specs.Front.{HasChoice, front}
use Rattle.line_tape.specs.History.{Process, fresh, process_at, tape_at}
use Rattle.line_tape.specs.Line.{events_before}
use Rattle.line_tape.specs.Survival.{is_damaged, survives}
use Rattle.line_tape.specs.Views.{MarksView, bar_at, no_marks}
use Rattle.line_tape.proofs.CutLemmas.{contains_nothing}
use Rattle.line_tape.proofs.LineLemmas.{front-empty}

-- a number of the first floor
zero_at : (n p : ℕ) → get_or {A = ℕ} (replicate {A = ℕ} n 0) p 0 ≡ 0
zero_at zero p = refl
zero_at (suc n) zero = refl
zero_at (suc n) (suc p) = zero_at n p

fresh_at : (n p : ℕ) → process_at (replicate n fresh) p ≡ fresh
fresh_at zero p = refl
fresh_at (suc n) zero = refl
fresh_at (suc n) (suc p) = fresh_at n p

nothing_marked : (n p : ℕ) → get_or {A = List ℕ} (replicate {A = List ℕ} n []) p [] ≡ []
nothing_marked zero p = refl
nothing_marked (suc n) zero = refl
nothing_marked (suc n) (suc p) = nothing_marked n p

-- neither holds
both_false : (b c : Bool) → c ≡ false → (b && c) ≡ false
both_false true c e = e
both_false false c e = refl

module _ (n : ℕ) where
  abbrev floor : Floor
  floor = first_floor n

  abbrev history : List Process
  history = replicate n fresh

  abbrev marks : MarksView
  marks = no_marks n

  tape_none : (p : ℕ) → tape_at history p ≡ []
  tape_none p = ap (λ (process : Process). process.tape) (fresh_at n p)

  before_none : (q : ℕ) (e : Event) → Contains (events_before history (floor_line floor) q) e → ⊥
  before_none q e among =
      let choice : Choice = choice_at (floor_line floor) q in
      let none : events_before history (floor_line floor) q
      ≡ [] = ap (λ (tape : List Event). front tape choice) (tape_none q) ∙ front-empty choice in
      contains_nothing e (subst (λ (es : List Event). Contains es e) none among)

  at_none : (p c : ℕ) → is_damaged marks p c ≡ false
  at_none p c = ap (λ (ds : List ℕ). list_any (λ d. d == c) ds) (nothing_marked n p)

  -- nothing was collected by either
  pub starts_left : IsLeftOfAll (nothing_live n) (nothing_collected n)
  starts_left = record {
    agrees = Agrees-fresh n;
    marked = length-replicate n [] ∙ sym (length-replicate n fresh);
    barred = length-replicate n None ∙ sym (length-replicate n fresh);
    sends = length-replicate n 0 ∙ sym (length-replicate n fresh);
    round = refl;
    is = record {
      line = record {
        length_is = length-map floor.checks (λ c. AtCheck c) ∙ length-replicate n 0 ∙ sym
            (length-replicate n fresh);
        exist = λ p. subst (HasChoice (tape_at history p))
            (sym (floor_at floor p ∙ ap AtCheck (zero_at n p))) (omega arith);
      };
      consistent = λ q m among. absurd (before_none q (Recv m) among);
      sent = λ p. omega (arith, zero_at n p);
      received = λ q m to below. absurd (omega (arith, below, zero_at n m.from));
    };
    stays = λ p h. subst (λ (c : ℕ). survives history marks [] p (AtCheck c) ≡ true)
        (sym (zero_at n p)) refl;
    history =
        same_history history (cut_history floor history) (sym (length_history floor history))
        (λ p h. fresh_at n p ∙ sym
        (process_cut floor history p h ∙ ap (cut_process floor p) (fresh_at n p)));
    marks = record {
      count = sym (length_damaged floor marks);
      bars =
          same_list None marks.bars (cut_marks floor marks).bars
          (sym (length-map-range_with_len (λ p. cut_bar (lost_checks floor p) (bar_at marks p)) 0
          (length marks.bars)))
          (λ p h. none_at n p ∙ sym
          (bar_cut floor history marks p ∙ ap (cut_bar (lost_checks floor p)) (none_at n p)));
      damaged = λ p c.
          at_none p c
          ∙ sym (damaged_left floor marks p c ∙ both_false
          (nat_lt (floor_check floor p) (c + lost_checks floor p))
          (is_damaged marks p (c + lost_checks floor p)) (at_none p (c + lost_checks floor p)));
    };
  }

-- what was done by both
record IsDoneByBoth (whole : CollectionView) (done : List Collected)
    (new : LiveCollectionView) : Type 0 where
  after : CollectionView
  does : WholeAll whole done after
  left : IsLeftOfAll new after

done_by_both : (live new : LiveCollectionView) (whole : CollectionView) (done : List Collected)
    → IsLeftOfAll live whole → CollectsAll live done new → IsDoneByBoth whole done new
done_by_both live new whole [] left same = record {
  after = whole;
  does = refl;
  left = subst
      (λ (l : LiveCollectionView). IsLeftOfAll l whole) (sym same) left;
}
done_by_both live new whole (Reported report told ∷ others) left
    (mid, (range, (none, does)), more) =
    let one = report_taken live whole left report told mid range none does in
    let rest = done_by_both mid new one.after others one.stays more in
    record { after = rest.after; does = (one.after, one.takes, rest.does); left = rest.left }
done_by_both live new whole (Recovered failed plan ∷ others) left (mid, is, more) =
    let line : List Choice = whole_line live.floor is.kept.line in
    let there : IsLeftOfAll mid (gone_back whole line) = subst
    (λ (l : LiveCollectionView). IsLeftOfAll l (gone_back whole line)) (sym is.new_is)
    (recovered_left live whole left failed is.kept is.plan_is) in
    let rest = done_by_both mid new (gone_back whole line) others there more in
    record {
      after = rest.after;
      does = (
        gone_back whole line,
        (
          live_plan_is live whole failed plan left
              (record { kept = is.kept; plan_is = is.plan_is; brought_back = is.brought_back }),
          ap
              (λ (p : Plan). gone_back whole p.line) (sym is.brought_back),
        ),
        rest.does,
      );
      left = rest.left;
    }
done_by_both live new whole (Forgot ∷ others) left (mid, forgets, more) =
    let rest = done_by_both mid new whole others
    (forgotten_left live whole left mid forgets) more in
    record { after = rest.after; does = (whole, refl, rest.does); left = rest.left }

pub all_done : (n : ℕ) (done : List Collected) (live : LiveCollectionView)
    → CollectsAll (nothing_live n) done live → IsCollectedByWhole n done live
all_done n done live collects =
    let both = done_by_both (nothing_live n) live (nothing_collected n) done
    (starts_left n) collects in
    record { whole = both.after; does = both.does; left = both.left }
