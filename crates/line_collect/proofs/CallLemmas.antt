-- What calls of what is kept are to who lets go.
use Rattle.std.proofs.Common.{◌≡◌, ℕ, ◌<◌, ◌≤◌, Bool, true, false, cond, List, length, Option, Some}
use Rattle.std.proofs.Common.{None, refl, sym, ap, ◌∙◌, subst, arith, inl, inr}
use Rattle.std.specs.Prelude.{◌==◌, nat_lt}
use Rattle.std.proofs.lemmas.Bool.{cases_lt, eq-eqb, false≢true}
use Rattle.line_collect.specs.Collections.{CollectionView, IsPlanToGoBack, gone_back}
use Rattle.line_collect.specs.declared.reports.Report.TheVariants as reports
use Rattle.line_collect.specs.Lives.{ForgetsReports, IsFloorOfLive, IsLivePlan, LiveCollectionView}
use Rattle.line_collect.specs.Lives.{RecoversLive, keeping}
use Rattle.line_collect.specs.Refusals.{is_stale, is_tape_full, refusal_of_report}
use Rattle.line_cuts.specs.Cuts.{Floor, cut_history, cut_marks, whole_floor}
use Rattle.line_cuts.specs.Floors.{HasNumbers}
use Rattle.line_cuts.specs.Marks.{AreSameMarks}
use Rattle.line_live.specs.CutMachines.{whole_plan}
use Rattle.line_plan.specs.declared.plans.Plan.{Plan}
use Rattle.line_tape.specs.declared.limits.TheConstants.{MOST_EVENTS, MOST_STATE}
use Rattle.line_tape.specs.Event.{checks}
use Rattle.line_tape.specs.History.{tape_at}
use Rattle.line_tape.proofs.RowLemmas.{checks_le}

pub planned : (live : LiveCollectionView) (failed : List Bool) (plan kept : Plan) → IsPlanToGoBack
    live.kept failed kept → plan ≡ whole_plan live.floor kept → IsLivePlan live failed plan
planned live failed plan kept is brought =
    record { kept = kept; plan_is = is; brought_back = brought }

pub recovered : (live : LiveCollectionView) (failed : List Bool) (plan kept : Plan)
    (new : CollectionView) → IsPlanToGoBack live.kept failed kept → plan ≡ whole_plan live.floor
    kept → new ≡ gone_back live.kept kept.line → RecoversLive live failed plan (keeping live new)
recovered live failed plan kept new is brought same =
    record { kept = kept; plan_is = is; brought_back = brought; new_is = ap (keeping live) same }

pub forgotten : (live : LiveCollectionView) (later floor : Floor) (kept : CollectionView)
    → IsFloorOfLive live.kept later → HasNumbers floor → floor ≡ whole_floor live.floor later
    → kept.history ≡ cut_history later live.kept.history
    → AreSameMarks kept.marks (cut_marks later live.kept.marks)
    → ForgetsReports live (record { floor = floor; kept = kept })
forgotten live later floor kept at numbers is history marks = record {
  later = later;
  at = at;
  numbers = subst HasNumbers is numbers;
  floor_is = is;
  history = history;
  marks = marks;
}

passed_over : (b : Bool) (code : ℕ) (rest : Option ℕ) → cond b (Some code) rest ≡ None
    → (b ≡ false) × (rest ≡ None)
passed_over true code rest unrefused = absurd (cc unrefused)
passed_over false code rest unrefused = (refl, unrefused)

below_most : (n : ℕ) → n ≤ MOST_EVENTS → (n == MOST_EVENTS) ≡ false → n < MOST_EVENTS
below_most n few other = elim (cases_lt n MOST_EVENTS) [
  | inl below ↦ below
  | inr past ↦ absurd (false≢true (sym other ∙ eq-eqb n MOST_EVENTS (omega (arith, few, past))))
]

-- a tape that a check came to has one check more, and few
pub check_few : (kept : CollectionView) (by inc : ℕ) (state : List ℕ) (round : Option ℕ)
    → length (tape_at kept.history by) ≤ MOST_EVENTS → refusal_of_report kept
    (reports.Check by inc state round) ≡ None → checks (tape_at kept.history by) < MOST_EVENTS
check_few kept by inc state round few none =
    let stale = passed_over (is_stale kept.history by inc) 47 _ none in
    let long = passed_over (nat_lt MOST_STATE (length state)) 5 _ stale.1 in
    let full = passed_over (is_tape_full kept.history by) 3 _ long.1 in
    omega (
      arith,
      checks_le (tape_at kept.history by),
      below_most
          (length (tape_at kept.history by)) few full.0,
    )
