-- What one who lets go answers, the collection that keeps everything may answer.
use Rattle.std.proofs.Common.{◌≡◌, ℕ, Bool, List, [], ◌∷◌, length, refl, sym, ap, ◌∙◌, subst}
use Rattle.std.specs.Prelude.{None, codes}
use Rattle.line_text.specs.Answers.{IsEverybody}
use Rattle.line_cuts.specs.Cuts.{whole_line}
use Rattle.line_cuts.proofs.LatestCuts.{length_history}
use Rattle.line_fields.specs.Records.{Record}
use Rattle.line_live.specs.CutMachines.{whole_plan}
use Rattle.line_tape.specs.History.{Process}
use Rattle.line_collect.specs.AllAnswers.{AnswersAllOf, AnswersAsAll, AnswersLiveAll}
use Rattle.line_collect.specs.AllAnswers.{IsAnsweredByAll}
use Rattle.line_collect.specs.Alongside.{IsLeftOfAll, refusal_with_room}
use Rattle.line_collect.specs.Answers.{DoesAsReported, Given, Refused, ReportAnswer}
use Rattle.line_collect.specs.Collections.{CollectionView, gone_back, nothing_collected}
use Rattle.line_collect.specs.declared.reports.Report.{Report}
use Rattle.line_collect.specs.declared.reports.Report.TheVariants as reports
use Rattle.line_collect.specs.LiveAnswers.{AnswersLive}
use Rattle.line_collect.specs.Lives.{LiveCollectionView, nothing_live}
use Rattle.line_collect.specs.Ranges.{IsReportInRange}
use Rattle.line_collect.proofs.AllLemmas.{starts_left}
use Rattle.line_collect.proofs.LeftLemmas.{forgotten_left, plan_to_go_back, recovered_left}
use Rattle.line_collect.proofs.LeftLemmas.{told_same}
use Rattle.line_collect.proofs.ReportLemmas.{report_taken}

-- what is answered by both
record IsAnsweredByBoth (whole : CollectionView) (report : Report) (answer : ReportAnswer)
    (new : LiveCollectionView) : Type 0 where
  after : CollectionView
  answers : AnswersAsAll whole report answer after
  stays : IsLeftOfAll new after

module _ (live new : LiveCollectionView) (whole : CollectionView)
    (left : IsLeftOfAll live whole) where
  -- nothing changes
  same_left : new ≡ live → IsLeftOfAll new whole
  same_left same = subst (λ (l : LiveCollectionView). IsLeftOfAll l whole) (sym same) left

  everybody_whole : (failed : List Bool) → IsEverybody (length live.kept.history) failed
      → IsEverybody (length whole.history) failed
  everybody_whole failed all = subst (λ n. IsEverybody n failed) (ap
      (λ (h : List Process). length h) left.history ∙ length_history live.floor whole.history) all

  answered : (report : Report) (answer : ReportAnswer) → IsReportInRange (length live.kept.history)
      report → AnswersLive live report answer new → IsAnsweredByBoth whole report answer new
  answered report (Refused code) range h =
      record { after = whole; answers = refl; stays = same_left h.1 }
  answered (reports.Send by inc to body) (Given records) range (none, (told, does, is)) =
      let one = report_taken live whole left
      (reports.Send by inc to body) told new range none does in
      record {
        after = one.after;
        answers = (
          one.takes.unrefused,
          subst (λ (r : List Record). DoesAsReported whole
              (reports.Send by inc to body) r one.after) (sym is) one.takes.does,
        );
        stays =
            one.stays;
      }
  answered (reports.Receive by inc message) (Given records) range (none, (told, does, is)) =
      let one = report_taken live whole left
      (reports.Receive by inc message) told new range none does in
      record {
        after = one.after;
        answers = (
          one.takes.unrefused,
          subst (λ (r : List Record). DoesAsReported whole
              (reports.Receive by inc message) r one.after) (sym is) one.takes.does,
        );
        stays =
            one.stays;
      }
  answered (reports.Check by inc state round) (Given records) range (none, (told, does, is)) =
      let one = report_taken live whole left
      (reports.Check by inc state round) told new range none does in
      record {
        after = one.after;
        answers = (
          one.takes.unrefused,
          subst (λ (r : List Record). DoesAsReported whole
              (reports.Check by inc state round) r one.after) (sym is) one.takes.does,
        );
        stays =
            one.stays;
      }
  answered (reports.Mark by inc sender round) (Given records) range (none, (told, does, is)) =
      let one = report_taken live whole left
      (reports.Mark by inc sender round) told new range none does in
      record {
        after = one.after;
        answers = (
          one.takes.unrefused,
          subst (λ (r : List Record). DoesAsReported whole
              (reports.Mark by inc sender round) r one.after) (sym is) one.takes.does,
        );
        stays =
            one.stays;
      }
  answered (reports.Damage by check) (Given records) range (none, (told, does, is)) =
      let one = report_taken live whole left (reports.Damage by check) told new range none does in
      record {
        after = one.after;
        answers = (
          one.takes.unrefused,
          subst (λ (r : List Record). DoesAsReported whole
              (reports.Damage by check) r one.after) (sym is) one.takes.does,
        );
        stays =
            one.stays;
      }
  answered (reports.Bar by check) (Given records) range (none, (told, does, is)) =
      let one = report_taken live whole left (reports.Bar by check) told new range none does in
      record {
        after = one.after;
        answers = (
          one.takes.unrefused,
          subst (λ (r : List Record). DoesAsReported whole
              (reports.Bar by check) r one.after) (sym is) one.takes.does,
        );
        stays =
            one.stays;
      }
  answered (reports.Plan failed) (Given records) range (none, (plan, is, text, same)) = record {
    after = whole;
    answers = (
      refl,
      (
        whole_plan live.floor plan,
        plan_to_go_back live whole left failed plan is,
        text ∙ told_same live whole left failed plan is (codes "planned"),
        refl,
      ),
    );
    stays = same_left same;
  }
  answered reports.Live (Given records) range (none, (failed, all, (plan, is, text, same))) =
      record {
        after = whole;
        answers = (
          refl,
          (
            failed,
            everybody_whole failed all,
            (
              whole_plan live.floor plan,
              plan_to_go_back live whole left failed plan is,
              text ∙
                  told_same live whole left failed plan is (codes "planned"),
              refl,
            ),
          ),
        );
        stays = same_left same;
      }
  answered (reports.Recover failed) (Given records) range (none, (plan, is, text, same)) = record {
    after = gone_back whole (whole_line live.floor plan.line);
    answers = (
      refl,
      (
        whole_plan live.floor plan,
        plan_to_go_back live whole left failed plan is,
        text ∙ told_same live whole left failed plan is (codes "recovered"),
        refl,
      ),
    );
    stays = subst (λ (l : LiveCollectionView). IsLeftOfAll l (gone_back whole (whole_line live.floor
        plan.line))) (sym same) (recovered_left live whole left failed plan is);
  }
  answered reports.Forget (Given records) range (none, (forgets, text)) =
      record { after = whole; answers = refl; stays = forgotten_left live whole left new forgets }
  answered reports.History (Given records) range (none, (text, same)) =
      record { after = whole; answers = refl; stays = same_left same }
  answered (reports.Bundle failed) (Given records) range (none, (plan, is, text, same)) =
      record { after = whole; answers = refl; stays = same_left same }
  answered (reports.Refused code) (Given records) range (none, (told, does, is)) = absurd does

-- and so one after another
record AreAnsweredByBoth (whole : CollectionView) (all : List (Report × ReportAnswer))
    (new : LiveCollectionView) : Type 0 where
  after : CollectionView
  answers : AnswersAllOf whole all after
  left : IsLeftOfAll new after

answered_by_both : (live new : LiveCollectionView) (whole : CollectionView)
    (all : List (Report × ReportAnswer)) → IsLeftOfAll live whole → AnswersLiveAll live all new
    → AreAnsweredByBoth whole all new
answered_by_both live new whole [] left same = record {
  after = whole;
  answers = refl;
  left = subst
      (λ (l : LiveCollectionView). IsLeftOfAll l whole) (sym same) left;
}
answered_by_both live new whole (one ∷ others) left (range, (mid, answers, more)) =
    let first = answered live mid whole left one.0 one.1 range answers in
    let rest = answered_by_both mid new first.after others first.stays more in
    record {
      after = rest.after;
      answers =
          (first.after, first.answers, rest.answers);
      left = rest.left;
    }

pub all_answered : (n : ℕ) (all : List (Report × ReportAnswer)) (live : LiveCollectionView)
    → AnswersLiveAll (nothing_live n) all live → IsAnsweredByAll n all live
all_answered n all live answers =
    let both = answered_by_both (nothing_live n) live (nothing_collected n) all
    (starts_left n) answers in
    record { whole = both.after; answers = both.answers; left = both.left }
