use Rattle.std.proofs.Common.{◌≡◌, ℕ, length}
use Rattle.std.specs.Prelude.{slice_get, Some}
use Rattle.line_posts.specs.Journals.{JournalView}
use Rattle.line_tape.specs.Restart.{restarted_history}
use Rattle.line_posts.specs.Preparations.{IsJournalAt}
use Rattle.line_posts.proofs.restarts.journals_at.Given as goal

abbrev pub invariant-loop-q : goal.invariant-loop-q
invariant-loop-q l = record {
  count : length l.journals.items ≡ l.q;
  each : (p : ℕ) (journal : JournalView) → slice_get l.journals.items p ≡ Some journal
      → IsJournalAt (restarted_history l.history.processes l.line) l.floor p journal;
}
