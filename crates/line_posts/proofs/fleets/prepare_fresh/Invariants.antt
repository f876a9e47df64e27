use Rattle.std.proofs.Common.{◌≡◌, ℕ, length, replicate}
use Rattle.std.specs.Prelude.{slice_get, Some}
use Rattle.line_posts.specs.Journals.{JournalView}
use Rattle.line_tape.specs.History.{fresh}
use Rattle.line_posts.specs.Preparations.{IsJournalAt}
use Rattle.line_posts.proofs.fleets.prepare_fresh.Given as goal

abbrev pub invariant-loop-q : goal.invariant-loop-q
invariant-loop-q l = record {
  count : length l.journals.items ≡ l.q;
  each : (p : ℕ) (journal : JournalView) → slice_get l.journals.items p ≡ Some journal
      → IsJournalAt (replicate l.n fresh) 0 p journal;
}
