-- All that the workers of a new generation take memory for.
use Rattle.std.specs.Prelude.{◌≡◌, ◌≤◌, ℕ, List, [], length, slice_get, Some, vec_capacity}
use Rattle.line_posts.specs.Journals.{JournalView}
use Rattle.line_tape.specs.History.{Process, tape_at}
use Rattle.line_posts.specs.Ends.{in_rows, out_rows, AreLinked, HaveSlots}
use Rattle.line_posts.specs.declared.fleets.Prepared.{Prepared}
use Rattle.line_posts.specs.Replays.{packets_of, AreAllReplays}

-- the journal of worker p at the opening; rounds up to the floor are old
pub record IsJournalAt (opening : List Process) (floor p : ℕ) (journal : JournalView) : Type 0 where
  pub n_is : journal.n ≡ length opening
  pub me_is : journal.me ≡ p
  pub floor_is : journal.floor ≡ floor
  pub tape_is : journal.tape ≡ tape_at opening p
  pub rounds_are : journal.rounds ≡ []

-- the journals of all workers at the opening; rounds up to the floor are old
pub record AreJournals (opening : List Process) (floor : ℕ) (journals : List JournalView) : Type 0
  where
    pub count : length journals ≡ length opening
    pub each : (p : ℕ) (journal : JournalView) → slice_get journals p ≡ Some journal
        → IsJournalAt opening floor p journal

-- each worker has its journal, what it keeps, a ring to each worker and a report line, all of this
-- capacity; and there is room for the workers
pub record IsPrepared (opening : List Process) (floor capacity : ℕ) (prepared : Prepared) : Type 0
  where
    pub journals : AreJournals opening floor prepared.journals.items
    pub replays : AreAllReplays opening (packets_of prepared.replays.items)
    pub rings : AreLinked (length opening) (length opening)
        (out_rows prepared.rings.outs.items) (in_rows prepared.rings.ins.items)
    pub slots : HaveSlots (length opening) (length opening) capacity
        (out_rows prepared.rings.outs.items)
    pub lines : AreLinked (length opening) 1
        (out_rows prepared.lines.outs.items) (in_rows prepared.lines.ins.items)
    pub line_slots : HaveSlots (length opening) 1 capacity (out_rows prepared.lines.outs.items)
    pub none : prepared.posts.items ≡ []
    pub room : length opening ≤ vec_capacity prepared.posts
