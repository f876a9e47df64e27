-- What a worker puts on its report line.
use Rattle.std.specs.Prelude.{◌≡◌, ℕ, List, take, drop}
use Rattle.line_tape.specs.declared.events.Event.{Event}
use Rattle.line_posts.specs.Ends.{with_items}
use Rattle.line_posts.specs.Posts.{PostView, reported_count}

-- the next k events that the worker has not reported yet
abbrev pub next_events : PostView → ℕ → List Event
next_events post k = take k (drop (reported_count post) post.tape)

-- the worker has put the next k events on its report line
abbrev pub HasReported : PostView → ℕ → PostView → Type 0
HasReported old k new = new ≡ record old { line = with_items old.line (next_events old k) }
