-- What callers see of a world.
use Rattle.std.proofs.Common.{◌≡◌, ℕ, List, [], ◌∷◌, ◌++◌, refl, sym, ap, ◌∙◌}
use Rattle.std.proofs.lemmas.List.{append-nil}
use Rattle.std.proofs.lemmas.List.Elements.{filter_map-append}
use Rattle.line_tape.specs.declared.events.Event.TheVariants.{Send}
use Rattle.line_tape.specs.declared.items.Item.{Item}
use Rattle.line_tape.specs.declared.items.Item.TheVariants.{Message}
use Rattle.line_tape.specs.History.{Process, incarnation_at, with_event}
use Rattle.line_tape.specs.Spent.{next_name}
use Rattle.line_tape.specs.Views.{MarksView}
use Rattle.line_names.specs.declared.messages.MsgName.{MsgName}
use Rattle.line_rounds.specs.Tables.{between, with_list}
use Rattle.line_tape.specs.declared.modes.Mode.{Mode}
use Rattle.line_tape.specs.declared.modes.Mode.TheVariants.{Fifo, Unordered}
use Rattle.line_moves.specs.Listed.{newly_listed, ListedRound}
use Rattle.line_moves.specs.Modes.{copies_in}
use Rattle.line_moves.specs.Worlds.{message_of, names_on}
use Rattle.line_moves.proofs.WorldLemmas.{names-at, names-with}
use Rattle.line_world.specs.declared.replies.Reply.TheVariants.{Sent}
use Rattle.line_tape.specs.declared.steps.Step.TheVariants.{Send as SendStep}
use Rattle.line_world.specs.Machine.{Machine}
use Rattle.line_world.specs.Steps.{Does}

-- the machine that a world shows
abbrev pub seen : Mode → List Process → MarksView → ℕ → List ListedRound → List (List (List Item))
    → Machine
seen mode history marks last rounds queues = record {
  mode = mode;
  history = history;
  marks = marks;
  last_round = last;
  rounds = rounds;
  copies = names_on (copies_in mode queues);
}

-- a copy more is seen
pub copy_kept : (mode : Mode) (queues : List (List (List Item))) (p q : ℕ) (message : MsgName)
    → names_on (copies_in mode (with_list queues p q (between queues p q ++ Message message ∷ [])))
    ≡ copies_in mode (with_list (names_on (copies_in mode queues)) p q
    (between (names_on (copies_in mode queues)) p q ++ message ∷ []))
copy_kept Fifo queues p q message = refl
copy_kept Unordered queues p q message =
    names-with queues p q (between queues p q ++ Message message ∷ [])
    ∙ ap (λ (ms : List MsgName). with_list (names_on queues) p q ms)
    (filter_map-append message_of (between queues p q) (Message message ∷ []) ∙ ap
    (λ (ms : List MsgName). ms ++ message ∷ []) (sym (names-at queues p q)))

-- a message sent, as callers see it
pub Sends-seen : (mode : Mode) (history : List Process) (marks : MarksView) (last : ℕ)
    (rounds : List ListedRound) (queues : List (List (List Item))) (from to : ℕ) (body : List ℕ)
    (message : MsgName) (after : List Process) (marks_after : MarksView)
    (queues_after : List (List (List Item)))
    → message ≡ next_name history from
    → after ≡ with_event history from (Send to (incarnation_at history from) body)
    → marks_after ≡ marks
    → queues_after
    ≡ with_list queues from to (between queues from to ++ Message (next_name history from) ∷ [])
    → newly_listed mode history
    (with_event history from (Send to (incarnation_at history from) body)) last ≡ []
    → Does (seen mode history marks last rounds queues) (SendStep from to body) (Sent message)
    (seen mode after marks_after last rounds queues_after)
Sends-seen mode history marks last rounds queues from to body message after marks_after
    queues_after name sent marked put none = (
      ap (λ (m : MsgName). Sent m) name,
      ap (λ (h : List Process). seen mode h marks_after last rounds queues_after) sent
          ∙ ap (λ (v : MarksView). seen mode (with_event history from
          (Send to (incarnation_at history from) body)) v last rounds queues_after) marked
          ∙ ap (λ (q : List (List (List Item))). seen mode (with_event history from
          (Send to (incarnation_at history from) body)) marks last rounds q) put
          ∙ ap (λ (copies : List (List (List MsgName))). let m : Machine = record {
            mode = mode;
            history = with_event history from (Send to (incarnation_at history from)
                body);
            marks = marks;
            last_round = last;
            rounds = rounds;
            copies = copies;
          } in m)
          (copy_kept mode queues from to (next_name history from))
          ∙ ap (λ (listed : List ListedRound). let m : Machine = record {
            mode = mode;
            history = with_event history from (Send to (incarnation_at history from) body);
            marks = marks;
            last_round = last;
            rounds = listed;
            copies = copies_in mode (with_list (names_on (copies_in mode queues)) from to
                (between (names_on (copies_in mode queues)) from to
                ++ next_name history from ∷ []));
          } in m)
          (sym (append-nil rounds) ∙ ap (λ (new : List ListedRound). rounds ++ new) (sym none)),
    )
