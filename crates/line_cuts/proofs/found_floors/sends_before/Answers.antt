-- One process more.
use Rattle.std.proofs.Common.{◌≡◌, ◌++◌, ◌∷◌, [], ℕ, List, map, sym, ap, ◌∙◌, arith}
use Rattle.std.specs.List.{range_with_len}
use Rattle.std.proofs.lemmas.List.FromFn.{map-range_with_len_more}
use Rattle.line_names.specs.declared.choices.Choice.{Choice}
use Rattle.line_tape.specs.declared.events.Event.{Event}
use Rattle.line_tape.specs.Event.{sends}
use Rattle.line_tape.specs.Front.{front}
use Rattle.line_tape.specs.History.{Process, tape_at}
use Rattle.line_tape.specs.Line.{events_before}
use Rattle.line_cuts.proofs.found_floors.sends_before.Goals as goal

pub loop-q-preserved : goal.loop-q-preserved
loop-q-preserved c =
    let history : List Process = c.args.history.now.processes in
    let line : List Choice = c.args.line.now in
    let p : ℕ = c.unwrap-p.result in
    let f : ℕ → ℕ = λ (q : ℕ). sends (events_before history line q) in
    let at : p ≡ c.loop-q.q = (rw c.unwrap-p.ensures at c.try_new.ensures).1 in
    let sent : c.sends_before.result ≡ f c.loop-q.q =
    c.sends_before.ensures
    ∙ ap (λ (t : List Event). sends (front t c.at.result)) c.tape.ensures.events
    ∙ ap (λ (choice : Choice). sends (front (tape_at history p) choice)) c.at.ensures
    ∙ ap f at in
    c.in_ok-push.ensures.items
    ∙ ap (λ (xs : List ℕ). xs ++ c.sends_before.result ∷ []) c.loop-q.invariant
    ∙ ap (λ (v : ℕ). map f (range_with_len 0 c.loop-q.q) ++ v ∷ []) sent
    ∙ sym (map-range_with_len_more f 0 c.loop-q.q c.loop-q.q (omega arith))
