-- One process more.
use Rattle.std.proofs.Common.{◌≡◌, ◌<◌, ◌+◌, ◌++◌, ◌∷◌, [], List, Bool, ℕ, suc, length, get_or, map}
use Rattle.std.proofs.Common.{sym, ap, ◌∙◌, subst, arith}
use Rattle.std.specs.List.{flat_map, range_with_len}
use Rattle.std.proofs.lemmas.List.{flat_map_more, get_or_default}
use Rattle.line_names.specs.declared.choices.Choice.{Choice}
use Rattle.line_names.specs.declared.messages.MsgName.{MsgName}
use Rattle.line_tape.specs.declared.events.Event.{Event}
use Rattle.line_tape.specs.History.{Process}
use Rattle.line_tape.specs.Line.{events_before}
use Rattle.line_tape.specs.Transit.{Letter, open_letters}
use Rattle.line_tape.proofs.TransitLemmas.{range-push}
use Rattle.line_tape.proofs.histories.History.transit.Goals as goal

pub loop-sender-preserved : goal.loop-sender-preserved
loop-sender-preserved c =
    let of : ℕ → List MsgName = λ p. map (λ (letter : Letter). letter.message)
    (open_letters c.args.self.now.processes c.args.line.now p) in
    let s : ℕ = c.loop-sender.sender in
    let at : c.unwrap-p.result ≡ s = (rw c.unwrap-p.ensures at c.try_new.ensures).1 in
    let more : s + 1 ≡ suc s = omega arith in
    let last : 0 + s ≡ s = omega arith in
    let next : range_with_len 0 (s + 1) ≡ range_with_len 0 s ++ s ∷ [] = ap
    (range_with_len 0) more ∙ range-push s 0 ∙ ap (λ x. range_with_len 0 s ++ x ∷ []) last in
    c.in_ok-add_open.ensures ∙ ap (λ k. c.loop-sender.messages.items ++ of k) at ∙ ap
    (λ xs. xs ++ of s) c.loop-sender.invariant ∙ flat_map_more of [] (range_with_len 0 s) s ∙ ap
    (flat_map of) (sym next)
