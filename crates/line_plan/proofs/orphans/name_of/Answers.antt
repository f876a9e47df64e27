-- The incarnation is that of the send, or the present one past the sends.
use Rattle.std.proofs.Common.{◌≡◌, ℕ, List, length, get_or, inl, inr, None, Some, sym, ap, ◌∙◌}
use Rattle.std.specs.List.{slice_get}
use Rattle.std.proofs.lemmas.Bool.{cases_lt}
use Rattle.std.proofs.lemmas.List.{get_or_past}
use Rattle.std.proofs.lemmas.Option.{get_or_from_slice_get, none-some, slice_get-get_or}
use Rattle.line_names.specs.declared.messages.MsgName.{MsgName}
use Rattle.line_tape.specs.declared.events.Event.{Event}
use Rattle.line_tape.specs.Event.{incarnations_sent}
use Rattle.line_tape.specs.History.{tape_at, incarnation_at}
use Rattle.line_plan.proofs.orphans.name_of.Goals as goal

-- past the end there is nothing
none-past : (xs : List ℕ) (n d : ℕ) → slice_get xs n ≡ None → get_or xs n d ≡ d
none-past xs n d none = elim (cases_lt n (length xs)) [
  | inl within ↦ absurd (none-some (get_or xs n d) (sym none ∙ slice_get-get_or xs n d within))
  | inr past ↦ get_or_past xs n d past
]

pub returns-in-Some : goal.returns-in-Some
returns-in-Some c =
    let p : ℕ = c.args.p in
    let number : ℕ = c.args.number in
    let sent : List ℕ = incarnations_sent (tape_at c.args.history.now.processes p) in
    let found : slice_get sent number
    ≡ Some c.in-Some.inc = ap (λ (es : List Event). slice_get (incarnations_sent es) number)
    (sym c.tape.ensures.events) ∙ sym c.sent_under.ensures ∙ c.in-Some.is in
    ap (λ (inc : ℕ). let name : MsgName = record { from = p; inc = inc; number = number } in name)
    (sym (get_or_from_slice_get sent number c.in-Some.inc
    (incarnation_at c.args.history.now.processes p) found))

pub returns-in-None : goal.returns-in-None
returns-in-None c =
    let p : ℕ = c.args.p in
    let number : ℕ = c.args.number in
    let sent : List ℕ = incarnations_sent (tape_at c.args.history.now.processes p) in
    let none : slice_get sent number ≡ None = ap (λ (es : List Event). slice_get (incarnations_sent
    es) number) (sym c.tape.ensures.events) ∙ sym c.sent_under.ensures ∙ c.in-None.is in
    ap (λ (inc : ℕ). let name : MsgName = record { from = p; inc = inc; number = number } in name)
    (c.incarnation.ensures ∙ sym
    (none-past sent number (incarnation_at c.args.history.now.processes p) none))
