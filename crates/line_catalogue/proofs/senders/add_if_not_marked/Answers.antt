-- What the mark tells, or what is asked.
use Rattle.std.proofs.Common.{◌≡◌, ◌++◌, ◌∷◌, [], ℕ, List, Option, Some, get_or, refl, sym, ap, ◌∙◌}
use Rattle.std.proofs.Common.{subst, arith}
use Rattle.std.specs.Prelude.{IsSome}
use Rattle.std.specs.List.{slice_get}
use Rattle.std.proofs.lemmas.List.{append_assoc}
use Rattle.std.proofs.lemmas.Option.{same_Some, slice_get-get_or}
use Rattle.line_names.specs.declared.choices.Choice.{Choice}
use Rattle.line_names.specs.declared.messages.MsgName.{MsgName}
use Rattle.line_names.specs.Lines.{choice_at}
use Rattle.line_tape.specs.declared.events.Event.{Event}
use Rattle.line_tape.specs.Event.{incarnations_sent}
use Rattle.line_tape.specs.Front.{place}
use Rattle.line_tape.specs.History.{Process, tape_at}
use Rattle.line_tape.proofs.CutLemmas.{sends_take}
use Rattle.line_tape.proofs.EventLemmas.{name_of}
use Rattle.line_tape.proofs.StayLemmas.{holds_whole}
use Rattle.line_catalogue.specs.Left.{open_first}
use Rattle.line_catalogue.proofs.KnownLemmas.{open-marked, open-unmarked}
use Rattle.line_catalogue.proofs.senders.add_if_not_marked.Goals as goal

pub unwrap-requires : goal.unwrap-requires
unwrap-requires c =
    let tape : List Event = tape_at c.args.history.now.processes c.args.sender.now.p in
    let k : ℕ = c.args.number in
    let some : c.sent_under.result
    ≡ Some (get_or (incarnations_sent tape) k 0) = c.sent_under.ensures ∙ ap
    (λ (xs : List Event). slice_get (incarnations_sent xs) k) c.tape.ensures.events ∙
    slice_get-get_or (incarnations_sent tape) k 0 (omega (
      arith,
      c.requires.number,
      sends_take
          tape (place tape (choice_at c.args.line.now c.args.sender.now.p)),
    )) in
    subst (λ (o : Option ℕ). IsSome o) (sym some) refl

pub returns-in-Some-true : goal.returns-in-Some-true
returns-in-Some-true c = λ before so_far.
    let history : List Process = c.args.history.now.processes in
    let line : List Choice = c.args.line.now in
    let marked = c.requires.known (c.in-Some-true.is ∙ ap Some c.in-Some-true.field-0-test) in
    so_far ∙ ap (λ (xs : List MsgName). before ++ xs)
    (sym (open-marked history line c.args.sender.now.p c.args.number marked c.requires.number))

-- the message that was sent under that number is this one
pub returns-in_ok-push-in-Some-false : goal.returns-in_ok-push-in-Some-false
returns-in_ok-push-in-Some-false c = λ before so_far.
    let history : List Process = c.args.history.now.processes in
    let line : List Choice = c.args.line.now in
    let p : ℕ = c.args.sender.now.p in
    let k : ℕ = c.args.number in
    let clear = c.requires.told c.if-closed.true
    (c.in-Some-false.is ∙ ap Some c.in-Some-false.field-0-test) in
    let one = open-unmarked history line p k clear c.requires.number in
    let inc : ℕ = c.unwrap.result in
    let under : slice_get (incarnations_sent (tape_at history p)) k
    ≡ Some inc = ap (λ (xs : List Event). slice_get (incarnations_sent xs) k)
    (sym c.tape.ensures.events) ∙ sym c.sent_under.ensures ∙ c.unwrap.ensures in
    let same : inc ≡ one.0 = same_Some _ _ (sym under ∙ holds_whole history line p one.0 k one.1) in
    let name : MsgName = name_of p one.0 k in
    let so : List MsgName = open_first history line p k in
    c.in_ok-push-in-Some-false.ensures.items ∙ ap
    (λ (j : ℕ). c.args.messages.now.items ++ name_of p j k ∷ []) same ∙ ap
    (λ (xs : List MsgName). xs ++ name ∷ []) so_far ∙ append_assoc before so (name ∷ []) ∙ ap
    (λ (xs : List MsgName). before ++ xs) (sym one.2)
