-- Event by event.
use Rattle.std.proofs.Common.{◌≡◌, ◌+◌, ◌++◌, ◌∷◌, [], ℕ, List, take, refl, sym, ap, ◌∙◌, subst}
use Rattle.std.proofs.Common.{append-nil, arith}
use Rattle.std.proofs.lemmas.List.{append_assoc, take_all}
use Rattle.std.proofs.lemmas.List.Elements.{filter_map-append}
use Rattle.line_names.specs.declared.messages.MsgName.{MsgName}
use Rattle.line_tape.specs.declared.events.Event.{Event}
use Rattle.line_tape.specs.Shown.{event_of_ref}
use Rattle.line_tape.specs.Transit.{names_received, received_name}
use Rattle.line_tape.proofs.ShownLemmas.{take_shown}
use Rattle.line_catalogue.specs.Left.{AreIn}
use Rattle.line_catalogue.proofs.numbers.add_receipts.Goals as goal

pub loop-i-init : goal.loop-i-init
loop-i-init c = record {
  count = refl;
  added = λ names held. subst (λ (xs : List MsgName). AreIn xs c.args.ends.now
      c.args.rows.now.items) (sym (append-nil names)) held;
}

pub loop-i-preserved : goal.loop-i-preserved
loop-i-preserved c =
    let i : ℕ = c.loop-i.i in
    let all : List Event = c.args.events.now in
    let item : Event = event_of_ref c.at.result in
    record {
      count = c.in_ok-add_receipt.ensures.count ∙ c.loop-i.invariant.count;
      added = λ names held.
          let so_far : List MsgName = names_received (take i all) in
          let whole : take i all ++ item ∷ []
          ≡ take (i + 1) all = sym (take_shown all i item c.at.ensures) in
          let more : (names ++ so_far) ++ names_received (item ∷ [])
          ≡ names ++ names_received (take (i + 1) all) = append_assoc names so_far
          (names_received (item ∷ [])) ∙ ap (λ (xs : List MsgName). names ++ xs)
          (sym (filter_map-append received_name (take i all) (item ∷ [])) ∙ ap
          (λ (es : List Event). names_received es) whole) in
          subst (λ (xs : List MsgName). AreIn xs c.args.ends.now c.add_receipt.new.rows.items) more
          (c.in_ok-add_receipt.ensures.added (names ++ so_far)
          (c.loop-i.invariant.added names held));
    }

pub returns-clause-added : goal.returns-clause-added
returns-clause-added c = λ names held.
    subst (λ (es : List Event). AreIn
    (names ++ names_received es) c.args.ends.now c.loop-i.rows.items)
    (take_all c.loop-i.i c.args.events.now (omega arith)) (c.loop-i.invariant.added names held)
