-- One send more.
use Rattle.std.proofs.Common.{◌≡◌, ◌<◌, ◌+◌, ◌++◌, ◌∷◌, [], ℕ, List, true, false, cond, Option}
use Rattle.std.proofs.Common.{Some, None, length, get_or, refl, sym, ap, ◌∙◌, subst, append-nil}
use Rattle.std.proofs.Common.{arith}
use Rattle.std.specs.Prelude.{IsSome}
use Rattle.std.specs.List.{slice_get}
use Rattle.std.proofs.lemmas.List.{append_assoc}
use Rattle.std.proofs.lemmas.Option.{slice_get-get_or}
use Rattle.line_names.specs.declared.choices.Choice.{Choice}
use Rattle.line_names.specs.declared.messages.MsgName.{MsgName}
use Rattle.line_names.specs.Lines.{choice_at}
use Rattle.line_tape.specs.declared.events.Event.{Event}
use Rattle.line_tape.specs.Event.{incarnations_sent}
use Rattle.line_tape.specs.Front.{place}
use Rattle.line_tape.specs.History.{Process, tape_at}
use Rattle.line_tape.specs.Line.{events_before}
use Rattle.line_tape.specs.Transit.{has_received, addressees}
use Rattle.line_tape.proofs.EventLemmas.{length_addressees, name_of}
use Rattle.line_tape.proofs.CutLemmas.{sends_take}
use Rattle.line_catalogue.specs.Left.{open_first}
use Rattle.line_catalogue.proofs.OpenLemmas.{open-told}
use Rattle.line_catalogue.proofs.senders.add_if_open.Goals as goal

pub unwrap-requires : goal.unwrap-requires
unwrap-requires c =
    let tape : List Event = tape_at c.args.history.now.processes c.args.p in
    let k : ℕ = c.args.number in
    let within : k < length (incarnations_sent tape) = omega (
      arith,
      c.requires.number,
      sends_take
          tape (place tape (choice_at c.args.line.now c.args.p)),
    ) in
    let some : c.sent_under.result ≡ Some (get_or (incarnations_sent tape) k 0) =
    c.sent_under.ensures ∙ ap (λ (xs : List Event). slice_get (incarnations_sent xs) k)
    c.tape-tape.ensures.events ∙ slice_get-get_or (incarnations_sent tape) k 0 within
    in
    subst (λ (o : Option ℕ). IsSome o) (sym some) refl

pub returns-in_ok-push-in-Some : goal.returns-in_ok-push-in-Some
returns-in_ok-push-in-Some c = λ before so_far.
    let history : List Process = c.args.history.now.processes in
    let line : List Choice = c.args.line.now in
    let p : ℕ = c.args.p in
    let k : ℕ = c.args.number in
    let inc : ℕ = c.unwrap.result in
    let name : MsgName = name_of p inc k in
    let told : slice_get (incarnations_sent (tape_at history p)) k
    ≡ Some inc = ap (λ (xs : List Event). slice_get (incarnations_sent xs) k)
    (sym c.tape-tape.ensures.events) ∙ sym c.sent_under.ensures ∙ c.unwrap.ensures in
    let named : slice_get (addressees (tape_at history p)) k
    ≡ Some c.in-Some.q = ap (λ (xs : List Event). slice_get (addressees xs) k)
    (sym c.tape-tape.ensures.events) ∙ sym c.addressee.ensures ∙ c.in-Some.is in
    let unseen : has_received (events_before history line c.in-Some.q) name
    ≡ false = sym c.is_received.ensures ∙ c.if-not-is_received.true in
    let next : open_first history line p (k + 1)
    ≡ open_first history line p k
    ++ name ∷ [] = open-told history line p k inc c.in-Some.q c.requires.number told named ∙ ap
    (λ b. open_first history line p k ++ cond b [] (name ∷ [])) unseen in
    c.in_ok-push-in-Some.ensures.items ∙ ap
    (λ (xs : List MsgName). xs ++ name ∷ []) so_far ∙ append_assoc before (open_first history
    line p k) (name ∷ []) ∙ ap (λ (xs : List MsgName). before ++ xs) (sym next)

pub returns-else-not-is_received : goal.returns-else-not-is_received
returns-else-not-is_received c = λ before so_far.
    let history : List Process = c.args.history.now.processes in
    let line : List Choice = c.args.line.now in
    let p : ℕ = c.args.p in
    let k : ℕ = c.args.number in
    let inc : ℕ = c.unwrap.result in
    let name : MsgName = name_of p inc k in
    let told : slice_get (incarnations_sent (tape_at history p)) k
    ≡ Some inc = ap (λ (xs : List Event). slice_get (incarnations_sent xs) k)
    (sym c.tape-tape.ensures.events) ∙ sym c.sent_under.ensures ∙ c.unwrap.ensures in
    let named : slice_get (addressees (tape_at history p)) k
    ≡ Some c.in-Some.q = ap (λ (xs : List Event). slice_get (addressees xs) k)
    (sym c.tape-tape.ensures.events) ∙ sym c.addressee.ensures ∙ c.in-Some.is in
    let seen : has_received (events_before history line c.in-Some.q) name
    ≡ true = sym c.is_received.ensures ∙ c.if-not-is_received.false in
    let next : open_first history line p (k + 1)
    ≡ open_first history line p k = open-told history line p k inc c.in-Some.q c.requires.number
    told named ∙ ap (λ b. open_first history line p k ++ cond b [] (name ∷ [])) seen ∙
    append-nil (open_first history line p k) in
    so_far ∙ ap (λ (xs : List MsgName). before ++ xs) (sym next)

pub returns-in-None : goal.returns-in-None
returns-in-None c =
    let tape : List Event = tape_at c.args.history.now.processes c.args.p in
    let k : ℕ = c.args.number in
    let within : k < length (addressees tape) = omega (
      arith,
      c.requires.number,
      sends_take tape
          (place tape (choice_at c.args.line.now c.args.p)),
      length_addressees tape,
    ) in
    let some : slice_get (addressees tape) k
    ≡ Some (get_or (addressees tape) k 0) = slice_get-get_or (addressees tape) k 0 within in
    let none : slice_get (addressees tape) k ≡ None = ap (λ (xs : List Event). slice_get (addressees
    xs) k) (sym c.tape-tape.ensures.events) ∙ sym c.addressee.ensures ∙ c.in-None.is in
    absurd (cc (some, none))
