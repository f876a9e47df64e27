-- One send more, which is open where no receipt of it is told.
use Rattle.std.proofs.Common.{◌≡◌, ◌<◌, ◌≤◌, ◌+◌, ◌++◌, ◌∷◌, [], ℕ, List, Bool, false, cond, Some}
use Rattle.std.proofs.Common.{length, get_or, map, filter, sym, ap, ◌∙◌, append-nil, arith}
use Rattle.std.specs.List.{slice_get}
use Rattle.std.proofs.lemmas.List.{append_assoc, take_all}
use Rattle.std.proofs.lemmas.Option.{slice_get-get_or}
use Rattle.line_names.specs.declared.choices.Choice.{Choice}
use Rattle.line_names.specs.declared.messages.MsgName.{MsgName}
use Rattle.line_names.specs.Lines.{choice_at}
use Rattle.line_tape.specs.declared.events.Event.{Event}
use Rattle.line_tape.specs.Event.{incarnations_sent, sends}
use Rattle.line_tape.specs.Front.{front, place}
use Rattle.line_tape.specs.History.{Process, tape_at}
use Rattle.line_tape.specs.Line.{events_before}
use Rattle.line_tape.specs.Transit.{Letter, letters, is_open_letter, addressees}
use Rattle.line_tape.proofs.EventLemmas.{length_addressees, name_of}
use Rattle.line_tape.proofs.CutLemmas.{sends_take}
use Rattle.line_tape.proofs.ReceivedLemmas.{length-letters, open_first, open-next}
use Rattle.line_tape.proofs.RowLemmas.{sent_at}
use Rattle.line_tape.proofs.transits.add_open.Goals.{then-not-has+in_ok-push, else-not-has}
use Rattle.line_tape.proofs.transits.add_open.Goals as goal

pub bounds-incarnations-number : goal.bounds-incarnations-number
bounds-incarnations-number c =
    let history : List Process = c.args.history.now.processes in
    let line : List Choice = c.args.line.now in
    let p : ℕ = c.args.p in
    let tape : List Event = tape_at history p in
    let before : List Event = events_before history line p in
    let count : c.sends_before-number-end.result
    ≡ sends before = c.sends_before-number-end.ensures ∙ ap
    (λ (t : List Event). sends (front t c.at-choice.result)) c.tape-tape.ensures.events ∙ ap
    (λ (choice : Choice). sends (front tape choice)) c.at-choice.ensures in
    omega (
      arith,
      count,
      sends_take tape
          (place tape (choice_at line p)),
      ap length c.incarnations-incarnations.ensures,
      ap
          (λ (xs : List Event). sends xs) c.tape-tape.ensures.events,
    )

pub has-requires : goal.has-requires
has-requires c =
    let history : List Process = c.args.history.now.processes in
    let line : List Choice = c.args.line.now in
    let p : ℕ = c.args.p in
    let tape : List Event = tape_at history p in
    let before : List Event = events_before history line p in
    let count : c.sends_before-number-end.result
    ≡ sends before = c.sends_before-number-end.ensures ∙ ap
    (λ (t : List Event). sends (front t c.at-choice.result)) c.tape-tape.ensures.events ∙ ap
    (λ (choice : Choice). sends (front tape choice)) c.at-choice.ensures in
    omega (arith, count, c.requires.told.whole.sends_of p c.requires.process)

pub loop-number-preserved : goal.loop-number-preserved
loop-number-preserved c =
    let history : List Process = c.args.history.now.processes in
    let line : List Choice = c.args.line.now in
    let p : ℕ = c.args.p in
    let tape : List Event = tape_at history p in
    let before : List Event = events_before history line p in
    let count : c.sends_before-number-end.result
    ≡ sends before = c.sends_before-number-end.ensures ∙ ap
    (λ (t : List Event). sends (front t c.at-choice.result)) c.tape-tape.ensures.events ∙ ap
    (λ (choice : Choice). sends (front tape choice)) c.at-choice.ensures in
    let k : ℕ = c.loop-number.number in
    let old : List MsgName = c.args.messages.now.items in
    let found : List MsgName = open_first history line p k in
    let flags : List Bool = get_or c.args.received.now p [] in
    let within : k < sends before = omega (arith, count) in
    let inc : ℕ = get_or (incarnations_sent tape) k 0 in
    let to : ℕ = get_or (addressees before) k 0 in
    let i : slice_get (incarnations_sent before) k
    ≡ Some inc = sent_at tape (place tape (choice_at line p)) k 0 within 0 in
    let a : slice_get (addressees before) k ≡ Some to = slice_get-get_or (addressees before) k 0
    (omega (arith, length_addressees before)) in
    let next : open_first history line p (k + 1)
    ≡ found ++ cond (get_or flags k false) [] (name_of p inc k ∷ []) =
    open-next history line p k inc to flags (c.requires.told.each p c.requires.process) i a in
    let flag : get_or flags k false ≡ c.has.result = sym c.has.ensures in
    elim c.if-not-has.branch [
      | then-not-has+in_ok-push w ↦
          let name : name_of p (get_or c.incarnations-incarnations.result.now k 0) k
          ≡ name_of p inc k = ap (λ (xs : List ℕ). name_of p (get_or xs k 0) k)
          (c.incarnations-incarnations.ensures ∙ ap
          (λ (xs : List Event). incarnations_sent xs) c.tape-tape.ensures.events) in
          let more : open_first history line p (k + 1) ≡ found ++ name_of p inc k ∷ [] = next ∙ ap
          (λ b. found ++ cond b [] (name_of p inc k ∷ [])) (flag ∙ w.if-not-has.true) in
          ap (λ v. v.items) w.messages-is ∙ w.in_ok-push.ensures.items ∙ ap
          (λ (m : MsgName). c.loop-number.messages.items ++ m ∷ []) name ∙ ap
          (λ (xs : List MsgName). xs ++ name_of p inc k ∷ []) c.loop-number.invariant ∙
          append_assoc old found (name_of p inc k ∷ []) ∙ ap (λ (xs : List MsgName). old ++ xs)
          (sym more)
      | else-not-has w ↦
          let same : open_first history line p (k + 1) ≡ found = next ∙ ap (λ b. found
          ++ cond b [] (name_of p inc k ∷ [])) (flag ∙ w.if-not-has.false) ∙ append-nil found in
          ap (λ v. v.items) w.messages-is ∙ c.loop-number.invariant ∙ ap
          (λ (xs : List MsgName). old ++ xs) (sym same)
    ]

pub returns : goal.returns
returns c =
    let history : List Process = c.args.history.now.processes in
    let line : List Choice = c.args.line.now in
    let p : ℕ = c.args.p in
    let tape : List Event = tape_at history p in
    let before : List Event = events_before history line p in
    let count : c.sends_before-number-end.result
    ≡ sends before = c.sends_before-number-end.ensures ∙ ap
    (λ (t : List Event). sends (front t c.at-choice.result)) c.tape-tape.ensures.events ∙ ap
    (λ (choice : Choice). sends (front tape choice)) c.at-choice.ensures in
    let all : List Letter = letters p 0 before in
    let past : length all ≤ c.loop-number.number = omega
    (arith, count, length-letters p 0 before) in
    c.loop-number.invariant ∙ ap
    (λ (xs : List Letter). c.args.messages.now.items
    ++ map (λ (letter : Letter). letter.message) (filter (is_open_letter history line) xs))
    (take_all c.loop-number.number all past)
