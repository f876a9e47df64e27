-- The first rows, incarnations, addressees and receipts serve the first events.
use Rattle.std.proofs.Common.{◌≡◌, ◌≤◌, ℕ, List, length, take, sym, ap, ◌∙◌, subst, arith}
use Rattle.std.proofs.lemmas.List.{take_all}
use Rattle.line_names.specs.declared.choices.Choice.{Choice}
use Rattle.line_tape.specs.declared.events.Event.{Event}
use Rattle.line_tape.specs.declared.tapes.CheckRow.{CheckRow}
use Rattle.line_tape.specs.Event.{checks, sends}
use Rattle.line_tape.specs.Front.{front, HasChoice}
use Rattle.line_tape.specs.History.{IsTape}
use Rattle.line_tape.specs.Kept.{AreCheckRows, AreSettled}
use Rattle.line_tape.specs.Transit.{names_received, received_name}
use Rattle.line_tape.specs.Views.{TapeView}
use Rattle.line_tape.proofs.CutLemmas.{IsTape-take}
use Rattle.line_tape.proofs.FrontLemmas.{place_le}
use Rattle.line_tape.proofs.IndexLemmas.{AreRows-take, AreSettled-take}
use Rattle.line_tape.proofs.RowLemmas.{checks_front, told_front}
use Rattle.line_tape.proofs.tapes.Tape.cut.Goals as goal
use Rattle.line_tape.proofs.tapes.Tape.cut.Goals.{in-Check, in-Now}

pub invariant_of-self : goal.invariant_of-self
invariant_of-self c =
    let items : List Event = c.self.inside.log.events in
    let n : ℕ = c.row-kept.result.place in
    let kept : List Event = take n items in
    let seen : items ≡ c.args.self.now.events = ap (λ (t : TapeView). t.events) c.self.view_is in
    let fronts : front c.args.self.now.events c.args.choice ≡ kept = ap (λ k. take k
    c.args.self.now.events) (sym c.row-kept.ensures.place) ∙ ap (take n) (sym seen) in
    let few : n ≤ length items = omega (
      arith,
      c.row-kept.ensures.place,
      place_le
          c.args.self.now.events c.args.choice,
      ap (λ (xs : List Event). length xs) seen,
    ) in
    let cut : c.truncate.new.self.events ≡ kept = c.truncate.ensures.events in
    let counted : c.match-choice.checks
    ≡ checks (front c.args.self.now.events c.args.choice) = elim c.match-choice.branch [
      | in-Check w ↦ w.checks-is ∙ sym
          (checks_front c.args.self.now.events w.in-Check.c
          (subst (HasChoice c.args.self.now.events) w.in-Check.is c.requires)) ∙ ap
          (λ (choice : Choice). checks (front c.args.self.now.events choice)) (sym w.in-Check.is)
      | in-Now w ↦ w.checks-is ∙ w.checks-checks.ensures.value ∙ sym
          (ap checks (take_all (length c.args.self.now.events) c.args.self.now.events
          (omega arith))) ∙ ap (λ (choice : Choice). checks (front c.args.self.now.events choice))
          (sym w.in-Now.is)
    ] in
    let rows : c.truncate-2.new.self.items
    ≡ take (checks kept) c.self.inside.checks.items = c.truncate-2.ensures.items ∙ ap
    (λ k. take k c.self.inside.checks.items) (counted ∙ ap checks fronts) in
    let sent : c.row-kept.result.sends
    ≡ sends kept = c.row-kept.ensures.sends ∙ ap (λ (xs : List Event). sends xs) fronts in
    let incs : c.truncate-3.new.self.items ≡ take (sends kept) c.self.inside.incarnations.items =
    c.truncate-3.ensures.items ∙ ap (λ k. take k c.self.inside.incarnations.items) sent in
    let tos : c.truncate-4.new.self.items ≡ take (sends kept) c.self.inside.addressees.items =
    c.truncate-4.ensures.items ∙ ap (λ k. take k c.self.inside.addressees.items) sent in
    let checked : AreCheckRows kept c.truncate-2.new.self.items c.truncate-3.new.self.items
    c.truncate-4.new.self.items =
    subst (λ (xs : List CheckRow). AreCheckRows kept xs c.truncate-3.new.self.items
    c.truncate-4.new.self.items) (sym rows)
    (subst (λ xs. AreCheckRows kept
    (take (checks kept) c.self.inside.checks.items) xs c.truncate-4.new.self.items) (sym incs)
    (subst (λ xs. AreCheckRows kept (take (checks kept) c.self.inside.checks.items)
    (take (sends kept) c.self.inside.incarnations.items) xs) (sym tos)
    (AreRows-take items c.self.inside.checks.items c.self.inside.incarnations.items
    c.self.inside.addressees.items n c.self.invariant.checked))) in
    let noted : c.cut.new.self.names
    ≡ names_received kept = c.cut.ensures.names ∙ ap
    (take c.row-kept.result.receipts) c.self.invariant.received ∙ ap
    (λ k. take k (names_received items)) (c.row-kept.ensures.receipts ∙ ap (λ (xs : List Event).
    length (names_received xs)) fronts) ∙ sym (told_front received_name items n) in
    record {
      tape = subst IsTape (sym cut) (IsTape-take items n c.self.invariant.tape);
      checked = subst (λ (xs : List Event). AreCheckRows xs c.truncate-2.new.self.items
          c.truncate-3.new.self.items c.truncate-4.new.self.items) (sym cut) checked;
      received = noted ∙ ap names_received (sym cut);
      unchanged = subst (λ (xs : List Event). AreSettled xs c.min-self-inside.result) (sym cut)
          (subst (AreSettled kept) (sym c.min-self-inside.ensures)
          (AreSettled-take items c.self.inside.settled n few c.self.invariant.unchanged));
      counted =
          omega (arith, c.self.invariant.counted, c.cut.ensures.room, c.truncate.ensures.room);
      one_more = omega (
        arith,
        c.self.invariant.one_more,
        c.cut.ensures.senders,
        c.truncate.ensures.bodies,
        c.truncate.ensures.states,
        c.truncate-2.ensures.capacity,
        c.truncate-2.ensures.len,
      );
    }
