-- The row of the check comes, and all else stays.
use Rattle.std.proofs.Common.{◌≡◌, ◌<◌, ◌≤◌, ◌-◌, vec_capacity, vec_len, ◌+◌, ◌++◌, ◌∷◌, [], List}
use Rattle.std.proofs.Common.{length, refl, sym, ap, ◌∙◌, subst, arith}
use Rattle.std.specs.Prelude.{min}
use Rattle.line_tape.specs.declared.events.Event.{Event}
use Rattle.line_tape.specs.declared.events.Event.TheVariants.{Check}
use Rattle.line_tape.specs.declared.limits.TheConstants.{MOST_EVENTS}
use Rattle.line_tape.specs.declared.tapes.CheckRow.{CheckRow}
use Rattle.line_tape.specs.History.{IsTape}
use Rattle.line_tape.specs.Kept.{AreCheckRows, AreSettled}
use Rattle.line_tape.specs.Transit.{names_received, received_name}
use Rattle.line_tape.specs.Views.{TapeView}
use Rattle.line_tape.proofs.IndexLemmas.{AreSettled-push, IsTape-push, counted-push, lower}
use Rattle.line_tape.proofs.RowLemmas.{AreRows-check, told-none}
use Rattle.line_tape.proofs.tapes.Tape.append_check.Goals as goal
use Rattle.line_tape.proofs.tapes.Tape.append_check.Goals.{then-beside-gt0, else-beside-gt0}

pub invariant_of-self : goal.invariant_of-self
invariant_of-self c =
    let items : List Event = c.self.inside.log.events in
    let event : Event = Check c.args.state c.args.round in
    let seen : items ≡ c.args.self.now.events = ap (λ (t : TapeView). t.events) c.self.view_is in
    let few : length items < MOST_EVENTS = omega
    (arith, ap (λ (xs : List Event). length xs) seen, c.requires.few) in
    let pushed : c.append_check.new.self.events
    ≡ items ++ event ∷ [] = c.append_check.ensures.events in
    let row : CheckRow = record
    { place = c.len.result + 1; sends = c.len-2.result; receipts = c.count.result } in
    let rows : c.push_reserved.new.self.items
    ≡ c.self.inside.checks.items ++ row ∷ [] = c.push_reserved.ensures.items in
    let checked : AreCheckRows
    (items ++ event ∷ []) c.push_reserved.new.self.items c.self.inside.incarnations.items
    c.self.inside.addressees.items = rw rows
    (AreRows-check items event c.self.inside.checks.items c.self.inside.incarnations.items
    c.self.inside.addressees.items row refl refl refl refl (ap (λ n. n + 1) c.len.ensures)
    (omega (arith, c.len-2.ensures, c.self.inside.incarnations.ok.0)) (c.count.ensures ∙ ap
    (λ xs. length xs) c.self.invariant.received) c.self.invariant.checked) in
    let left : (c.if-beside-gt0.spare ≤ c.self.inside.spare - 1)
    × (min 1 c.if-beside-gt0.spare ≤ min c.append_check.new.self.bodies
    (min (vec_capacity c.push_reserved.new.self - vec_len c.push_reserved.new.self)
    c.append_check.new.self.states)) = elim c.if-beside-gt0.branch [
      | then-beside-gt0 w ↦
          (omega arith, omega arith)
      | else-beside-gt0 w ↦ (omega arith, omega arith)
    ] in
    record {
      tape = subst IsTape (sym pushed)
          (IsTape-push items event few c.requires.short c.self.invariant.tape);
      checked = subst (λ (xs : List Event). AreCheckRows xs c.push_reserved.new.self.items
          c.self.inside.incarnations.items c.self.inside.addressees.items) (sym pushed) (checked);
      received = c.self.invariant.received ∙ sym
          (told-none received_name items event refl) ∙ ap names_received (sym pushed);
      unchanged = subst (λ (xs : List Event). AreSettled xs c.self.inside.settled) (sym pushed)
          (AreSettled-push items event c.self.inside.settled c.self.invariant.unchanged);
      counted = lower _ _ _ left.0 (counted-push _ _ _ _ _ _ _ _ _ c.self.invariant.counted
          c.append_check.ensures.room (omega arith) (omega arith) (omega arith));
      one_more =
          omega (arith, c.self.invariant.one_more, c.append_check.ensures.bodies, left.0, left.1);
    }
