use Rattle.std.proofs.Common.{◌≡◌, ◌++◌, ◌∙◌, [], None, ap, refl, sym, true}
use Rattle.std.specs.Prelude.{is_some}
use Rattle.line_fields.specs.Bytes.{is_input_text}
use Rattle.line_scripts.specs.Beginnings.{taken_of}
use Rattle.line_scripts.specs.Pieces.{ScriptPlace, script_text_left}
use Rattle.line_scripts.proofs.SavedFaultLemmas.{fault_of_left}
use Rattle.line_scripts.proofs.ScriptPlaceLemmas.{bad_piece, fault_stays, none_of, piece_refused}
use Rattle.line_scripts.proofs.ScriptPlaceLemmas.{piece_taken}
use Rattle.line_scripts.proofs.pieces.ScriptReader.take.Goals as goal

pub returns-then-not-is_plain : goal.returns-then-not-is_plain
returns-then-not-is_plain c = λ rest ends. bad_piece _ _ _ rest ends
    (sym c.is_plain.ensures ∙ c.if-not-is_plain.true) (rw c.code.ensures refl)

pub returns-then-is_some : goal.returns-then-is_some
returns-then-is_some c = λ rest ends.
    let plain : is_input_text c.args.piece.now
    ≡ true = sym c.is_plain.ensures ∙ c.if-not-is_plain.false in
    fault_stays _ _ rest ends plain (sym (ap (λ (p : ScriptPlace). is_some p.fault) c.self.view_is)
    ∙ sym c.is_some.ensures ∙ c.if-is_some.true)

pub returns-in-Ok : goal.returns-in-Ok
returns-in-Ok c = λ rest ends.
    let old : ScriptPlace = record {
      taken = taken_of c.self.inside.beginning
          c.self.inside.commands;
      fault = c.self.inside.fault;
    } in
    let plain : is_input_text c.args.piece.now
    ≡ true = sym c.is_plain.ensures ∙ c.if-not-is_plain.false in
    let none : c.self.inside.fault
    ≡ None = none_of _ (sym c.is_some.ensures ∙ c.if-is_some.false) in
    ap (λ (p : ScriptPlace). script_text_left p (c.args.piece.now ++ rest))
    (sym c.self.view_is) ∙ piece_taken old _ _ rest ends plain none none c.in-Ok.ensures.ok

pub returns-in-Fault : goal.returns-in-Fault
returns-in-Fault c = λ rest ends.
    let old : ScriptPlace = record {
      taken = taken_of c.self.inside.beginning
          c.self.inside.commands;
      fault = c.self.inside.fault;
    } in
    let plain : is_input_text c.args.piece.now
    ≡ true = sym c.is_plain.ensures ∙ c.if-not-is_plain.false in
    let none : c.self.inside.fault
    ≡ None = none_of _ (sym c.is_some.ensures ∙ c.if-is_some.false) in
    ap (λ (p : ScriptPlace). script_text_left p (c.args.piece.now ++ rest)) (sym c.self.view_is) ∙
    piece_refused old _ _ _ rest ends plain none refl (rw c.in-Fault.is at c.in-Err.ensures.err)

pub invariant_of-self-in-Fault : goal.invariant_of-self-in-Fault
invariant_of-self-in-Fault c = (
  record { begun = tt; none = λ none. c.new.ensures },
  fault_of_left _
      _ _ (rw c.in-Fault.is at c.in-Err.ensures.err []),
)
