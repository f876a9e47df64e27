use Rattle.std.proofs.Common.{◌≡◌, ◌++◌, ◌∙◌, None, ap, sym, true}
use Rattle.std.specs.Prelude.{is_some}
use Rattle.line_fields.specs.Bytes.{is_input_text}
use Rattle.line_claims.specs.Readings.{CheckPlace, begun_if_any, text_left}
use Rattle.line_claims.proofs.PlaceLemmas.{bad_piece, fault_stays, none_of, piece_refused}
use Rattle.line_claims.proofs.PlaceLemmas.{piece_taken}
use Rattle.line_claims.proofs.readers.CheckReader.take.Goals as goal

pub returns-then-not-is_plain : goal.returns-then-not-is_plain
returns-then-not-is_plain c = λ rest ends. bad_piece _ _ _ rest ends
    (sym c.is_plain.ensures ∙ c.if-not-is_plain.true) (rw c.code.ensures at c.refuse.ensures)

pub returns-then-is_some : goal.returns-then-is_some
returns-then-is_some c = λ rest ends.
    let plain : is_input_text c.args.piece.now
    ≡ true = sym c.is_plain.ensures ∙ c.if-not-is_plain.false in
    fault_stays _ _ rest ends plain (sym (ap (λ (p : CheckPlace). is_some p.fault) c.self.view_is) ∙
    sym c.is_some.ensures ∙ c.if-is_some.true)

pub returns-in-Ok : goal.returns-in-Ok
returns-in-Ok c = λ rest ends.
    let old : CheckPlace = record {
      begun = begun_if_any c.self.inside.begun;
      number =
          c.self.inside.number;
      fault = c.self.inside.fault;
    } in
    let plain : is_input_text c.args.piece.now
    ≡ true = sym c.is_plain.ensures ∙ c.if-not-is_plain.false in
    let none : c.self.inside.fault
    ≡ None = none_of _ (sym c.is_some.ensures ∙ c.if-is_some.false) in
    ap (λ (p : CheckPlace). text_left p (c.args.piece.now ++ rest))
    (sym c.self.view_is) ∙ piece_taken old _ _ rest ends plain none none c.in-Ok.ensures.ok

pub returns-in-Err-Fault : goal.returns-in-Err-Fault
returns-in-Err-Fault c = λ rest ends.
    let old : CheckPlace = record {
      begun = begun_if_any c.self.inside.begun;
      number =
          c.self.inside.number;
      fault = c.self.inside.fault;
    } in
    let plain : is_input_text c.args.piece.now
    ≡ true = sym c.is_plain.ensures ∙ c.if-not-is_plain.false in
    let none : c.self.inside.fault
    ≡ None = none_of _ (sym c.is_some.ensures ∙ c.if-is_some.false) in
    ap (λ (p : CheckPlace). text_left p (c.args.piece.now ++ rest))
    (sym c.self.view_is) ∙ piece_refused old _ _ _ rest ends plain none
    c.refuse-in-Err-Fault.ensures (rw c.in-Err-Fault.field-0-is at c.in-Err-Fault.ensures.err)
