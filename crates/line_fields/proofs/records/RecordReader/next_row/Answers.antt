use Rattle.std.proofs.Common.{◌≡◌, ◌≢◌, [], ◌∷◌, List, drop, false, get_or, true, ◌∙◌, ap, arith}
use Rattle.std.proofs.Common.{length, refl, rules, sym}
use Rattle.std.specs.Prelude.{is_some}
use Rattle.std.proofs.lemmas.Bool.{eqb-false}
use Rattle.line_fields.specs.Records.{Record, has_byte, records_of_text}
use Rattle.line_fields.proofs.LeftLemmas.{byte_first, is_left, is_left_in_lines, left_in_lines}
use Rattle.line_fields.proofs.LeftLemmas.{left_to_csv, no_end_first, nothing_there, on_any_err}
use Rattle.line_fields.proofs.LeftLemmas.{rest_is_none, told, told_refused}
use Rattle.line_fields.proofs.SpanLemmas.{feed_taken, first_record, input_behind}
use Rattle.line_fields.proofs.TextLemmas.{empty_is_input, records_of_nothing, rest_is}
use Rattle.line_fields.proofs.records.RecordReader.next_row.Goals as goal
use Rattle.line_fields.proofs.records.RecordReader.next_row.Goals.{then-loop-rest-test+else-rest-eq10}
use Rattle.line_fields.proofs.records.RecordReader.next_row.Goals.{else-loop-rest-test}

pub loop-rest-preserved : goal.loop-rest-preserved
loop-rest-preserved c =
    let some = eqb-false (length c.loop-rest.rest.now) 0
    (sym c.is_empty.ensures ∙ c.loop-rest-test.true) in
    let taken = feed_taken c.loop-rest.rest.now
    (omega (arith, some)) c.if-rest-eq10.true c.loop-rest.invariant.input in
    record { input = taken.0; same = taken.1 ∙ c.loop-rest.invariant.same }

pub invariant_of-self : goal.invariant_of-self
invariant_of-self c =
    let on : is_some c.self.inside.reader ≡ true = sym c.is_some.ensures ∙ c.if-is_some.true in
    is_left c.read_or_close.new.reader c.self.inside.rest.now (rest_is_none c.self.inside.reader
    c.self.inside.rest.now on c.self.invariant) c.read_or_close.ensures.reading

pub returns-then-is_some-clause-ok : goal.returns-then-is_some-clause-ok
returns-then-is_some-clause-ok c =
    let on : is_some c.self.inside.reader ≡ true = sym c.is_some.ensures ∙ c.if-is_some.true in
    let none = rest_is_none c.self.inside.reader c.self.inside.rest.now on c.self.invariant in
    told c.read_or_close.result _ _ _ _ _
    (sym c.self.view_is ∙ left_to_csv c.self.inside.reader c.self.inside.rest.now none)
    (left_to_csv c.read_or_close.new.reader c.self.inside.rest.now none) c.read_or_close.ensures.ok

pub returns-then-is_some-clause-err : goal.returns-then-is_some-clause-err
returns-then-is_some-clause-err c =
    let on : is_some c.self.inside.reader ≡ true = sym c.is_some.ensures ∙ c.if-is_some.true in
    let none = rest_is_none c.self.inside.reader c.self.inside.rest.now on c.self.invariant in
    told_refused c.read_or_close.result _ _ _ (left_to_csv c.read_or_close.new.reader
    c.self.inside.rest.now none) c.read_or_close.ensures.err

pub returns-then-is_empty-clause-ok : goal.returns-then-is_empty-clause-ok
returns-then-is_empty-clause-ok c =
    let off : is_some c.self.inside.reader ≡ false = sym c.is_some.ensures ∙ c.if-is_some.false in
    let none = nothing_there c.loop-rest.rest.now
    (sym c.is_empty-2.ensures ∙ c.if-is_empty.true) in (
      sym c.self.view_is ∙ left_in_lines c.self.inside.reader c.self.inside.rest.now off ∙ sym
          c.loop-rest.invariant.same ∙ ap records_of_text none ∙ records_of_nothing,
      left_in_lines c.self.inside.reader [] off ∙ records_of_nothing,
      search rules,
    )

pub invariant_of-self-in_err-reader : goal.invariant_of-self-in_err-reader
invariant_of-self-in_err-reader c =
    let off : is_some c.self.inside.reader ≡ false = sym c.is_some.ensures ∙ c.if-is_some.false in
    is_left_in_lines c.self.inside.reader [] off empty_is_input

pub returns-in_err-reader-clause-err : goal.returns-in_err-reader-clause-err
returns-in_err-reader-clause-err c =
    let off : is_some c.self.inside.reader ≡ false = sym c.is_some.ensures ∙ c.if-is_some.false in
    on_any_err c.from_residual.result _ (
      left_in_lines c.self.inside.reader [] off ∙
          records_of_nothing,
      c.clear-then-rest-eq13.ensures,
    )

pub invariant_of-self-then-rest-eq13 : goal.invariant_of-self-then-rest-eq13
invariant_of-self-then-rest-eq13 c =
    is_left c.read_or_close-then-rest-eq13.new.reader [] refl
    c.read_or_close-then-rest-eq13.ensures.reading

pub returns-then-rest-eq13-clause-ok : goal.returns-then-rest-eq13-clause-ok
returns-then-rest-eq13-clause-ok c =
    let off : is_some c.self.inside.reader ≡ false = sym c.is_some.ensures ∙ c.if-is_some.false in
    told c.read_or_close-then-rest-eq13.result _ _ _ _ _
    (sym c.self.view_is ∙ left_in_lines c.self.inside.reader c.self.inside.rest.now off ∙ sym
    c.loop-rest.invariant.same ∙ sym c.in_ok-reader.ensures.rows)
    (left_to_csv c.read_or_close-then-rest-eq13.new.reader [] refl)
    c.read_or_close-then-rest-eq13.ensures.ok

pub returns-then-rest-eq13-clause-err : goal.returns-then-rest-eq13-clause-err
returns-then-rest-eq13-clause-err c =
    told_refused c.read_or_close-then-rest-eq13.result _ _ _
    (left_to_csv c.read_or_close-then-rest-eq13.new.reader [] refl)
    c.read_or_close-then-rest-eq13.ensures.err

pub invariant_of-self-in_err-end : goal.invariant_of-self-in_err-end
invariant_of-self-in_err-end c =
    let off : is_some c.self.inside.reader ≡ false = sym c.is_some.ensures ∙ c.if-is_some.false in
    is_left_in_lines c.self.inside.reader [] off empty_is_input

pub returns-in_err-end-clause-err : goal.returns-in_err-end-clause-err
returns-in_err-end-clause-err c =
    let off : is_some c.self.inside.reader ≡ false = sym c.is_some.ensures ∙ c.if-is_some.false in
    on_any_err c.from_residual-in_err-end.result _
    (left_in_lines c.self.inside.reader [] off ∙ records_of_nothing, c.in_err-end.ensures.err)

pub invariant_of-self-2 : goal.invariant_of-self-2
invariant_of-self-2 c =
    let off : is_some c.self.inside.reader ≡ false = sym c.is_some.ensures ∙ c.if-is_some.false in
    is_left_in_lines c.self.inside.reader _ off
    (rw (rest_is c.loop-rest.rest.now c.in_ok-end.end)
    (input_behind c.loop-rest.rest.now c.in_ok-end.end c.loop-rest.invariant.input))

pub returns-clause-ok : goal.returns-clause-ok
returns-clause-ok c =
    let off : is_some c.self.inside.reader ≡ false = sym c.is_some.ensures ∙ c.if-is_some.false in
    let some : has_byte c.loop-rest.rest.now
    ≡ true = byte_first c.loop-rest.rest.now (sym c.is_empty-2.ensures ∙ c.if-is_empty.false) in
    let no_feed : get_or c.loop-rest.rest.now 0 0 ≢ 10 = elim c.loop-rest-test.branch [
      | then-loop-rest-test+else-rest-eq10 w ↦ w.if-rest-eq10.false
      | else-loop-rest-test w ↦ cc (sym (sym c.is_empty-2.ensures ∙ c.if-is_empty.false) ∙
          (sym c.is_empty.ensures ∙ w.loop-rest-test.false))
    ] in
    let no_end = no_end_first c.loop-rest.rest.now no_feed c.if-rest-eq13.false in
    sym c.self.view_is ∙ left_in_lines c.self.inside.reader c.self.inside.rest.now off ∙ sym
    c.loop-rest.invariant.same
    ∙ first_record c.loop-rest.rest.now c.in_ok-end.end c.in_ok-end.ensures.line
    c.loop-rest.invariant.input some no_end
    ∙ ap (λ (row : Record). row ∷ records_of_text (drop c.in_ok-end.end c.loop-rest.rest.now))
    (sym c.in_ok-end.ensures.ok)
    ∙ ap (λ (records : List Record). c.take_line.new.self ∷ records)
    (sym (left_in_lines c.self.inside.reader _ off ∙ ap records_of_text
    (rest_is c.loop-rest.rest.now c.in_ok-end.end)))
