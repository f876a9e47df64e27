use Rattle.std.proofs.Common.{◌∙◌, [], ap, inr, sym}
use Rattle.line_claims.specs.Readings.{CheckPlace, begun_if_any, text_left}
use Rattle.line_claims.specs.Texts.{check_view}
use Rattle.line_claims.proofs.PlaceLemmas.{nothing_there, told_error, told_fault, told_rest}
use Rattle.line_claims.proofs.readers.CheckReader.into_check.Goals as goal

pub returns-in-Some : goal.returns-in-Some
returns-in-Some c =
    let old : CheckPlace = record {
      begun = begun_if_any c.self.inside.begun;
      number =
          c.self.inside.number;
      fault = c.self.inside.fault;
    } in
    let seen = ap (λ (p : CheckPlace). text_left p []) (sym c.self.view_is) in
    inr (seen ∙ told_fault old _ c.in-Some.is)

pub returns-in-Ok : goal.returns-in-Ok
returns-in-Ok c =
    let old : CheckPlace = record {
      begun = begun_if_any c.self.inside.begun;
      number =
          c.self.inside.number;
      fault = c.self.inside.fault;
    } in
    let seen = ap (λ (p : CheckPlace). text_left p []) (sym c.self.view_is) in
    rw (seen, told_rest old c.in_default.is, c.in-Some-begun.is) c.in-Ok.ensures

pub returns-in-Some-begun : goal.returns-in-Some-begun
returns-in-Some-begun c =
    let old : CheckPlace = record {
      begun = begun_if_any c.self.inside.begun;
      number =
          c.self.inside.number;
      fault = c.self.inside.fault;
    } in
    let seen = ap (λ (p : CheckPlace). text_left p []) (sym c.self.view_is) in
    rw (seen, told_rest old c.in_default.is, c.in-Some-begun.is, c.told.ensures)
    (told_error check_view c.in-Err.error _ c.in-Err.ensures)

pub returns : goal.returns
returns c =
    let old : CheckPlace = record {
      begun = begun_if_any c.self.inside.begun;
      number =
          c.self.inside.number;
      fault = c.self.inside.fault;
    } in
    let seen = ap (λ (p : CheckPlace). text_left p []) (sym c.self.view_is) in
    rw c.code.ensures (inr (seen ∙ told_rest old c.in_default.is ∙ rw c.in-None.is nothing_there))
