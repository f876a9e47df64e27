-- A place is within its tape, and behind it there is nothing where it is past what was kept.
use Rattle.std.proofs.Common.{◌≡◌, ℕ, List, length, take, drop, inl, inr, sym, ap, ◌∙◌, arith}
use Rattle.std.proofs.lemmas.Bool.{cases_lt}
use Rattle.std.proofs.lemmas.List.{drop_all, length-take, length-take-le, take_all}
use Rattle.line_tape.specs.declared.events.Event.{Event}
use Rattle.line_tape.specs.Front.{place}
use Rattle.line_tape.specs.History.{Process, tape_at}
use Rattle.line_tape.proofs.FrontLemmas.{place_le}
use Rattle.line_catalogue.proofs.candidates.events_between.Goals as goal

pub first-requires : goal.first-requires
first-requires c =
    let t : List Event = c.tape-tape.result.now.events in
    let all : c.front.result ≡ t = c.front.ensures ∙ take_all (length t) t (omega arith) in
    let at : c.unwrap-place.result
    ≡ place t c.at.result = (rw c.unwrap-place.ensures at c.place.ensures).1 in
    omega (
      arith,
      at,
      place_le t c.at.result,
      ap length all,
      c.max-end.ensures,
      c.requires.kept,
      ap
          (λ (es : List Event). length es) c.tape-tape.ensures.events,
    )

pub behind-requires : goal.behind-requires
behind-requires c =
    let t : List Event = c.tape-tape.result.now.events in
    let all : c.front.result ≡ t = c.front.ensures ∙ take_all (length t) t (omega arith) in
    let at : c.unwrap-place.result
    ≡ place t c.at.result = (rw c.unwrap-place.ensures at c.place.ensures).1 in
    let long : length c.first.result ≡ c.max-end.result =
    ap (λ (es : List Event). length es) c.first.ensures ∙ length-take-le c.max-end.result
    c.front.result (omega (
      arith,
      at,
      place_le t c.at.result,
      ap length all,
      c.max-end.ensures,
      c.requires.kept,
      ap (λ (es : List Event). length es) c.tape-tape.ensures.events,
    ))
    in
    omega (arith, long, c.max-end.ensures)

pub returns : goal.returns
returns c =
    let t : List Event = c.tape-tape.result.now.events in
    let history : List Process = c.args.history.now.processes in
    let q : ℕ = c.args.q in
    let kept : ℕ = c.args.kept in
    let all : c.front.result ≡ t = c.front.ensures ∙ take_all (length t) t (omega arith) in
    let at : c.unwrap-place.result
    ≡ place t c.at.result = (rw c.unwrap-place.ensures at c.place.ensures).1 in
    let p : ℕ = c.unwrap-place.result in
    let is : t ≡ tape_at history q = c.tape-tape.ensures.events in
    let cut : drop p (take c.max-end.result t) ≡ drop p (take kept t) = elim (cases_lt kept p) [
      | inl less ↦
          let end : c.max-end.result ≡ p = omega (arith, c.max-end.ensures, less) in
          drop_all p (take c.max-end.result t) (omega (arith, end, length-take c.max-end.result t))
          ∙ sym (drop_all p (take kept t) (omega (arith, less, length-take kept t)))
      | inr more ↦
          let end : c.max-end.result ≡ kept = omega (arith, c.max-end.ensures, more) in
          ap (λ k. drop p (take k t)) end
    ] in
    c.behind.ensures ∙ ap (drop p) c.first.ensures ∙ ap
    (λ (es : List Event). drop p (take c.max-end.result es)) all ∙ cut ∙ ap
    (λ (es : List Event). drop p (take kept es)) is ∙ ap
    (λ k. drop k (take kept (tape_at history q))) (at ∙ ap (λ
    (es : List Event). place es c.at.result) is ∙ ap (place (tape_at history q)) c.at.ensures)
