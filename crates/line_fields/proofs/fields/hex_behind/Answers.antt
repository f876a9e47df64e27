use Rattle.std.proofs.Common.{◌≡◌, ◌∙◌, ◌-◌, ◌*◌, ◌+◌, ◌∷◌, [], List, ℕ, sym, ap, arith, length}
use Rattle.std.proofs.Common.{take, drop}
use Rattle.std.proofs.lemmas.List.{length-drop}
use Rattle.std.proofs.lemmas.Result.{err_from_is_err_and}
use Rattle.line_fields.proofs.TextLemmas.{rest_is}
use Rattle.line_fields.proofs.LaneLemmas.{eight_more}
use Rattle.line_fields.proofs.HexLemmas.{hex_begins, hex_on, more_at, first_at, second_at, odd_at}
use Rattle.line_fields.proofs.HexLemmas.{end_at}
use Rattle.line_fields.proofs.fields.hex_behind.Goals as goal

-- a slice from a place on is shorter by that
shorter : (xs : List ℕ) (n : ℕ) → length (take (length xs - n) (drop n xs)) ≡ length xs - n
shorter xs n = ap length (rest_is xs n) ∙ length-drop n xs

pub loop-eight-init : goal.loop-eight-init
loop-eight-init c = record {
  read = rw c.in_ok-reserve.ensures.items
      (hex_begins _ _ _ (omega (arith, c.args.bytes.now.ok.0)));
  room =
      omega (arith, c.in_ok-reserve.ensures.ok, c.in_ok-reserve.ensures.len);
}

pub loop-eight-preserved : goal.loop-eight-preserved
loop-eight-preserved c =
    let xs = c.loop-eight.rest.now in
    record {
      read = rw c.in-Ok.ensures.items
          (hex_on _ _ _ _ xs c.in-Some.eight _ (eight_more c.loop-eight.bytes.items xs
          c.in-Some.eight 16 c.in-Some.ensures.digits) c.loop-eight.invariant.read);
      room = omega (
        arith,
        shorter xs 16,
        c.in-Some.ensures.long,
        c.in-Ok.ensures.len,
        c.in-Ok.ensures.capacity,
        c.loop-eight.invariant.room,
      );
    }

pub loop-four-preserved : goal.loop-four-preserved
loop-four-preserved c =
    let xs = c.loop-four.rest.now in
    record {
      read = rw c.in-Ok-extend_from_slice.ensures.items
          (hex_on _ _ _ _ xs c.in-Some-first_four.four _
          (eight_more c.loop-four.bytes.items xs c.in-Some-first_four.four 8
          c.in-Some-first_four.ensures.digits) c.loop-four.invariant.read);
      room = omega (
        arith,
        shorter xs 8,
        c.in-Some-first_four.ensures.long,
        c.in-Ok-extend_from_slice.ensures.len,
        c.in-Ok-extend_from_slice.ensures.capacity,
        c.loop-four.invariant.room,
      );
    }

pub returns-in_err-high-clause-exact : goal.returns-in_err-high-clause-exact
returns-in_err-high-clause-exact c =
    let p = err_from_is_err_and c.from_residual-in_err-high.result
    c.from_residual-in_err-high.ensures.1 in
    rw (p.1, p.2) (sym c.loop-rest.invariant.read.same ∙ first_at _ _ _ c.in-len2-up.len_at_least
    (sym c.in_err-high.ensures))

pub returns-in_err-low-clause-exact : goal.returns-in_err-low-clause-exact
returns-in_err-low-clause-exact c =
    let p = err_from_is_err_and c.from_residual-in_err-low.result
    c.from_residual-in_err-low.ensures.1 in
    rw (p.1, p.2) (sym c.loop-rest.invariant.read.same ∙ second_at _ _ _ _ c.in-len2-up.len_at_least
    (sym c.in_ok-high.ensures) (sym c.in_err-low.ensures))

pub loop-rest-preserved : goal.loop-rest-preserved
loop-rest-preserved c =
    let xs = c.loop-rest.rest.now in
    record {
      read = rw c.push_reserved.ensures.items
          (hex_on _ _ _ _ xs ((16 * c.in_ok-high.high + c.in_ok-low.low) ∷ []) _
          (more_at c.loop-rest.bytes.items xs _ _ c.in-len2-up.len_at_least
          (sym c.in_ok-high.ensures) (sym c.in_ok-low.ensures)) c.loop-rest.invariant.read);
      room = omega (
        arith,
        shorter xs 2,
        c.in-len2-up.len_at_least,
        c.push_reserved.ensures.len,
        c.push_reserved.ensures.capacity,
        c.loop-rest.invariant.room,
      );
    }

pub returns-then-not-is_empty-clause-exact : goal.returns-then-not-is_empty-clause-exact
returns-then-not-is_empty-clause-exact c = sym c.loop-rest.invariant.read.same ∙ odd_at _ _
    c.in_default-rest.len_below (sym c.is_empty.ensures ∙ c.if-not-is_empty.true)

pub returns-clause-exact : goal.returns-clause-exact
returns-clause-exact c = sym c.loop-rest.invariant.read.same ∙ end_at _ _
    (sym c.is_empty.ensures ∙ c.if-not-is_empty.false)
