use Rattle.std.proofs.Common.{◌≡◌, ◌∙◌, ◌-◌, ◌++◌, ap, sym, arith, length, take, drop}
use Rattle.std.proofs.lemmas.List.{length-drop}
use Rattle.line_fields.specs.Texts.{hex_pair}
use Rattle.line_fields.proofs.OutletLemmas.{all_of, digits_of}
use Rattle.line_fields.proofs.TextLemmas.{rest_is}
use Rattle.line_fields.proofs.SpellLemmas.{spelled_more}
use Rattle.line_fields.proofs.digits.push_hex.Goals as goal

pub loop-rest-preserved : goal.loop-rest-preserved
loop-rest-preserved c =
    let xs = c.loop-rest.rest.now in
    let more = spelled_more c.loop-rest.out.items xs 8 in
    let shorter : length (take (length xs - 8) (drop 8 xs))
    ≡ length xs - 8 = ap length (rest_is xs 8) ∙ length-drop 8 xs in
    record {
      same =
          rw (c.in-Ok.ensures.items, c.digits_of_eight.ensures) (more ∙ c.loop-rest.invariant.same);
      room = omega (
        arith,
        shorter,
        c.loop-rest-test.true,
        c.in-Ok.ensures.len,
        c.in-Ok.ensures.capacity,
        c.loop-rest.invariant.room,
      );
    }

pub returns : goal.returns
returns c =
    let left = c.loop-rest.rest.now in
    c.loop-byte.invariant.same ∙ ap (λ ds. c.loop-rest.out.items ++ ds) (sym (digits_of left ∙
    all_of hex_pair left c.loop-byte.byte-index (omega arith))) ∙ c.loop-rest.invariant.same
