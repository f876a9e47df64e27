use Rattle.std.proofs.Common.{◌∙◌, ◌++◌, ◌∷◌, [], List, Ok, ap, arith, sym}
use Rattle.line_scripts.specs.declared.keeping.Kept.{Kept}
use Rattle.line_scripts.proofs.BlockLemmas.{kept_next}
use Rattle.line_scripts.proofs.KeepingLemmas.{packed_behind}
use Rattle.line_scripts.proofs.blocks.Blocks.keep.Goals as goal

pub invariant_of-self-in-Ok : goal.invariant_of-self-in-Ok
invariant_of-self-in-Ok c =
    let blocks = c.make_room.ensures.blocks in
    let more = c.push_reserved.ensures.items ∙ ap
    (λ (ks : List Kept). ks ++ c.in-Ok.command ∷ []) c.in_ok-reserve.ensures.items in
    record {
      each = blocks.each;
      few = blocks.few;
      packed = packed_behind _ _ _ _ _ more c.in-Ok.ensures.long c.in-Ok.ensures.kept
          c.in-Ok.ensures.short blocks.packed;
      within = omega (
        arith,
        c.push_reserved.ensures.len,
        c.in_ok-reserve.ensures.len,
        c.in_ok-make_room.ensures.room,
      );
    }

pub returns-in-Ok-clause-exact : goal.returns-in-Ok-clause-exact
returns-in-Ok-clause-exact c =
    let more = c.push_reserved.ensures.items ∙ ap
    (λ (ks : List Kept). ks ++ c.in-Ok.command ∷ []) c.in_ok-reserve.ensures.items in
    rw c.in-Ok.ensures.exact
    (ap Ok
    (kept_next c.args.self.now c.make_room.new.full.items _ _ _ _ _ (sym c.self.view_is ∙ sym
    c.make_room.ensures.same) more c.in-Ok.ensures.long c.in-Ok.ensures.kept
    c.make_room.ensures.blocks.packed))
