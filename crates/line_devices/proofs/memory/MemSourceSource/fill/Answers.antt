use Rattle.std.proofs.Common.{◌≡◌, ◌+◌, ◌-◌, ◌++◌, ◌∙◌, ℕ, List, take, drop, length, sym, ap, arith}
use Rattle.std.proofs.lemmas.Simd.{chunk-drop}
use Rattle.std.proofs.lemmas.List.{take_at, length-take}
use Rattle.line_devices.proofs.memory.MemSourceSource.fill.Goals as goal

pub returns-clause-moves : goal.returns-clause-moves
returns-clause-moves c =
    let bytes = c.self.inside.bytes.items in
    let at = c.self.inside.at in
    let n = c.min-count.result in
    let part : take (at + n - at) (drop at bytes) ≡ take n (drop at bytes) = ap
    (λ (m : ℕ). take m (drop at bytes)) (let same : at + n - at ≡ n = omega arith in same) in
    let copied : c.copy_from_slice.new.self ≡ take n (drop at bytes) =
    c.copy_from_slice.ensures.after ∙
    (ap (λ (w : List ℕ). take (at + n - at) (drop at w)) c.deref.ensures.value ∙ part) in
    let long : length c.copy_from_slice.new.self ≡ n = omega (
      arith,
      c.copy_from_slice.ensures.len,
      length-take n c.args.into.now,
      c.min-count.ensures,
      c.min.ensures,
    ) in
    let front : take n (c.copy_from_slice.new.self ++ drop n c.args.into.now)
    ≡ c.copy_from_slice.new.self = take_at _ _ n long in
    let seen : c.args.self.now.left ≡ drop at bytes = sym (ap (λ s. s.left) c.self.view_is) in
    seen ∙ (chunk-drop at n bytes ∙ ap (λ t. t ++ drop (at + n) bytes) (sym (front ∙ copied)))
