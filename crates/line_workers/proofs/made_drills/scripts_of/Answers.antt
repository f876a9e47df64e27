-- The scripts so far are those of the workers so far.
use Rattle.std.proofs.Common.{◌≡◌, ◌++◌, ◌∷◌, ◌∙◌, [], ℕ, List, ap, arith, map, sym}
use Rattle.std.specs.List.{range_with_len}
use Rattle.std.specs.declared.alloc.Global.{Global}
use Rattle.std.specs.declared.vec.Vec.{Vec}
use Rattle.std.proofs.lemmas.List.{map-append}
use Rattle.std.proofs.lemmas.List.FromFn.{map-range_with_len_more}
use Rattle.line_workers.specs.declared.orders.Order.{Order}
use Rattle.line_workers.specs.Scripts.{scripts_of}
use Rattle.line_workers.specs.MadeDrills.{orders_of}
use Rattle.line_workers.proofs.made_drills.scripts_of.Goals as goal

pub loop-p-preserved : goal.loop-p-preserved
loop-p-preserved c =
    let script : ℕ → List Order = λ p. orders_of c.args.workers p c.args.rounds in
    let p : ℕ = c.loop-p.p in
    let new : List Order = c.in_ok-orders.orders.items in
    let pushed : scripts_of c.push.new.self.items ≡ scripts_of c.loop-p.scripts.items ++ new ∷ [] =
    ap (λ (xs : List (Vec Order Global)). scripts_of xs) c.in_ok-push.ensures.items ∙ map-append
    (λ (s : Vec Order Global). s.items) c.loop-p.scripts.items (c.in_ok-orders.orders ∷ []) in
    pushed ∙ ap (λ (xs : List (List Order)). xs ++ new ∷ []) c.loop-p.invariant
    ∙ ap (λ (x : List Order). map script (range_with_len 0 p) ++ x ∷ []) c.in_ok-orders.ensures ∙
    sym (map-range_with_len_more script 0 p p (omega arith))
