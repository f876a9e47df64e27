use Rattle.std.proofs.Common.{◌≡◌, ◌<◌, ◌≤◌, ◌∙◌, ℕ, true, false, Bool, not, refl, sym, ap, subst}
use Rattle.std.proofs.Common.{arith}
use Rattle.std.proofs.lemmas.List.{length-set}
use Rattle.std.proofs.lemmas.Bool.{both_ways, not-true, not-false}
use Rattle.rtrb.specs.Ring.{known_free}
use Rattle.line_posts.specs.Ends.{producer_end}
use Rattle.line_posts.proofs.EndLemmas.{seen_kept, producer_kept, filled_at, free_there, free_set}
use Rattle.line_posts.proofs.EndLemmas.{free_other}
use Rattle.line_posts.proofs.rooms.has_slot.Goals as goal

pub returns-clause-ends : goal.returns-clause-ends
returns-clause-ends g c =
    seen_kept producer_end c.args.outs.now.items c.args.q c.is_full.new.self
    c.index_mut-end.result.now c.requires
    (producer_kept c.index_mut-end.result.now c.is_full.new.self c.is_full.ensures.looked.0
    c.is_full.ensures.looked.1 ∙ ap producer_end c.index_mut-end.ensures.value)

pub returns-clause-long : goal.returns-clause-long
returns-clause-long g c = length-set c.args.outs.now.items c.args.q c.is_full.new.self

pub returns-clause-room : goal.returns-clause-room
returns-clause-room g c = λ t.
    (let ne : known_free c.is_full.new.self ≡ 0 → ⊥ = λ e. both_ways c.is_full.result
    (not-true c.is_full.result t) (c.is_full.ensures.value.1 e) in
    subst (λ v. 0 < v) (sym (free_set c.args.outs.now.items c.args.q c.is_full.new.self c.requires))
    (omega (arith, ne)))

pub returns-clause-others : goal.returns-clause-others
returns-clause-others g c =
    λ k ne. free_other c.args.outs.now.items c.args.q k c.is_full.new.self ne

pub returns-clause-full : goal.returns-clause-full
returns-clause-full g c = λ f. free_set c.args.outs.now.items c.args.q c.is_full.new.self c.requires
    ∙ c.is_full.ensures.value.0 (not-false c.is_full.result f)

pub returns-clause-filled : goal.returns-clause-filled
returns-clause-filled g c = λ f.
    filled_at c.args.outs.now.items c.args.q c.index_mut-end.result.now c.is_full.new.self
    c.requires c.index_mut-end.ensures.value
    (producer_kept c.index_mut-end.result.now c.is_full.new.self c.is_full.ensures.looked.0
    c.is_full.ensures.looked.1)
    (c.is_full.ensures.value.0 (not-false c.is_full.result f))

free_one : (b : Bool) (old new : ℕ) → (b ≡ true → new ≡ 0) → old ≤ new → 0 < old → not b ≡ true
free_one true old new none kept some = (let z = none refl in absurd (omega (arith, z, kept, some)))
free_one false old new none kept some = refl

pub returns-clause-succeeds : goal.returns-clause-succeeds
returns-clause-succeeds g c = λ room.
    (let there = free_there c.args.outs.now.items c.args.q c.index_mut-end.result.now c.requires
    c.index_mut-end.ensures.value in
    free_one c.is_full.result (known_free c.index_mut-end.result.now)
    (known_free c.is_full.new.self) c.is_full.ensures.value.0 c.is_full.ensures.looked.2
    (subst (λ v. 0 < v) there room))
