use Rattle.std.proofs.Common.{zero, suc, ◌≡◌, ◌<◌, ◌∙◌, ℕ, length, refl, sym, ap, subst, arith}
use Rattle.std.proofs.lemmas.Bool.{not-true, not-false}
use Rattle.std.proofs.lemmas.List.{nil_from_length}
use Rattle.rtrb.specs.Ring.{known_items}
use Rattle.line_posts.specs.Ends.{consumer_end}
use Rattle.line_posts.proofs.EndLemmas.{seen_kept, consumer_kept, known_set, known_there}
use Rattle.line_posts.proofs.EndLemmas.{known_other}
use Rattle.line_posts.proofs.ends.look_at.Goals as goal

some_of : (n : ℕ) → (n ≡ 0 → ⊥) → 0 < n
some_of zero h = absurd (h refl)
some_of (suc n) h = omega (arith)

pub returns-clause-ends : goal.returns-clause-ends
returns-clause-ends g c =
    seen_kept consumer_end c.args.ins.now.items c.args.p c.is_empty.new.self
    c.index_mut-end.result.now c.requires
    (consumer_kept c.index_mut-end.result.now c.is_empty.new.self c.is_empty.ensures.looked.0
    c.is_empty.ensures.looked.1 ∙ ap consumer_end c.index_mut-end.ensures.value)

pub returns-clause-known : goal.returns-clause-known
returns-clause-known g c = λ t.
    (let empty = c.is_empty.ensures.value in
    let not_empty = not-true _ t in
    subst (λ v. 0 < length v)
    (sym (known_set c.args.ins.now.items c.args.p c.is_empty.new.self c.requires))
    (some_of (length (known_items c.is_empty.new.self))
    (λ none. (let yes = empty.1 none in cc (yes, not_empty)))))

pub returns-clause-none : goal.returns-clause-none
returns-clause-none g c = λ f.
    known_set c.args.ins.now.items c.args.p c.is_empty.new.self c.requires
    ∙ nil_from_length (known_items c.is_empty.new.self) (c.is_empty.ensures.value.0 (not-false _ f))

pub returns-clause-seen : goal.returns-clause-seen
returns-clause-seen g c =
    rw (
      known_set c.args.ins.now.items c.args.p c.is_empty.new.self c.requires,
      known_there
          c.args.ins.now.items c.args.p c.index_mut-end.result.now c.requires
          c.index_mut-end.ensures.value,
    )
    c.is_empty.ensures.looked.2

pub returns-clause-others : goal.returns-clause-others
returns-clause-others g c =
    λ k ne. known_other c.args.ins.now.items c.args.p k c.is_empty.new.self ne
