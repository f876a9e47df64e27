use Rattle.std.proofs.Common.{◌≡◌, ℕ, length, sym, ap, subst, arith}
use Rattle.std.specs.Prelude.{slice_get, Some}
use Rattle.std.proofs.lemmas.List.{length_push}
use Rattle.line_posts.specs.Posts.{PostView}
use Rattle.line_posts.specs.Generations.{AreLinkedTwo, IsGeneration}
use Rattle.line_posts.specs.Gathering.{AreMet, AreMetTwo}
use Rattle.line_posts.proofs.MeetLemmas.{fewer, last_linked, self_linked, all_met}
use Rattle.line_posts.proofs.accounts.+meet_all.Goals as goal

pub meet_self-requires : goal.meet_self-requires
meet_self-requires t c = (self_linked c.args.posts.now.items c.pop.new.self.items c.in-Some.last
    c.in-Some.ensures.items c.requires).1

pub meet_each-requires : goal.meet_each-requires
meet_each-requires t c = record {
  linked = subst (λ (v : PostView). (j : ℕ) (other : PostView) → slice_get c.pop.new.self.items j
      ≡ Some other → AreLinkedTwo v other) (sym c.meet_self.ensures.same)
      (last_linked c.args.posts.now.items c.pop.new.self.items c.in-Some.last
      c.in-Some.ensures.items c.requires);
}

pub meet_all-requires : goal.meet_all-requires
meet_all-requires t c =
    let e = ap length c.meet_each.ensures.others in
    let f = ap length c.in-Some.ensures.items in
    let g = length_push c.pop.new.self.items c.in-Some.last in
    let d = c.decreases in (
      omega (arith, e, f, g, d),
      subst IsGeneration (sym c.meet_each.ensures.others) (fewer c.args.posts.now.items
          c.pop.new.self.items c.in-Some.last c.in-Some.ensures.items c.requires),
    )

pub returns-clause-met : goal.returns-clause-met
returns-clause-met t c =
    let same = c.meet_self.ensures.same in
    all_met c.args.posts.now.items c.pop.new.self.items c.in-Some.last c.in-Some.ensures.items
    c.meet_self.ensures.met
    (subst (λ (v : PostView). (j : ℕ) (other : PostView) → slice_get c.pop.new.self.items j
    ≡ Some other → AreMetTwo v other × AreMetTwo other v) same c.meet_each.ensures.met)
    (subst AreMet c.meet_each.ensures.others c.meet_all.ensures.met)
