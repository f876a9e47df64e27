use Rattle.std.proofs.Common.{◌∙◌, List, length, refl, sym, ap, subst, arith}
use Rattle.line_catalogue.specs.Views.{CatalogueView}
use Rattle.line_posts.specs.Ends.{in_ends, known_rows}
use Rattle.line_posts.proofs.EndLemmas.{still_rows}
use Rattle.line_posts.specs.Posts.{PostView}
use Rattle.line_posts.specs.Extension.{Extends}
use Rattle.line_posts.specs.Collected.{CollectorView}
use Rattle.line_posts.specs.Gathering.{AreBack, AreGatheredOnward}
use Rattle.line_posts.specs.Generations.{own_history}
use Rattle.line_posts.specs.Kept.{collector_at, gathered_in}
use Rattle.line_posts.proofs.AnewLemmas.{extends_taken, prefixes_are}
use Rattle.line_posts.proofs.OwnLemmas.{back_of}
use Rattle.line_posts.proofs.ReportLemmas.{looked_only}
use Rattle.line_posts.proofs.gathering.gather.Goals as goal

pub gather_all-requires : goal.gather_all-requires
gather_all-requires c =
    let P = c.args.posts.items in
    let I = c.collector.inside in
    let V = collector_at I.opening.value.processes I.forgotten I.catalogue.marks
    (in_ends I.lines.items) (known_rows I.lines.items) I.capacity in
    let t = c.if-not-account.false in
    let a = c.len.ensures in
    let b = c.if-len-n.false in
    let n = c.n-n.ensures.value in
    let k = c.args.posts.ok in
    let o = ap (λ (v : CollectorView). length v.opening) c.collector.view_is in
    let m = c.collector.invariant.0.count in
    let back : AreBack V P = back_of V c.args.collector P c.collector.view_is
    c.collector.invariant.0 c.requires.lines
    (c.account.ensures.known t) (c.account.ensures.order.0 t) (omega (arith, a, b, n, k, o, m))
    (c.account.ensures.fit t) in
    record {
      back =
          (V, subst (AreBack V) (sym c.account.ensures.same) back, refl, c.collector.invariant.1);
    }

pub invariant_of-result : goal.invariant_of-result
invariant_of-result c =
    let P = c.args.posts.items in
    let I = c.collector.inside in
    let V = collector_at I.opening.value.processes I.forgotten I.catalogue.marks
    (in_ends I.lines.items) (known_rows I.lines.items) I.capacity in
    let t = c.if-not-account.false in
    let a = c.len.ensures in
    let b = c.if-len-n.false in
    let n = c.n-n.ensures.value in
    let k = c.args.posts.ok in
    let o = ap (λ (v : CollectorView). length v.opening) c.collector.view_is in
    let m = c.collector.invariant.0.count in
    let back : AreBack V P = back_of V c.args.collector P c.collector.view_is
    c.collector.invariant.0 c.requires.lines
    (c.account.ensures.known t) (c.account.ensures.order.0 t) (omega (arith, a, b, n, k, o, m))
    (c.account.ensures.fit t) in
    let made : CatalogueView = gathered_in c.in-Ok.anew c.gather_all.new.catalogue in
    let G : CatalogueView = c.chosen.result in
    let first : AreGatheredOnward c.args.failed V.lines P made.processes = subst
    (λ (xs : List PostView). AreGatheredOnward c.args.failed V.lines xs made.processes)
    c.account.ensures.same c.in-Ok.ensures.gathered in
    let got : AreGatheredOnward c.args.failed V.lines P G.processes = subst (λ (g : CatalogueView).
    AreGatheredOnward c.args.failed V.lines P g.processes) (sym c.chosen.ensures) first in
    (own_history P, c.account.ensures.fit t, prefixes_are V P back c.args.failed G.processes got)

pub returns-in-Ok-clause-gathered : goal.returns-in-Ok-clause-gathered
returns-in-Ok-clause-gathered c =
    let P = c.args.posts.items in
    let I = c.collector.inside in
    let V = collector_at I.opening.value.processes I.forgotten I.catalogue.marks
    (in_ends I.lines.items) (known_rows I.lines.items) I.capacity in
    let t = c.if-not-account.false in
    let a = c.len.ensures in
    let b = c.if-len-n.false in
    let n = c.n-n.ensures.value in
    let k = c.args.posts.ok in
    let o = ap (λ (v : CollectorView). length v.opening) c.collector.view_is in
    let m = c.collector.invariant.0.count in
    let back : AreBack V P = back_of V c.args.collector P c.collector.view_is
    c.collector.invariant.0 c.requires.lines
    (c.account.ensures.known t) (c.account.ensures.order.0 t) (omega (arith, a, b, n, k, o, m))
    (c.account.ensures.fit t) in
    let made : CatalogueView = gathered_in c.in-Ok.anew c.gather_all.new.catalogue in
    let G : CatalogueView = c.chosen.result in
    let first : AreGatheredOnward c.args.failed V.lines P made.processes = subst
    (λ (xs : List PostView). AreGatheredOnward c.args.failed V.lines xs made.processes)
    c.account.ensures.same c.in-Ok.ensures.gathered in
    let got : AreGatheredOnward c.args.failed V.lines P G.processes = subst (λ (g : CatalogueView).
    AreGatheredOnward c.args.failed V.lines P g.processes) (sym c.chosen.ensures) first in
    got.gathered_is

pub returns-in-Ok-clause-prefix : goal.returns-in-Ok-clause-prefix
returns-in-Ok-clause-prefix c =
    let P = c.args.posts.items in
    let I = c.collector.inside in
    let V = collector_at I.opening.value.processes I.forgotten I.catalogue.marks
    (in_ends I.lines.items) (known_rows I.lines.items) I.capacity in
    let t = c.if-not-account.false in
    let a = c.len.ensures in
    let b = c.if-len-n.false in
    let n = c.n-n.ensures.value in
    let k = c.args.posts.ok in
    let o = ap (λ (v : CollectorView). length v.opening) c.collector.view_is in
    let m = c.collector.invariant.0.count in
    let back : AreBack V P = back_of V c.args.collector P c.collector.view_is
    c.collector.invariant.0 c.requires.lines
    (c.account.ensures.known t) (c.account.ensures.order.0 t) (omega (arith, a, b, n, k, o, m))
    (c.account.ensures.fit t) in
    let made : CatalogueView = gathered_in c.in-Ok.anew c.gather_all.new.catalogue in
    let G : CatalogueView = c.chosen.result in
    let first : AreGatheredOnward c.args.failed V.lines P made.processes = subst
    (λ (xs : List PostView). AreGatheredOnward c.args.failed V.lines xs made.processes)
    c.account.ensures.same c.in-Ok.ensures.gathered in
    let got : AreGatheredOnward c.args.failed V.lines P G.processes = subst (λ (g : CatalogueView).
    AreGatheredOnward c.args.failed V.lines P g.processes) (sym c.chosen.ensures) first in
    prefixes_are V P back c.args.failed G.processes got

pub returns-in-Ok-clause-onward : goal.returns-in-Ok-clause-onward
returns-in-Ok-clause-onward c =
    let P = c.args.posts.items in
    let I = c.collector.inside in
    let V = collector_at I.opening.value.processes I.forgotten I.catalogue.marks
    (in_ends I.lines.items) (known_rows I.lines.items) I.capacity in
    let t = c.if-not-account.false in
    let a = c.len.ensures in
    let b = c.if-len-n.false in
    let n = c.n-n.ensures.value in
    let k = c.args.posts.ok in
    let o = ap (λ (v : CollectorView). length v.opening) c.collector.view_is in
    let m = c.collector.invariant.0.count in
    let back : AreBack V P = back_of V c.args.collector P c.collector.view_is
    c.collector.invariant.0 c.requires.lines
    (c.account.ensures.known t) (c.account.ensures.order.0 t) (omega (arith, a, b, n, k, o, m))
    (c.account.ensures.fit t) in
    let made : CatalogueView = gathered_in c.in-Ok.anew c.gather_all.new.catalogue in
    let G : CatalogueView = c.chosen.result in
    let first : AreGatheredOnward c.args.failed V.lines P made.processes = subst
    (λ (xs : List PostView). AreGatheredOnward c.args.failed V.lines xs made.processes)
    c.account.ensures.same c.in-Ok.ensures.gathered in
    let got : AreGatheredOnward c.args.failed V.lines P G.processes = subst (λ (g : CatalogueView).
    AreGatheredOnward c.args.failed V.lines P g.processes) (sym c.chosen.ensures) first in
    subst (λ (v : CollectorView). Extends G.processes v.processes) c.collector.view_is
    (extends_taken V P back c.args.failed G.processes got)

pub returns-in-Err-clause-back : goal.returns-in-Err-clause-back
returns-in-Err-clause-back c =
    let I = c.collector.inside in
    let f = c.gather_all.ensures in
    let N = c.gather_all.new.lines.items in (
      looked_only c.args.collector I.opening.value.processes I.forgotten I.catalogue.marks
          (in_ends I.lines.items) (known_rows I.lines.items) I.capacity c.collector.view_is
          c.gather_all.new.catalogue.marks (in_ends N) (known_rows N) c.in-Err.ensures.still f.lines
          (still_rows (known_rows I.lines.items) N f.seen),
      f.posts ∙ c.account.ensures.same,
    )

pub returns-in-Ok-clause-may : goal.returns-in-Ok-clause-may
returns-in-Ok-clause-may c =
    let t = c.if-not-account.false in
    let a = c.len.ensures in
    let b = c.if-len-n.false in
    let n = c.n-n.ensures.value in
    let k = c.args.posts.ok in
    let o = ap (λ (v : CollectorView). length v.opening) c.collector.view_is in
    let m = c.collector.invariant.0.count in (
      λ q is. (let below = c.is_below.ensures.value.0 c.if-not-is_below.false q is in omega
          (arith, below, n, o, m)),
      (omega (arith, a, b, n, k, o, m), c.account.ensures.order.0 t),
    )

pub returns-in-Err-clause-unfinished : goal.returns-in-Err-clause-unfinished
returns-in-Err-clause-unfinished c =
    let t = c.if-not-account.false in
    let a = c.len.ensures in
    let b = c.if-len-n.false in
    let n = c.n-n.ensures.value in
    let k = c.args.posts.ok in
    let o = ap (λ (v : CollectorView). length v.opening) c.collector.view_is in
    let m = c.collector.invariant.0.count in
    (λ e. cc e, λ h. absurd (h.1 (omega (arith, a, b, n, k, o, m), c.account.ensures.order.0 t)))
