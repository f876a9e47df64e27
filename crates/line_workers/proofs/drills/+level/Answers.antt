use Rattle.std.proofs.Common.{length, inl, inr, subst, arith}
use Rattle.std.proofs.lemmas.Result.{IfErr-weaker, IfOk-at_ok, IfErr-at_err, IfOk-weaker}
use Rattle.std.specs.declared.vec.Vec.{Vec}
use Rattle.std.specs.declared.alloc.Global.{Global}
use Rattle.line_posts.specs.Posts.{PostView}
use Rattle.line_workers.specs.declared.orders.Order.{Order}
use Rattle.line_workers.specs.Faults.{HasFailed}
use Rattle.line_workers.specs.Followed.{HasDone}
use Rattle.line_workers.specs.Scripts.{scripts_of}
use Rattle.line_workers.proofs.DrillLemmas.{drilled_more, own_script}
use Rattle.line_workers.proofs.FaultLemmas.{stopped_below, stopped_last}
use Rattle.line_workers.proofs.drills.+level.Goals as goal

pub returns-clause-drilled : goal.returns-clause-drilled
returns-clause-drilled g t c =
    let S = c.args.scripts.now in
    let l = c.len.ensures in
    let k = c.pop.new.self.ok in
    let xs = c.pop.new.self.items in
    let x = c.in-Some.post in
    let script = c.index-scripts-len.result in
    let own = own_script S c.args.posts.items xs x c.len.result script c.in-Some.ensures.items
    c.requires (omega (arith, l, k)) c.index-scripts-len.is in
    IfOk-weaker c.with_last.result _ _
    (λ all back.
    let (posts, post, others_is, last_is, items, room) = back in
    let promise = c.in_ok-handle.handle.promise in
    let done = IfOk-at_ok _ last_is c.join-last.ensures.0 in
    let last : HasDone script.items x post = subst
    (λ (v : PostView). HasDone script.items v post) c.in_ok-handle.ensures.started.0
    (subst (λ (s : Vec Order Global). HasDone s.items promise.0.value post)
    c.in_ok-handle.ensures.started.1 done) in
    drilled_more
    (scripts_of S) c.args.posts.items xs posts.items all.items x post script.items
    c.in-Some.ensures.items items own
    (IfOk-at_ok _ others_is c.level-others.ensures.drilled) last)
    c.with_last.ensures.back

pub returns-clause-stopped : goal.returns-clause-stopped
returns-clause-stopped g t c =
    let S = c.args.scripts.now in
    let l = c.len.ensures in
    let k = c.pop.new.self.ok in
    let xs = c.pop.new.self.items in
    let x = c.in-Some.post in
    let script = c.index-scripts-len.result in
    let own = own_script S c.args.posts.items xs x c.len.result script c.in-Some.ensures.items
    c.requires (omega (arith, l, k)) c.index-scripts-len.is in
    IfErr-weaker c.with_last.result _ _
    (λ e fault. elim fault [
      | inl others ↦ stopped_below (scripts_of S) c.args.posts.items xs x e c.in-Some.ensures.items
          (IfErr-at_err _ others c.level-others.ensures.stopped)
      | inr (back, last) ↦
          let promise = c.in_ok-handle.handle.promise in
          let started = c.in_ok-handle.ensures.started in
          let failed : HasFailed script.items x e = subst
          (λ (v : PostView). HasFailed script.items v e) started.0
          (subst (λ (s : Vec Order Global). HasFailed s.items promise.0.value e) started.1
          (IfErr-at_err _ last c.join-last.ensures.1)) in
          stopped_last (scripts_of S) c.args.posts.items xs x script.items e c.in-Some.ensures.items
          own failed
    ])
    c.with_last.ensures.fault
