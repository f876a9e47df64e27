use Rattle.std.proofs.Common.{◌∙◌, ◌<◌, ℕ, List, length, ap, inl, inr, refl, subst}
use Rattle.line_tape.specs.declared.limits.TheConstants.{MOST_EVENTS}
use Rattle.line_posts.specs.declared.refusals.ReceiveWhy.{ReceiveWhy}
use Rattle.line_posts.specs.declared.refusals.ReceiveWhy.TheVariants.{NothingThere, RingFull}
use Rattle.line_posts.specs.Refusals.{IsNotReceived}
use Rattle.line_posts.specs.Ends.{row_at}
use Rattle.line_posts.specs.declared.receiving.Received.{Received}
use Rattle.line_posts.specs.Receipts.{HasReceived}
use Rattle.line_workers.proofs.MarkerLemmas.{marker_seen, marker_taken}
use Rattle.line_workers.proofs.workers.receive_once.Goals as goal

pub returns-in-NoSuchProcess-clause-cause : goal.returns-in-NoSuchProcess-clause-cause
returns-in-NoSuchProcess-clause-cause c = (
  c.args.from,
  refl,
  subst
      (λ (why : ReceiveWhy). IsNotReceived c.args.post.now (row_at c.receive.new.self.seen
      c.args.from) c.args.from c.of.result why) c.in-NoSuchProcess.is c.in-Err.ensures.why,
)

pub returns-in-NothingThere-clause-cause : goal.returns-in-NothingThere-clause-cause
returns-in-NothingThere-clause-cause c =
    let old = c.args.post.now in
    let shown = row_at c.receive.new.self.seen c.args.from in
    let none = subst (λ (why : ReceiveWhy). IsNotReceived old shown c.args.from c.of.result why)
    c.in-NothingThere.is c.in-Err.ensures.why in (
      c.in-Err.ensures.err,
      inl (subst (λ (state : List ℕ). IsNotReceived old shown c.args.from state
          NothingThere) (c.of.ensures ∙ c.new.ensures.items) none),
    )

pub returns-in-RingFull-clause-cause : goal.returns-in-RingFull-clause-cause
returns-in-RingFull-clause-cause c =
    let old = c.args.post.now in
    let shown = row_at c.receive.new.self.seen c.args.from in
    let full = subst (λ (why : ReceiveWhy). IsNotReceived old shown c.args.from c.of.result why)
    c.in-RingFull.is c.in-Err.ensures.why in (
      c.in-Err.ensures.err,
      inr (subst (λ (state : List ℕ). IsNotReceived old shown c.args.from state
          RingFull) (c.of.ensures ∙ c.new.ensures.items) full),
    )

pub returns-in-Ok-Marked-clause-cause : goal.returns-in-Ok-Marked-clause-cause
returns-in-Ok-Marked-clause-cause c =
    let old = c.args.post.now in
    let new = c.receive.new.self in
    let marked = subst (λ (r : Received). HasReceived old c.args.from c.of.result r new)
    c.in-Ok-Marked.field-0-is c.in-Ok-Marked.ensures.ok in (
      c.args.from,
      refl,
      marker_taken old new c.args.from c.in-Ok-Marked.field-0-0 c.of.result
          c.in-Ok-Marked.field-0-1
          (c.of.ensures ∙ c.new.ensures.items) c.in-Ok-Marked.ensures.may marked,
    )

pub returns-else-is_full-clause-cause : goal.returns-else-is_full-clause-cause
returns-else-is_full-clause-cause c =
    let old = c.args.post.now in
    let new = c.receive.new.self in
    let few = subst (λ (n : ℕ). n < MOST_EVENTS)
    (c.len.ensures.value ∙ ap length c.tape.ensures.value) c.if-is_full.false in
    let full = subst (λ (why : ReceiveWhy). IsNotReceived old (row_at new.seen c.args.from)
    c.args.from c.of.result why) c.in-TapeFull.is c.in-Err.ensures.why in (
      c.args.from,
      refl,
      marker_seen old new c.args.from c.of.result
          (c.of.ensures ∙ c.new.ensures.items) full few c.in-Err.ensures.err,
    )
