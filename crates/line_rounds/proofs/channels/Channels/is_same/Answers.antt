-- The channels are the same just where what is kept of them is.
use Rattle.std.proofs.Common.{ℕ, List, sym, ◌∙◌}
use Rattle.std.proofs.lemmas.Bool.{eq-eqb, eqb-true}
use Rattle.line_rounds.specs.Inboxes.{InboxView}
use Rattle.line_rounds.proofs.SameLemmas.{same_tables, tables_same}
use Rattle.line_rounds.proofs.channels.Channels.is_same.Goals as goal

pub returns-then-self-other : goal.returns-then-self-other
returns-then-self-other c =
    let n : ℕ = c.self.inside.n in
    let m : ℕ = c.other.inside.n in
    let ours : List InboxView = c.self.inside.inboxes.items in
    let theirs : List InboxView = c.other.inside.inboxes.items in (
      λ done. sym c.self.view_is
          ∙ same_tables n m ours theirs c.if-self-other.true (sym c.deref.ensures.value
          ∙ c.are_same.ensures.0 done ∙ c.deref-then-self-other.ensures.value) ∙ c.other.view_is,
      λ same. c.are_same.ensures.1
          (c.deref.ensures.value
          ∙ (tables_same n m ours theirs c.self.invariant c.other.invariant (c.self.view_is
          ∙ same ∙ sym c.other.view_is)).1 ∙ sym c.deref-then-self-other.ensures.value),
    )

pub returns-else-self-other : goal.returns-else-self-other
returns-else-self-other c =
    let n : ℕ = c.self.inside.n in
    let m : ℕ = c.other.inside.n in (
      λ done. absurd (c.if-self-other.false (eqb-true n m done)),
      λ same. eq-eqb n m
          (tables_same n m c.self.inside.inboxes.items c.other.inside.inboxes.items c.self.invariant
          c.other.invariant (c.self.view_is ∙ same ∙ sym c.other.view_is)).0,
    )
