-- One sender more.
use Rattle.std.proofs.Common.{List, leb, sym, ap, ◌∙◌}
use Rattle.std.proofs.Common.{arith, inl, inr, rules}
use Rattle.std.proofs.lemmas.Bool.{cases_lt}
use Rattle.std.proofs.lemmas.List.Sorted.{IsPartitionPoint-from_clause, IsPartitionedBy-leb}
use Rattle.line_names.specs.declared.messages.MsgName.{MsgName}
use Rattle.line_catalogue.specs.Left.{start_at}
use Rattle.line_catalogue.proofs.SenderLemmas.{group-goes, group-least}
use Rattle.line_catalogue.proofs.olds.are_none.Goals as goal

pub loop-at-preserved : goal.loop-at-preserved
loop-at-preserved c =
    let messages : List MsgName = c.args.messages.now in
    let first : MsgName = c.index-messages-at.result in
    let point = IsPartitionPoint-from_clause (λ (m : MsgName). leb m.from first.from) _ _
    c.partition_point-at.ensures.partitioned
    (IsPartitionedBy-leb (λ (m : MsgName). m.from) messages first.from c.requires.senders)
    (λ a r q k. search rules) in
    record {
      within = c.partition_point-at.ensures.bound;
      none = λ j m before there. elim (cases_lt j c.loop-at.at) [
        | inl earlier ↦ c.loop-at.invariant.none j m earlier there
        | inr later ↦
            let least = group-least messages c.loop-at.at c.partition_point-at.result j first m
            c.requires (sym c.index-messages-at.is) point later before
            (omega (arith, before, c.partition_point-at.ensures.bound)) there in
            omega (
              arith,
              c.if-first-base.false,
              c.base.ensures ∙ ap (start_at c.args.known.now.bases.items)
                  (c.get.ensures.value ∙ sym least.0),
              least.1,
            )
      ];
    }

pub loop-at-smaller : goal.loop-at-smaller
loop-at-smaller c =
    let messages : List MsgName = c.args.messages.now in
    let first : MsgName = c.index-messages-at.result in
    let point = IsPartitionPoint-from_clause (λ (m : MsgName). leb m.from first.from) _ _
    c.partition_point-at.ensures.partitioned
    (IsPartitionedBy-leb (λ (m : MsgName). m.from) messages first.from c.requires.senders)
    (λ a r q k. search rules) in
    omega (
      arith,
      group-goes messages c.loop-at.at c.partition_point-at.result first
          (sym c.index-messages-at.is) c.loop-at-test.true point,
      c.loop-at-test.true,
    )
