use Rattle.line_posts.proofs.EndLemmas.{seen_kept, producer_kept, consumer_kept, items_there}
use Rattle.line_posts.proofs.EndLemmas.{ring_there, is_pair, known_there, known_set, known_other}
use Rattle.std.proofs.Common.{sym, ap, ◌∙◌, ◌++◌}
use Rattle.line_posts.specs.Ends.{producer_end, consumer_end}
use Rattle.rtrb.specs.Ring.{known_items}
use Rattle.line_posts.proofs.ends.meet.Goals as goal

pub slots_beside-requires : goal.slots_beside-requires
slots_beside-requires g c =
    is_pair c.index_mut-producer.result.now c.index_mut-consumer.result.now
    (sym (ring_there producer_end c.args.outs.now.items c.args.q c.index_mut-producer.result.now
    c.index_mut-producer.result.now c.requires.out_within
    (sym c.index_mut-producer.ensures.value))
    ∙ (c.requires.pair
    ∙ ring_there consumer_end c.args.ins.now.items c.args.p c.index_mut-consumer.result.now
    c.index_mut-consumer.result.now c.requires.in_within
    (sym c.index_mut-consumer.ensures.value)))

pub returns-clause-outs : goal.returns-clause-outs
returns-clause-outs g c =
    seen_kept producer_end c.args.outs.now.items c.args.q c.slots_beside.new.producer
    c.index_mut-producer.result.now c.requires.out_within
    (producer_kept c.index_mut-producer.result.now c.slots_beside.new.producer
    c.slots_beside.ensures.producer.0 c.slots_beside.ensures.producer.1 ∙ ap producer_end
    c.index_mut-producer.ensures.value)

pub returns-clause-ins : goal.returns-clause-ins
returns-clause-ins g c =
    seen_kept consumer_end c.args.ins.now.items c.args.p c.slots_beside.new.self
    c.index_mut-consumer.result.now c.requires.in_within
    (consumer_kept c.index_mut-consumer.result.now c.slots_beside.new.self
    c.slots_beside.ensures.looked.0 c.slots_beside.ensures.looked.1 ∙ ap consumer_end
    c.index_mut-consumer.ensures.value)

pub returns-clause-fifo : goal.returns-clause-fifo
returns-clause-fifo g c = (
  known_items c.slots_beside.new.self,
  sym c.slots_beside.ensures.value,
  ap (λ t. t ++ known_items c.slots_beside.new.self)
      (items_there consumer_end c.args.ins.now.items c.args.p c.index_mut-consumer.result.now
      c.index_mut-consumer.result.now c.requires.in_within
      (sym c.index_mut-consumer.ensures.value) ∙ sym c.slots_beside.ensures.looked.1)
      ∙ (c.slots_beside.ensures.fifo ∙ (c.slots_beside.ensures.producer.1
      ∙ sym (items_there producer_end c.args.outs.now.items c.args.q c.index_mut-producer.result.now
      c.index_mut-producer.result.now c.requires.out_within
      (sym c.index_mut-producer.ensures.value)))),
)

pub returns-clause-seen : goal.returns-clause-seen
returns-clause-seen g c =
    rw (
      known_set c.args.ins.now.items c.args.p c.slots_beside.new.self c.requires.in_within,
      known_there c.args.ins.now.items c.args.p c.index_mut-consumer.result.now
          c.requires.in_within c.index_mut-consumer.ensures.value,
    )
    c.slots_beside.ensures.looked.2

pub returns-clause-others : goal.returns-clause-others
returns-clause-others g c =
    λ k ne. known_other c.args.ins.now.items c.args.p k c.slots_beside.new.self ne
