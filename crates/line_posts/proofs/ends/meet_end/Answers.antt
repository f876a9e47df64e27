use Rattle.line_posts.proofs.EndLemmas.{seen_kept, producer_kept, consumer_kept, items_there}
use Rattle.line_posts.proofs.EndLemmas.{ring_there, is_pair, known_there, known_set, known_other}
use Rattle.std.proofs.Common.{sym, ap, ◌∙◌, length, ◌++◌}
use Rattle.line_posts.specs.Ends.{consumer_end}
use Rattle.rtrb.specs.Ring.{known_items}
use Rattle.line_posts.proofs.ends.meet_end.Goals as goal

pub slots_beside-requires : goal.slots_beside-requires
slots_beside-requires g c =
    is_pair c.args.out.now c.index_mut-consumer.result.now
    (c.requires.pair ∙ ring_there consumer_end c.args.ins.now.items c.args.p
    c.index_mut-consumer.result.now c.index_mut-consumer.result.now c.requires.within
    (sym c.index_mut-consumer.ensures.value))

pub returns-clause-out : goal.returns-clause-out
returns-clause-out g c = producer_kept c.args.out.now c.slots_beside.new.producer
    c.slots_beside.ensures.producer.0 c.slots_beside.ensures.producer.1

pub returns-clause-ins : goal.returns-clause-ins
returns-clause-ins g c =
    seen_kept consumer_end c.args.ins.now.items c.args.p c.slots_beside.new.self
    c.index_mut-consumer.result.now c.requires.within
    (consumer_kept c.index_mut-consumer.result.now c.slots_beside.new.self
    c.slots_beside.ensures.looked.0 c.slots_beside.ensures.looked.1 ∙ ap consumer_end
    c.index_mut-consumer.ensures.value)

pub returns-clause-count : goal.returns-clause-count
returns-clause-count g c = c.slots_beside.ensures.value ∙ ap length
    (sym (known_set c.args.ins.now.items c.args.p c.slots_beside.new.self c.requires.within))

pub returns-clause-fifo : goal.returns-clause-fifo
returns-clause-fifo g c =
    rw (known_set c.args.ins.now.items c.args.p c.slots_beside.new.self c.requires.within)
    (ap (λ t. t ++ known_items c.slots_beside.new.self)
    (items_there consumer_end c.args.ins.now.items c.args.p c.index_mut-consumer.result.now
    c.index_mut-consumer.result.now c.requires.within
    (sym c.index_mut-consumer.ensures.value) ∙ sym c.slots_beside.ensures.looked.1)
    ∙ (c.slots_beside.ensures.fifo ∙ c.slots_beside.ensures.producer.1))

pub returns-clause-seen : goal.returns-clause-seen
returns-clause-seen g c =
    rw (
      known_set c.args.ins.now.items c.args.p c.slots_beside.new.self c.requires.within,
      known_there c.args.ins.now.items c.args.p c.index_mut-consumer.result.now c.requires.within
          c.index_mut-consumer.ensures.value,
    )
    c.slots_beside.ensures.looked.2

pub returns-clause-others : goal.returns-clause-others
returns-clause-others g c =
    λ k ne. known_other c.args.ins.now.items c.args.p k c.slots_beside.new.self ne
