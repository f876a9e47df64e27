use Rattle.std.proofs.Common.{◌≡◌, ◌∙◌, ◌-◌, ◌<◌, length, get_or, set, ap, subst, arith}
use Rattle.line_tape.specs.Event.{NamesBelow}
use Rattle.line_tape.specs.Shown.{event_of_ref}
use Rattle.line_posts.specs.Replays.{packets_of}
use Rattle.line_posts.proofs.SortLemmas.{other_default, put_at}
use Rattle.line_posts.proofs.replays.note_sent.Goals as goal

pub returns-in_ok-put_packet-in-Send : goal.returns-in_ok-put_packet-in-Send
returns-in_ok-put_packet-in-Send c =
    let counts = c.args.counts.now.items in
    let q = c.get-q.result in
    let e = ap event_of_ref c.in-Send.is in
    let within : q < length counts = (let t = subst (NamesBelow (length counts)) e c.requires.named
    in let is = c.get-q.ensures.value in omega (arith, t, is)) in
    let seen : c.index.result.now ≡ get_or counts q 0 = c.index.ensures ∙ other_default counts q
    c.index.result.now 0 within in
    let some : 0 < get_or counts q 0 = (let f = c.if-index-eq0.false in omega (arith, seen, f)) in
    let less = ap (λ k. set counts q (k - 1))
    (c.index_mut.ensures.value ∙ other_default counts q c.index_mut.result.now 0 within) in
    record {
      noted = put_at c.args.p c.args.number q c.in-Send.to c.in-Send.inc c.in-Send.body.now
          (event_of_ref c.args.event.now) c.packet.result counts
          (set counts q (c.index_mut.result.now - 1)) (packets_of c.args.packets.now.items)
          (packets_of c.put_packet.new.packets.items)
          e c.get-q.ensures.value c.packet.ensures c.requires.named c.requires.from
          c.requires.packets some less c.in_ok-put_packet-in-Send.ensures;
    }
