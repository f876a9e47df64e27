use Rattle.std.proofs.Common.{◌≡◌, ◌∙◌, ◌<◌, ◌∷◌, [], length, set, sym, ap, arith}
use Rattle.std.specs.VecDeque.{deque_items}
use Rattle.std.proofs.lemmas.List.{map-set, length-map}
use Rattle.line_posts.specs.Ends.{row_at}
use Rattle.line_posts.proofs.RowLemmas.{row_seen}
use Rattle.line_posts.specs.Gathering.{rows_of}
use Rattle.line_posts.specs.Replays.{packets_of, cell_at}
use Rattle.line_posts.proofs.SortLemmas.{cell_put}
use Rattle.line_posts.proofs.replays.put_packet.Goals as goal

pub returns : goal.returns
returns c =
    let rows = c.args.packets.now.items in
    let V = c.index_mut-queues.result.now in
    let Q = c.index_mut-queue.result.now in
    let row : row_at (packets_of rows) c.args.q
    ≡ rows_of V.items = row_seen (λ v. rows_of v.items) rows c.args.q V c.requires.to ∙ ap
    (λ v. rows_of v.items) (sym c.index_mut-queues.ensures.value) in
    let lt : c.args.p < length V.items = (let l = length-map V.items deque_items in let r = ap
    length row in let f = c.requires.from in omega (arith, l, r, f)) in
    let old : cell_at [] (packets_of rows) c.args.q c.args.p
    ≡ deque_items Q = ap (λ t. row_at t c.args.p) row ∙ (row_seen deque_items V.items c.args.p Q
    lt ∙ ap deque_items (sym c.index_mut-queue.ensures.value)) in
    let put = map-set deque_items V.items c.args.p c.push_front.new.self ∙ ap
    (λ t. set (rows_of V.items) c.args.p t)
    (c.in_ok-push_front.ensures.items ∙ ap (λ t. c.args.packet ∷ t) (sym old)) in
    cell_put (λ v. rows_of v.items) rows c.args.q c.args.p V _ (c.args.packet ∷ cell_at []
    (packets_of rows) c.args.q c.args.p) c.requires.to c.index_mut-queues.ensures.value put
