use Rattle.std.proofs.Common.{◌≡◌, ◌∙◌, ◌<◌, ℕ, List, length, map, get_or, set, refl, sym, ap}
use Rattle.std.proofs.Common.{subst, arith}
use Rattle.std.specs.Prelude.{All}
use Rattle.std.specs.List.{filter}
use Rattle.std.proofs.lemmas.List.{length-map, map-set}
use Rattle.line_names.specs.declared.choices.Choice.{Choice}
use Rattle.line_names.specs.declared.messages.MsgName.{MsgName}
use Rattle.line_tape.specs.declared.events.Event.{Event}
use Rattle.line_tape.specs.declared.items.Item.TheVariants.{Message as item_message}
use Rattle.line_tape.specs.Event.{NamesBelow}
use Rattle.line_tape.specs.History.{Process, fresh, tape_at, IsHistory}
use Rattle.line_tape.specs.Restart.{restarted_history}
use Rattle.line_tape.specs.Rounds.{rounds_checked}
use Rattle.line_tape.specs.Transit.{goes_between, in_transit, in_transit_between}
use Rattle.line_tape.proofs.EachLemmas.{restarted-each}
use Rattle.line_tape.proofs.HistoryCuts.{IsHistory-restarted}
use Rattle.line_laws.proofs.LetterLemmas.{open_are, parts}
use Rattle.line_tape.proofs.StayLemmas.{length_restarted}
use Rattle.line_posts.specs.Ends.{row_at}
use Rattle.line_posts.proofs.RowLemmas.{row_seen}
use Rattle.line_posts.specs.Openings.{parcels_left}
use Rattle.line_posts.specs.Parcels.{item_of, items_of_parcels}
use Rattle.line_posts.specs.Replays.{counts_of, packets_of, total, AreOfSender, AreSquare}
use Rattle.line_posts.proofs.CountLemmas.{counted_none, left_all, left_step}
use Rattle.line_posts.proofs.MeetLemmas.{there}
use Rattle.line_posts.proofs.SortLemmas.{left_last, other_default}
use Rattle.line_posts.proofs.replays.all_replays.Goals as goal

pub count_messages-requires : goal.count_messages-requires
count_messages-requires c = counted_none c.args.gathered.now.processes c.n-n.result
    (counts_of c.in_ok-counts.counts.items) c.in_ok-sums.sums.items c.n-n.ensures.value
    c.in_ok-counts.ensures (c.in_ok-sums.ensures.items_if_clones_equal (λ y same. same))

pub index-requires : goal.index-requires
index-requires c =
    let l = length_restarted c.args.gathered.now.processes c.args.plan.now.line c.requires.count in
    let k = c.requires.journals.1.count in
    let o = c.args.journals.now.ok.0 in
    let n = c.n-n.ensures.value in
    let t = c.loop-p-test.true in
    omega (arith, l, k, o, n, t)

-- the row of a sender
row_of : {V : Type 0} (f : V → List ℕ) (rows : List V) (n p : ℕ) (v : V) → p < n
    → length (map f rows) ≡ n → v ≡ get_or rows p v → row_at (map f rows) p ≡ f v
row_of f rows n p v lt long at =
    (let l = length-map rows f in row_seen f rows p v (omega (arith, lt, long, l)) ∙ ap f (sym at))

-- the tapes of a history that goes on name its processes
named_on : (history : List Process) (line : List Choice) (p m : ℕ) (tape : List Event)
    → IsHistory history → length line ≡ length history → p < length history → m ≡ length history
    → tape ≡ tape_at (restarted_history history line) p → All (NamesBelow m) tape
named_on history line p m tape is count lt em et =
    let next : IsHistory (restarted_history history line) = subst IsHistory (sym (restarted-each
    history line)) (IsHistory-restarted history line (omega (arith, count)) is) in
    let l = length_restarted history line count in
    let all = (next.processes p fresh (omega (arith, lt, l))).named in
    subst (λ k. All (NamesBelow k) tape) (l ∙ sym em)
    (subst (All (NamesBelow (length (restarted_history history line)))) (sym et) all)

-- how many messages a link holds
held_count : (history : List Process) (line : List Choice) (messages : List MsgName) (p q w : ℕ)
    → messages ≡ in_transit history line
    → items_of_parcels p (parcels_left (restarted_history history line) p q)
    ≡ map (λ m. item_message m) (in_transit_between history line p q)
    → w ≡ length (filter (goes_between history p q) messages)
    → w ≡ length (parcels_left (restarted_history history line) p q)
held_count history line messages p q w em links ew =
    let ms = in_transit_between history line p q in
    let left = parcels_left (restarted_history history line) p q in
    ew ∙ (ap (λ t. length (filter (goes_between history p q) t)) em ∙
    (ap length (parts history line history (open_are history line) p q)
    ∙ (sym (length-map ms (λ m. item_message m)) ∙
    (sym (ap length links) ∙ length-map left (item_of p)))))

pub add_sent-requires-clause-from : goal.add_sent-requires-clause-from
add_sent-requires-clause-from c =
    let i = c.loop-p.invariant in
    let lt : c.loop-p.p < c.n-n.result = omega (arith, c.loop-p-test.true) in
    let row = row_of (λ v. v.items) c.loop-p.counts.items c.n-n.result c.loop-p.p
    c.index_mut-row.result.now lt i.count c.index_mut-row.ensures.value in
    let long = ap length row in
    let r = i.rows c.loop-p.p (omega arith) lt in
    omega (arith, long, r, lt)

pub add_sent-requires-clause-named : goal.add_sent-requires-clause-named
add_sent-requires-clause-named c =
    let i = c.loop-p.invariant in
    let lt : c.loop-p.p < c.n-n.result = omega (arith, c.loop-p-test.true) in
    let row = row_of (λ v. v.items) c.loop-p.counts.items c.n-n.result c.loop-p.p
    c.index_mut-row.result.now lt i.count c.index_mut-row.ensures.value in
    let long = ap length row in
    let r = i.rows c.loop-p.p (omega arith) lt in
    let n = c.n-n.ensures.value in
    let J = c.args.journals.now in
    let l = length_restarted c.args.gathered.now.processes c.args.plan.now.line c.requires.count in
    let k = c.requires.journals.1.count in
    let at = there J.items J.items c.loop-p.p c.index.result.now refl
    (omega (arith, lt, n, l, k)) c.index.ensures in
    let tape = c.tape-tape.ensures ∙
    (c.requires.journals.1.each c.loop-p.p c.index.result.now at).tape_is in
    named_on c.args.gathered.now.processes c.args.plan.now.line c.loop-p.p
    (length c.index_mut-row.result.now.items) c.tape-tape.result.now.events c.n-n.ensures.limits
    c.requires.count (omega (arith, lt, n)) (omega (arith, long, r, n)) tape

pub add_sent-requires-clause-plain : goal.add_sent-requires-clause-plain
add_sent-requires-clause-plain c =
    let lt : c.loop-p.p < c.n-n.result = omega (arith, c.loop-p-test.true) in
    let n = c.n-n.ensures.value in
    let J = c.args.journals.now in
    let l = length_restarted c.args.gathered.now.processes c.args.plan.now.line c.requires.count in
    let k = c.requires.journals.1.count in
    let at = there J.items J.items c.loop-p.p c.index.result.now refl
    (omega (arith, lt, n, l, k)) c.index.ensures in
    let tape = c.tape-tape.ensures ∙
    (c.requires.journals.1.each c.loop-p.p c.index.result.now at).tape_is in
    ap rounds_checked tape ∙ c.requires.plain c.loop-p.p

pub add_sent-requires-clause-sum : goal.add_sent-requires-clause-sum
add_sent-requires-clause-sum c =
    let i = c.loop-p.invariant in
    let lt : c.loop-p.p < c.n-n.result = omega (arith, c.loop-p-test.true) in
    let row = row_of (λ v. v.items) c.loop-p.counts.items c.n-n.result c.loop-p.p
    c.index_mut-row.result.now lt i.count c.index_mut-row.ensures.value in
    let s = i.sum_count in
    c.index-in-loop-p.ensures ∙
    (other_default c.count_messages.new.sums.items c.loop-p.p c.index-in-loop-p.result.now 0
    (omega (arith, s, lt)) ∙ (i.sum c.loop-p.p (omega arith) lt ∙ ap total row))

pub add_sent-requires-clause-packets : goal.add_sent-requires-clause-packets
add_sent-requires-clause-packets c =
    let i = c.loop-p.invariant in
    let lt : c.loop-p.p < c.n-n.result = omega (arith, c.loop-p-test.true) in
    let row = row_of (λ v. v.items) c.loop-p.counts.items c.n-n.result c.loop-p.p
    c.index_mut-row.result.now lt i.count c.index_mut-row.ensures.value in
    subst (λ m. AreSquare m (packets_of c.loop-p.packets.items))
    (sym (i.rows c.loop-p.p (omega arith) lt) ∙ ap length row) i.square

pub loop-p-preserved : goal.loop-p-preserved
loop-p-preserved c =
    let i = c.loop-p.invariant in
    let H = c.args.gathered.now.processes in
    let L = c.args.plan.now.line in
    let M = c.args.plan.now.replays.items in
    let V = c.index_mut-row.result.now in
    let lt : c.loop-p.p < c.n-n.result = omega (arith, c.loop-p-test.true) in
    let row = row_of (λ v. v.items) c.loop-p.counts.items c.n-n.result c.loop-p.p V lt i.count
    c.index_mut-row.ensures.value in
    let long : length V.items
    ≡ c.n-n.result = sym (ap length row) ∙ i.rows c.loop-p.p (omega arith) lt in
    let n = c.n-n.ensures.value in
    let J = c.args.journals.now in
    let l = length_restarted H L c.requires.count in
    let k = c.requires.journals.1.count in
    let at = there J.items J.items c.loop-p.p c.index.result.now refl
    (omega (arith, lt, n, l, k)) c.index.ensures in
    let tape = c.tape-tape.ensures ∙
    (c.requires.journals.1.each c.loop-p.p c.index.result.now at).tape_is in
    let e = c.in_ok-add_sent.ensures in
    left_step H (restarted_history H L) M c.n-n.result c.loop-p.p (counts_of c.loop-p.counts.items)
    (counts_of (set c.loop-p.counts.items c.loop-p.p c.add_sent.new.counts))
    c.add_sent.new.counts.items c.count_messages.new.sums.items
    (packets_of c.loop-p.packets.items) (packets_of c.add_sent.new.packets.items) lt i
    (map-set (λ v. v.items) c.loop-p.counts.items c.loop-p.p c.add_sent.new.counts)
    (subst (λ m. AreOfSender m c.loop-p.p (packets_of c.loop-p.packets.items)
    (packets_of c.add_sent.new.packets.items)) long e.sender)
    (λ q lq.
    (let w = sym (ap (λ t. get_or t q 0) row) ∙ i.each c.loop-p.p q (omega arith) lt lq in
    e.sent q (omega (arith, lq, long)) ∙ left_last (restarted_history H L) c.loop-p.p q
    (get_or V.items q 0) c.tape-tape.result.now.events tape (held_count H L M c.loop-p.p q
    (get_or V.items q 0) c.requires.transit (c.requires.links c.loop-p.p q) w)))

pub returns : goal.returns
returns c =
    let n = c.n-n.ensures.value in
    let l = length_restarted c.args.gathered.now.processes c.args.plan.now.line c.requires.count in
    let f = c.loop-p-test.false in
    left_all c.args.gathered.now.processes
    (restarted_history c.args.gathered.now.processes c.args.plan.now.line)
    c.args.plan.now.replays.items c.n-n.result c.loop-p.p (counts_of c.loop-p.counts.items)
    c.count_messages.new.sums.items (packets_of c.loop-p.packets.items)
    (omega (arith, n, l)) (omega (arith, f)) c.loop-p.invariant
