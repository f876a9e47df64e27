use Rattle.std.proofs.Common.{rules, true, false, ◌∙◌, refl, sym, ap, subst, arith}
use Rattle.std.specs.Prelude.{length, ◌≡◌, []}
use Rattle.line_tape.specs.Rounds.{has_check_of}
use Rattle.line_posts.specs.Ends.{known_at, HasFilled}
use Rattle.line_posts.proofs.EndLemmas.{rows_known}
use Rattle.line_posts.specs.declared.parcels.Parcel.TheVariants.{Message, Marker}
use Rattle.line_posts.proofs.ReceiveLemmas.{sees_more}
use Rattle.line_posts.proofs.LookLemmas.{full_marker, full_message, lack_marker, lack_message}
use Rattle.line_posts.proofs.LookLemmas.{ring_marker, sees_popped}
use Rattle.line_posts.proofs.receiving.take_next.Goals as goal

pub returns-then-not-look_at-clause-why : goal.returns-then-not-look_at-clause-why
returns-then-not-look_at-clause-why c =
    let V = c.look_at.new.ins in
    λ post tape_is outs_is may bare. (
      may,
      bare,
      rows_known V.items c.args.from ∙ subst (λ x. known_at V.items x ≡ [])
          c.get-p.ensures.value (c.look_at.ensures.none c.if-not-look_at.true),
    )

pub returns-then-len-ge-MOST_EVENTS-clause-why : goal.returns-then-len-ge-MOST_EVENTS-clause-why
returns-then-len-ge-MOST_EVENTS-clause-why c =
    let V = c.look_at.new.ins in
    let bound = c.if-len-ge-MOST_EVENTS.true in
    let len = c.len.ensures.value in
    λ post tape_is outs_is may bare.
    (let tape = ap length tape_is in full_message V V refl post c.get-p.result c.args.from
    c.args.state c.get-p.ensures.value may bare (search rules)
    (omega (arith, bound, len, tape)))

pub returns-then-is_err-clause-why : goal.returns-then-is_err-clause-why
returns-then-is_err-clause-why c =
    let V = c.look_at.new.ins in
    let bound = c.if-len-ge-MOST_EVENTS.false in
    let len = c.len.ensures.value in
    λ post tape_is outs_is may bare.
    (let tape = ap length tape_is in lack_message V V refl post c.get-p.result c.args.from
    c.args.state c.get-p.ensures.value may bare (search rules)
    (omega (arith, bound, len, tape)))

pub returns-then-len-ge-MOST_EVENTS-2-clause-why : goal.returns-then-len-ge-MOST_EVENTS-2-clause-why
returns-then-len-ge-MOST_EVENTS-2-clause-why c =
    let V = c.look_at.new.ins in
    let bound = c.if-len-ge-MOST_EVENTS-2.true in
    let len = c.len-then-is_checked.ensures.value in
    λ post tape_is outs_is may bare.
    (let tape = ap length tape_is in full_marker V V refl post c.get-p.result c.args.from
    c.args.state c.get-p.ensures.value may bare c.in-Some.round true (search rules)
    (ap (has_check_of c.in-Some.round) tape_is ∙
    (sym c.is_checked.ensures ∙ c.if-is_checked.true)) (omega (arith, bound, len, tape)))

pub returns-then-is_err-2-clause-why : goal.returns-then-is_err-2-clause-why
returns-then-is_err-2-clause-why c =
    let V = c.look_at.new.ins in
    let bound = c.if-len-ge-MOST_EVENTS-2.false in
    let len = c.len-then-is_checked.ensures.value in
    λ post tape_is outs_is may bare.
    (let tape = ap length tape_is in lack_marker V V refl post c.get-p.result c.args.from
    c.args.state c.get-p.ensures.value may bare c.in-Some.round true (search rules)
    (ap (has_check_of c.in-Some.round) tape_is ∙
    (sym c.is_checked.ensures ∙ c.if-is_checked.true)) (omega (arith, bound, len, tape)))

pub returns-then-len-ge-MOST_EVENTS-3-clause-why : goal.returns-then-len-ge-MOST_EVENTS-3-clause-why
returns-then-len-ge-MOST_EVENTS-3-clause-why c =
    let V = c.look_at.new.ins in
    let bound = c.if-len-ge-MOST_EVENTS-3.true in
    let len = c.len-2.ensures.value in
    λ post tape_is outs_is may bare.
    (let tape = ap length tape_is in full_marker V V refl post c.get-p.result c.args.from
    c.args.state c.get-p.ensures.value may bare c.in-Some.round false (search rules)
    (ap (has_check_of c.in-Some.round) tape_is ∙
    (sym c.is_checked.ensures ∙ c.if-is_checked.false)) (omega (arith, bound, len, tape)))

pub returns-then-not-has_room-clause-why : goal.returns-then-not-has_room-clause-why
returns-then-not-has_room-clause-why c =
    let V = c.look_at.new.ins in
    let bound = c.if-len-ge-MOST_EVENTS-3.false in
    let len = c.len-2.ensures.value in
    λ post tape_is outs_is may bare.
    (let tape = ap length tape_is in ring_marker V V refl post c.get-p.result c.args.from
    c.args.state c.get-p.ensures.value may bare c.in-Some.round (search rules)
    (ap (has_check_of c.in-Some.round) tape_is ∙
    (sym c.is_checked.ensures ∙ c.if-is_checked.false)) (omega (arith, bound, len, tape))
    (subst HasFilled (sym outs_is) (c.has_room.ensures.filled c.if-not-has_room.true)))

pub returns-then-is_err-3-clause-why : goal.returns-then-is_err-3-clause-why
returns-then-is_err-3-clause-why c =
    let V = c.look_at.new.ins in
    let bound = c.if-len-ge-MOST_EVENTS-3.false in
    let len = c.len-2.ensures.value in
    λ post tape_is outs_is may bare.
    (let tape = ap length tape_is in lack_marker V V refl post c.get-p.result c.args.from
    c.args.state c.get-p.ensures.value may bare c.in-Some.round false (search rules)
    (ap (has_check_of c.in-Some.round) tape_is ∙
    (sym c.is_checked.ensures ∙ c.if-is_checked.false)) (omega (arith, bound, len, tape)))

pub returns-then-not-look_at-clause-seen : goal.returns-then-not-look_at-clause-seen
returns-then-not-look_at-clause-seen c =
    let l = c.look_at.ensures in
    λ rows know. sees_more rows c.args.ins.now.items c.look_at.new.ins.items c.get-p.result know
    l.seen l.others l.ends

pub returns-then-len-ge-MOST_EVENTS-clause-seen : goal.returns-then-len-ge-MOST_EVENTS-clause-seen
returns-then-len-ge-MOST_EVENTS-clause-seen c =
    let l = c.look_at.ensures in
    λ rows know. sees_more rows c.args.ins.now.items c.look_at.new.ins.items c.get-p.result know
    l.seen l.others l.ends

pub returns-then-is_err-clause-seen : goal.returns-then-is_err-clause-seen
returns-then-is_err-clause-seen c =
    let l = c.look_at.ensures in
    λ rows know. sees_more rows c.args.ins.now.items c.look_at.new.ins.items c.get-p.result know
    l.seen l.others l.ends

pub returns-then-len-ge-MOST_EVENTS-2-clause-seen :
    goal.returns-then-len-ge-MOST_EVENTS-2-clause-seen
returns-then-len-ge-MOST_EVENTS-2-clause-seen c =
    let l = c.look_at.ensures in
    λ rows know. sees_more rows c.args.ins.now.items c.look_at.new.ins.items c.get-p.result know
    l.seen l.others l.ends

pub returns-then-is_err-2-clause-seen : goal.returns-then-is_err-2-clause-seen
returns-then-is_err-2-clause-seen c =
    let l = c.look_at.ensures in
    λ rows know. sees_more rows c.args.ins.now.items c.look_at.new.ins.items c.get-p.result know
    l.seen l.others l.ends

pub returns-then-len-ge-MOST_EVENTS-3-clause-seen :
    goal.returns-then-len-ge-MOST_EVENTS-3-clause-seen
returns-then-len-ge-MOST_EVENTS-3-clause-seen c =
    let l = c.look_at.ensures in
    λ rows know. sees_more rows c.args.ins.now.items c.look_at.new.ins.items c.get-p.result know
    l.seen l.others l.ends

pub returns-then-not-has_room-clause-seen : goal.returns-then-not-has_room-clause-seen
returns-then-not-has_room-clause-seen c =
    let l = c.look_at.ensures in
    λ rows know. sees_more rows c.args.ins.now.items c.look_at.new.ins.items c.get-p.result know
    l.seen l.others l.ends

pub returns-then-is_err-3-clause-seen : goal.returns-then-is_err-3-clause-seen
returns-then-is_err-3-clause-seen c =
    let l = c.look_at.ensures in
    λ rows know. sees_more rows c.args.ins.now.items c.look_at.new.ins.items c.get-p.result know
    l.seen l.others l.ends

pub returns-in_default-clause-seen : goal.returns-in_default-clause-seen
returns-in_default-clause-seen c =
    let l = c.look_at.ensures in
    let N = c.take_packet-packet.new.ins in
    let t = c.take_packet-packet.ensures in
    let within = c.requires.within in
    let p = c.get-p.ensures.value in
    λ rows know. sees_popped N N refl rows c.args.ins.now.items c.look_at.new.ins.items
    c.get-p.result (Message c.take_packet-packet.result) know
    (omega (arith, within, p)) l.seen l.others t.first t.others t.ends l.ends

pub returns-then-is_checked-clause-seen : goal.returns-then-is_checked-clause-seen
returns-then-is_checked-clause-seen c =
    let l = c.look_at.ensures in
    let N = c.take_known_marker.new.ins in
    let t = c.take_known_marker.ensures in
    let within = c.requires.within in
    let p = c.get-p.ensures.value in
    λ rows know. sees_popped N N refl rows c.args.ins.now.items c.look_at.new.ins.items
    c.get-p.result (Marker c.in-Some.round) know
    (omega (arith, within, p)) l.seen l.others t.first t.others t.ends l.ends

pub returns-clause-seen : goal.returns-clause-seen
returns-clause-seen c =
    let l = c.look_at.ensures in
    let N = c.take_known_marker-2.new.ins in
    let t = c.take_known_marker-2.ensures in
    let within = c.requires.within in
    let p = c.get-p.ensures.value in
    λ rows know. sees_popped N N refl rows c.args.ins.now.items c.look_at.new.ins.items
    c.get-p.result (Marker c.in-Some.round) know
    (omega (arith, within, p)) l.seen l.others t.first t.others t.ends l.ends
