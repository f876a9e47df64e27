-- One log more has room.
use Rattle.std.proofs.Common.{◌≡◌, ◌-◌, ◌<◌, ◌≤◌, List, ℕ, length, get_or, set, ap, ◌∙◌, arith}
use Rattle.std.specs.Prelude.{vec_len, vec_capacity}
use Rattle.std.proofs.lemmas.List.{length-set}
use Rattle.line_rounds.specs.Spans.{SenderLogView, least_room}
use Rattle.line_rounds.proofs.LogLemmas.{names-same, room_of-at, room_of-set, room_of-all}
use Rattle.line_rounds.proofs.LogLemmas.{rooms-more}
use Rattle.line_rounds.proofs.logs.Logs.reserve.Goals as goal

pub loop-i-preserved : goal.loop-i-preserved
loop-i-preserved c =
    let items : List SenderLogView = c.loop-i.self-inside.logs.items in
    let i : ℕ = c.loop-i.i in
    let old : SenderLogView = c.index_mut-log.result.now in
    let new : SenderLogView = record {
      names = c.reserve.new.self.items;
      room = vec_capacity
          c.reserve.new.self - vec_len c.reserve.new.self;
    } in
    let within : i < length items = omega (arith, c.loop-i-test.true, c.loop-i.invariant.3) in
    let names : new.names ≡ old.names = c.in_ok-reserve.ensures.items ∙ ap
    (λ (log : SenderLogView). log.names) c.log.view_is in
    let kept : vec_capacity c.log.inside.names - vec_len c.log.inside.names
    ≡ old.room = ap (λ (log : SenderLogView). log.room) c.log.view_is in
    let room : 0 < new.room = omega (arith, c.in_ok-reserve.ensures.ok) in
    let more : old.room ≤ new.room = omega
    (arith, c.in_ok-reserve.ensures.capacity, c.in_ok-reserve.ensures.len) in
    let grown : least_room items ≤ least_room
    (set items i new) = room_of-set items i old new c.index_mut-log.ensures.value more in (
      names-same items i old new within c.index_mut-log.ensures.value names ∙ c.loop-i.invariant.0,
      omega (arith, grown, c.loop-i.invariant.1),
      rooms-more items i new within room c.loop-i.invariant.2,
      length-set items i new ∙ c.loop-i.invariant.3,
    )

pub returns-in_err-reserve-clause-succeeds : goal.returns-in_err-reserve-clause-succeeds
returns-in_err-reserve-clause-succeeds c = λ h.
    let items : List SenderLogView = c.loop-i.self-inside.logs.items in
    let i : ℕ = c.loop-i.i in
    let old : SenderLogView = c.index_mut-log.result.now in
    let seen : least_room c.self.inside.logs.items ≡ least_room c.args.self.now = ap
    (λ (xs : List SenderLogView). least_room xs) c.self.view_is in
    let within : i < length items = omega (arith, c.loop-i-test.true, c.loop-i.invariant.3) in
    let read : old.room ≡ (get_or items i old).room = ap
    (λ (log : SenderLogView). log.room) c.index_mut-log.ensures.value in
    let least : least_room items ≤ (get_or items i old).room = room_of-at items i old within in
    let kept : vec_capacity c.log.inside.names - vec_len c.log.inside.names
    ≡ old.room = ap (λ (log : SenderLogView). log.room) c.log.view_is in
    absurd (omega (arith, c.in_err-reserve.ensures.full, c.loop-i.invariant.1))

pub returns-clause-ok : goal.returns-clause-ok
returns-clause-ok c =
    let items : List SenderLogView = c.loop-i.self-inside.logs.items in
    room_of-all items (λ k d h. c.loop-i.invariant.2 k d
    (omega (arith, c.loop-i-test.false, c.loop-i.invariant.3)))
