-- One log takes the message, or stays as it is.
use Rattle.std.proofs.Common.{◌≡◌, ◌-◌, ◌<◌, ◌≤◌, ◌++◌, ◌∷◌, [], List, ℕ, length, get_or, set, ap}
use Rattle.std.proofs.Common.{◌∙◌, arith}
use Rattle.std.specs.Prelude.{OnErr, Result, Ok, Err, vec_len, vec_capacity}
use Rattle.line_rounds.specs.Spans.{SenderLogView, names_of, least_room}
use Rattle.line_rounds.proofs.LogLemmas.{names-same, names-pushed, room_of-at}
use Rattle.line_rounds.proofs.logs.Logs.push.Goals as goal

on_err : {T E P : Type 0} (r : Result T E) → P → OnErr r P
on_err (Ok x) p = tt
on_err (Err e) p = p

pub returns-in_err-push-clause-err : goal.returns-in_err-push-clause-err
returns-in_err-push-clause-err c =
    let items : List SenderLogView = c.self.inside.logs.items in
    let seen : items ≡ c.args.self.now = c.self.view_is in
    let at : c.get.result ≡ c.args.message.from = c.get.ensures.value in
    let within : c.get.result < length items = omega
    (arith, c.requires, ap (λ (xs : List SenderLogView). length xs) seen) in
    let old : SenderLogView = c.index_mut-log.result.now in
    let new : SenderLogView = record {
      names = c.push.new.self.items;
      room = vec_capacity
          c.push.new.self - vec_len c.push.new.self;
    } in
    let same : new.names ≡ old.names = c.in_err-push.ensures.items ∙ ap
    (λ (log : SenderLogView). log.names) c.log.view_is in
    on_err c.from_residual.result (names-same items c.get.result old new within
    c.index_mut-log.ensures.value same ∙ ap (λ (xs : List SenderLogView). names_of xs) seen)

pub returns-in_err-push-clause-room : goal.returns-in_err-push-clause-room
returns-in_err-push-clause-room c = λ h.
    let items : List SenderLogView = c.self.inside.logs.items in
    let seen : items ≡ c.args.self.now = c.self.view_is in
    let at : c.get.result ≡ c.args.message.from = c.get.ensures.value in
    let within : c.get.result < length items = omega
    (arith, c.requires, ap (λ (xs : List SenderLogView). length xs) seen) in
    let old : SenderLogView = c.index_mut-log.result.now in
    let read : old.room ≡ (get_or items c.get.result old).room = ap
    (λ (log : SenderLogView). log.room) c.index_mut-log.ensures.value in
    let least : least_room items ≤
    (get_or items c.get.result old).room = room_of-at items c.get.result old within in
    let all : least_room items
    ≡ least_room c.args.self.now = ap (λ (xs : List SenderLogView). least_room xs) seen in
    let kept : vec_capacity c.log.inside.names - vec_len c.log.inside.names
    ≡ old.room = ap (λ (log : SenderLogView). log.room) c.log.view_is in
    absurd (omega (arith, c.in_err-push.ensures.full))

pub returns-clause-ok : goal.returns-clause-ok
returns-clause-ok c =
    let items : List SenderLogView = c.self.inside.logs.items in
    let seen : items ≡ c.args.self.now = c.self.view_is in
    let at : c.get.result ≡ c.args.message.from = c.get.ensures.value in
    let within : c.get.result < length items = omega
    (arith, c.requires, ap (λ (xs : List SenderLogView). length xs) seen) in
    let old : SenderLogView = c.index_mut-log.result.now in
    let new : SenderLogView = record {
      names = c.push.new.self.items;
      room = vec_capacity
          c.push.new.self - vec_len c.push.new.self;
    } in
    let more : new.names ≡ old.names ++ c.args.message ∷ [] = c.in_ok-push.ensures.items ∙ ap
    (λ (log : SenderLogView). log.names ++ c.args.message ∷ []) c.log.view_is in
    names-pushed items c.get.result old new c.args.message within c.index_mut-log.ensures.value more
    ∙ ap (λ (k : ℕ). set (names_of items) k (get_or (names_of items) k [] ++ c.args.message ∷ []))
    at
    ∙ ap (λ (xs : List SenderLogView). set (names_of xs) c.args.message.from
    (get_or (names_of xs) c.args.message.from [] ++ c.args.message ∷ [])) seen
