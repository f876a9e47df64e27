-- The messages from each process, and the room for more, as one log changes.
use Rattle.std.proofs.Common.{◌≡◌, ℕ, zero, suc, ◌+◌, ◌<◌, ◌≤◌, List, [], ◌∷◌, ◌++◌, length, get_or}
use Rattle.std.proofs.Common.{set, sym, ap, ◌∙◌, arith}
use Rattle.std.proofs.lemmas.List.{get_or-map, map-set, set-get_or}
use Rattle.line_names.specs.declared.messages.MsgName.{MsgName}
use Rattle.line_rounds.specs.Spans.{SenderLogView, names_of, least_room}

-- what a log has is read among the names of all
pub names-at : (logs : List SenderLogView) (i : ℕ) (d : SenderLogView) → i < length logs
    → get_or (names_of logs) i [] ≡ (get_or logs i d).names
names-at logs i d h = get_or-map (λ (log : SenderLogView). log.names) logs i d [] h

-- one log changes
pub names-set : (logs : List SenderLogView) (i : ℕ) (new : SenderLogView)
    → names_of (set logs i new) ≡ set (names_of logs) i new.names
names-set logs i new = map-set (λ (log : SenderLogView). log.names) logs i new

-- a log with the same messages
pub names-same : (logs : List SenderLogView) (i : ℕ) (old new : SenderLogView) → i < length logs
    → old ≡ get_or logs i old → new.names ≡ old.names → names_of (set logs i new) ≡ names_of logs
names-same logs i old new h at same =
    names-set logs i new
    ∙ ap (λ (xs : List MsgName). set (names_of logs) i xs)
    (same ∙ ap (λ (log : SenderLogView). log.names) at ∙ sym (names-at logs i old h))
    ∙ set-get_or (names_of logs) i []

-- a log with a message more
pub names-pushed : (logs : List SenderLogView) (i : ℕ) (old new : SenderLogView) (message : MsgName)
    → i < length logs → old ≡ get_or logs i old → new.names ≡ old.names ++ message ∷ []
    → names_of (set logs i new)
    ≡ set (names_of logs) i (get_or (names_of logs) i [] ++ message ∷ [])
names-pushed logs i old new message h at more =
    names-set logs i new
    ∙ ap (λ (xs : List MsgName). set (names_of logs) i xs) (more ∙ ap (λ (xs : List MsgName). xs
    ++ message ∷ []) (ap (λ (log : SenderLogView). log.names) at ∙ sym (names-at logs i old h)))

-- each log has the room that all have
pub room_of-at : (logs : List SenderLogView) (i : ℕ) (d : SenderLogView) → i < length logs
    → least_room logs ≤ (get_or logs i d).room
room_of-at [] i d h = omega arith
room_of-at (log ∷ logs) zero d h = omega arith
room_of-at (log ∷ logs) (suc i) d h = let rest : least_room logs ≤
    (get_or logs i d).room = room_of-at logs i d (omega arith) in omega arith

-- one log has more room
pub room_of-set : (logs : List SenderLogView) (i : ℕ) (old new : SenderLogView)
    → old ≡ get_or logs i old → old.room ≤ new.room → least_room logs ≤ least_room (set logs i new)
room_of-set [] i old new at more = omega arith
room_of-set (log ∷ logs) zero old new at more =
    let same : old.room ≡ log.room = ap (λ (x : SenderLogView). x.room) at in omega arith
room_of-set (log ∷ logs) (suc i) old new at more = let rest : least_room logs ≤ least_room
    (set logs i new) = room_of-set logs i old new at more in omega arith

-- where each log has room, all have
pub room_of-all : (logs : List SenderLogView) → ((k : ℕ) (d : SenderLogView) → k < length logs
    → 0 < (get_or logs k d).room) → 0 < least_room logs
room_of-all [] each = omega arith
room_of-all (log ∷ logs) each =
    let here : 0 < log.room = each 0 log (omega arith) in
    let rest : 0 < least_room logs = room_of-all logs (λ k d h. each (suc k) d (omega arith)) in
    omega arith

-- the logs that have room, one more at a time
pub rooms-more : (logs : List SenderLogView) (i : ℕ) (new : SenderLogView) → i < length logs
    → 0 < new.room → ((k : ℕ) (d : SenderLogView) → k < i → 0 < (get_or logs k d).room)
    → (k : ℕ) (d : SenderLogView) → k < i + 1 → 0 < (get_or (set logs i new) k d).room
rooms-more [] i new within here each k d h = absurd (omega arith)
rooms-more (log ∷ logs) zero new within here each zero d h = here
rooms-more (log ∷ logs) zero new within here each (suc k) d h = absurd (omega arith)
rooms-more (log ∷ logs) (suc i) new within here each zero d h = each zero d (omega arith)
rooms-more (log ∷ logs) (suc i) new within here each (suc k) d h = rooms-more logs i new
    (omega arith) here (λ j e l. each (suc j) e (omega arith)) k d (omega arith)
