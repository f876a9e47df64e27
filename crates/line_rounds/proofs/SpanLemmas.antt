-- The channels of one round, as messages and markers come.
use Rattle.std.proofs.Common.{◌≡◌, ℕ, zero, suc, ◌-◌, ◌<◌, ◌≤◌, true, false, List, [], ◌∷◌, ◌++◌}
use Rattle.std.proofs.Common.{length, map, take, drop, replicate, get_or, set, sym, ap, ◌∙◌, refl}
use Rattle.std.proofs.Common.{subst, arith}
use Rattle.std.proofs.lemmas.List.{take-append-le, drop-append-le, drop_all, take_rest, length-drop}
use Rattle.std.proofs.lemmas.List.{length_push}
use Rattle.line_names.specs.declared.messages.MsgName.{MsgName}
use Rattle.line_rounds.specs.declared.spans.Span.{Span}
use Rattle.line_rounds.specs.declared.spans.Span.TheVariants.{Open, Closed}
use Rattle.line_rounds.specs.Recording.{Channel, open_channel, with_message}
use Rattle.line_rounds.specs.Spans.{open_span, closed_span, channel_in_span, channels_in_spans}
use Rattle.line_rounds.specs.Spans.{IsWithin, AreWithin}

-- a message more from the sender: an open channel has it, a closed one stays
channel_of-push : (names : List MsgName) (message : MsgName) (span : Span) → IsWithin names span →
    channel_in_span (names ++ message ∷ []) span ≡ with_message (channel_in_span names span) message
channel_of-push names message (Open start) h =
    ap (λ (xs : List MsgName). let c : Channel = record { messages = xs; is_closed = false } in c)
    (drop-append-le start names (message ∷ []) h)
channel_of-push names message (Closed start end) h =
    let room : end - start ≤ length (drop start names) = omega (arith, length-drop start names) in
    ap (λ (xs : List MsgName). let c : Channel = record { messages = xs; is_closed = true } in c)
    (ap (take (end - start)) (drop-append-le start names (message ∷ []) (omega arith)) ∙
    take-append-le (end - start) (drop start names) (message ∷ []) room)

IsWithin-push : (names : List MsgName) (message : MsgName) (span : Span) → IsWithin names span
    → IsWithin (names ++ message ∷ []) span
IsWithin-push names message (Open start) h = omega (arith, length_push names message)
IsWithin-push names message (Closed start end) h = (h.0, omega (arith, length_push names message))

pub channels_of-push : (logs : List (List MsgName)) (spans : List Span) (p : ℕ) (message : MsgName)
    → AreWithin logs spans → p < length logs
    → channels_in_spans (set logs p (get_or logs p [] ++ message ∷ [])) spans
    ≡ set (channels_in_spans logs spans) p
    (with_message (get_or (channels_in_spans logs spans) p open_channel) message)
channels_of-push [] spans p message h below = absurd (omega arith)
channels_of-push (names ∷ logs) [] p message h below = absurd h
channels_of-push (names ∷ logs) (span ∷ spans) zero message h below =
    ap (λ (c : Channel). c ∷ channels_in_spans logs spans) (channel_of-push names message span h.0)
channels_of-push (names ∷ logs) (span ∷ spans) (suc p) message h below = ap (λ (cs : List Channel).
    channel_in_span names span ∷ cs) (channels_of-push logs spans p message h.1 (omega arith))

pub AreWithin-push : (logs : List (List MsgName)) (spans : List Span) (p : ℕ) (message : MsgName)
    → AreWithin logs spans → AreWithin (set logs p (get_or logs p [] ++ message ∷ [])) spans
AreWithin-push [] [] p message h = tt
AreWithin-push [] (span ∷ spans) p message h = absurd h
AreWithin-push (names ∷ logs) [] p message h = absurd h
AreWithin-push (names ∷ logs) (span ∷ spans) zero message h =
    (IsWithin-push names message span h.0, h.1)
AreWithin-push (names ∷ logs) (span ∷ spans) (suc p) message h =
    (h.0, AreWithin-push logs spans p message h.1)

-- channels that begin now are open and empty
pub channels_of-opened : (logs : List (List MsgName))
    → channels_in_spans logs (map open_span logs) ≡ replicate (length logs) open_channel
channels_of-opened [] = refl
channels_of-opened (names ∷ logs) =
    ap (λ (xs : List MsgName). let c : Channel = record { messages = xs; is_closed = false } in c
    ∷ channels_in_spans logs (map open_span logs)) (drop_all (length names) names (omega arith))
    ∙ ap (λ (cs : List Channel). open_channel ∷ cs) (channels_of-opened logs)

pub AreWithin-opened : (logs : List (List MsgName)) → AreWithin logs (map open_span logs)
AreWithin-opened [] = tt
AreWithin-opened (names ∷ logs) = (omega arith, AreWithin-opened logs)

-- a marker closes a channel, which keeps its messages
channel_of-closed : (names : List MsgName) (span : Span) → channel_in_span names
    (closed_span (length names) span) ≡ record (channel_in_span names span) { is_closed = true }
channel_of-closed names (Open start) = ap (λ (xs : List MsgName). let c : Channel = record
    { messages = xs; is_closed = true } in c) (take_rest names start)
channel_of-closed names (Closed start end) = refl

IsWithin-closed : (names : List MsgName) (span : Span) → IsWithin names span
    → IsWithin names (closed_span (length names) span)
IsWithin-closed names (Open start) h = (h, omega arith)
IsWithin-closed names (Closed start end) h = h

pub channels_of-closed : (logs : List (List MsgName)) (spans : List Span) (p : ℕ) (span : Span)
    → AreWithin logs spans → p < length logs → span ≡ get_or spans p span
    → channels_in_spans logs (set spans p (closed_span (length (get_or logs p [])) span))
    ≡ set (channels_in_spans logs spans) p
    (record (get_or (channels_in_spans logs spans) p open_channel) { is_closed = true })
channels_of-closed [] spans p span h below at = absurd (omega arith)
channels_of-closed (names ∷ logs) [] p span h below at = absurd h
channels_of-closed (names ∷ logs) (x ∷ spans) zero span h below at =
    ap (λ (s : Span). channel_in_span names (closed_span (length names) s)
    ∷ channels_in_spans logs spans) at ∙ ap (λ (c : Channel). c ∷ channels_in_spans logs spans)
    (channel_of-closed names x)
channels_of-closed (names ∷ logs) (x ∷ spans) (suc p) span h below at = ap (λ (cs : List Channel).
    channel_in_span names x ∷ cs) (channels_of-closed logs spans p span h.1 (omega arith) at)

pub AreWithin-closed : (logs : List (List MsgName)) (spans : List Span) (p : ℕ) (span : Span)
    → AreWithin logs spans → p < length logs → span ≡ get_or spans p span
    → AreWithin logs (set spans p (closed_span (length (get_or logs p [])) span))
AreWithin-closed [] spans p span h below at = absurd (omega arith)
AreWithin-closed (names ∷ logs) [] p span h below at = absurd h
AreWithin-closed (names ∷ logs) (x ∷ spans) zero span h below at = (
  subst (λ (s : Span). IsWithin
      names (closed_span (length names) s)) (sym at) (IsWithin-closed names x h.0),
  h.1,
)
AreWithin-closed (names ∷ logs) (x ∷ spans) (suc p) span h below at =
    (h.0, AreWithin-closed logs spans p span h.1 (omega arith) at)

-- one channel is read where its span is
pub AreWithin-length : (logs : List (List MsgName)) (spans : List Span) → AreWithin logs spans
    → length spans ≡ length logs
AreWithin-length [] [] h = refl
AreWithin-length [] (span ∷ spans) h = absurd h
AreWithin-length (names ∷ logs) [] h = absurd h
AreWithin-length (names ∷ logs) (span ∷ spans) h = ap suc (AreWithin-length logs spans h.1)

pub AreWithin-at : (logs : List (List MsgName)) (spans : List Span) (p : ℕ) (d : Span)
    → AreWithin logs spans → p < length logs → IsWithin (get_or logs p []) (get_or spans p d)
AreWithin-at [] spans p d h below = absurd (omega arith)
AreWithin-at (names ∷ logs) [] p d h below = absurd h
AreWithin-at (names ∷ logs) (span ∷ spans) zero d h below = h.0
AreWithin-at (names ∷ logs) (span ∷ spans) (suc p) d h below =
    AreWithin-at logs spans p d h.1 (omega arith)

pub channels_of-at : (logs : List (List MsgName)) (spans : List Span) (p : ℕ) (d : Span)
    (e : Channel) → AreWithin logs spans → p < length logs
    → get_or (channels_in_spans logs spans) p e
    ≡ channel_in_span (get_or logs p []) (get_or spans p d)
channels_of-at [] spans p d e h below = absurd (omega arith)
channels_of-at (names ∷ logs) [] p d e h below = absurd h
channels_of-at (names ∷ logs) (span ∷ spans) zero d e h below = refl
channels_of-at (names ∷ logs) (span ∷ spans) (suc p) d e h below =
    channels_of-at logs spans p d e h.1 (omega arith)
