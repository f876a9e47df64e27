-- What is kept stays right as a round is recorded and a channel is closed.
use Rattle.std.proofs.Common.{◌≡◌, ℕ, zero, suc, ◌<◌, true, List, [], ◌∷◌, ◌++◌, length, map}
use Rattle.std.proofs.Common.{replicate, get_or, set, sym, ap, ◌∙◌, refl, subst, arith}
use Rattle.std.proofs.lemmas.List.{map-append, map-set, get_or-map}
use Rattle.line_names.specs.declared.messages.MsgName.{MsgName}
use Rattle.line_rounds.specs.declared.spans.Span.{Span}
use Rattle.line_rounds.specs.declared.spans.Span.TheVariants.{Open, Closed}
use Rattle.line_rounds.specs.Recording.{RecordedRound, Channel, open_channel, channel_at}
use Rattle.line_rounds.specs.Recording.{with_channel, with_marker, with_round}
use Rattle.line_rounds.specs.Spans.{RoundView, recorded_of, channel_in_span, channels_in_spans}
use Rattle.line_rounds.specs.Spans.{closed_span, is_over, open_span, AllWithin, AreWithin}
use Rattle.line_rounds.specs.Spans.{AreRoundsKept, IsAscending}
use Rattle.line_rounds.proofs.SpanLemmas.{channels_of-opened, AreWithin-opened, channels_of-closed}
use Rattle.line_rounds.proofs.SpanLemmas.{AreWithin-closed, channels_of-at}
use Rattle.line_rounds.proofs.RoundLemmas.{last_number, IsAscending-push, with_marker-at}

pub within-at : (logs : List (List MsgName)) (rounds : List RoundView) (i : ℕ) (d : RoundView)
    → AllWithin logs rounds → i < length rounds → AreWithin logs (get_or rounds i d).spans
within-at logs [] i d h below = absurd (omega arith)
within-at logs (round ∷ rounds) zero d h below = h.0
within-at logs (round ∷ rounds) (suc i) d h below = within-at logs rounds i d h.1 (omega arith)

within-set : (logs : List (List MsgName)) (rounds : List RoundView) (i : ℕ) (new : RoundView)
    → AllWithin logs rounds → AreWithin logs new.spans → AllWithin logs (set rounds i new)
within-set logs [] i new h here = tt
within-set logs (round ∷ rounds) zero new h here = (here, h.1)
within-set logs (round ∷ rounds) (suc i) new h here = (h.0, within-set logs rounds i new h.1 here)

within-more : (logs : List (List MsgName)) (rounds : List RoundView) (new : RoundView)
    → AllWithin logs rounds → AreWithin logs new.spans → AllWithin logs (rounds ++ new ∷ [])
within-more logs [] new h here = (here, tt)
within-more logs (round ∷ rounds) new h here = (h.0, within-more logs rounds new h.1 here)

ascending-set : (b : ℕ) (rounds : List RoundView) (i : ℕ) (old new : RoundView) → IsAscending b
    rounds → old ≡ get_or rounds i old → new.number ≡ old.number → IsAscending b (set rounds i new)
ascending-set b [] i old new up at same = tt
ascending-set b (round ∷ rounds) zero old new up at same =
    let number : new.number ≡ round.number = same ∙ ap (λ (r : RoundView). r.number) at in
    (omega (arith, up.0), subst (λ (k : ℕ). IsAscending k rounds) (sym number) up.1)
ascending-set b (round ∷ rounds) (suc i) old new up at same =
    (up.0, ascending-set round.number rounds i old new up.1 at same)

-- a round is recorded
pub rounds-record : (logs : List (List MsgName)) (n : ℕ) (rounds : List RoundView) (new : RoundView)
    → length logs ≡ n → new.spans ≡ map open_span logs
    → map (recorded_of logs) (rounds ++ new ∷ [])
    ≡ with_round (map (recorded_of logs) rounds) n new.number
rounds-record logs n rounds new count spans =
    map-append (recorded_of logs) rounds (new ∷ [])
    ∙ ap (λ (cs : List Channel). let r : RecordedRound = record
    { number = new.number; channels = cs } in map (recorded_of logs) rounds ++ r ∷ [])
    (ap (λ (ss : List Span). channels_in_spans logs ss) spans ∙ channels_of-opened logs ∙ ap
    (λ (k : ℕ). replicate k open_channel) count)

pub AreKept-record : (logs : List (List MsgName)) (floor : ℕ) (rounds : List RoundView)
    (new : RoundView) → AreRoundsKept logs floor rounds → last_number floor rounds < new.number
    → new.spans ≡ map open_span logs
    → AreRoundsKept logs floor (rounds ++ new ∷ [])
AreKept-record logs floor rounds new kept above spans = record {
  ascending = IsAscending-push floor rounds new kept.ascending above;
  within = within-more logs rounds new kept.within
      (subst (λ (ss : List Span). AreWithin logs ss) (sym spans) (AreWithin-opened logs));
}

-- a channel of the round that stands there is closed
pub AreKept-close : (logs : List (List MsgName)) (floor : ℕ) (rounds : List RoundView) (i p end : ℕ)
    (old new : RoundView) (span : Span) → AreRoundsKept logs floor rounds → i < length rounds
    → p < length logs
    → old ≡ get_or rounds i old → span ≡ get_or old.spans p span → end ≡ length (get_or logs p [])
    → new.number ≡ old.number → new.spans ≡ set old.spans p (closed_span end span)
    → AreRoundsKept logs floor (set rounds i new)
AreKept-close logs floor rounds i p end old new span kept within below at here len number spans =
    let before : AreWithin logs old.spans = subst (λ (r : RoundView). AreWithin logs r.spans)
    (sym at) (within-at logs rounds i old kept.within within) in
    let changed : AreWithin logs (set old.spans p (closed_span (length (get_or logs p [])) span)) =
    AreWithin-closed logs old.spans p span before below here in
    let named : AreWithin logs (set old.spans p (closed_span end span)) = subst
    (λ (k : ℕ). AreWithin logs (set old.spans p (closed_span k span))) (sym len) changed in
    record {
      ascending = ascending-set floor rounds i old new kept.ascending at number;
      within = within-set logs rounds i new kept.within
          (subst (λ (ss : List Span). AreWithin logs ss) (sym spans) named);
    }

pub rounds-close : (logs : List (List MsgName)) (floor : ℕ) (rounds : List RoundView)
    (i p end number : ℕ) (old new : RoundView) (span : Span) → AreRoundsKept logs floor rounds
    → i < length rounds → p < length logs
    → old ≡ get_or rounds i old → span ≡ get_or old.spans p span → end ≡ length (get_or logs p [])
    → new.number ≡ old.number → new.spans ≡ set old.spans p (closed_span end span)
    → old.number ≡ number
    → map (recorded_of logs) (set rounds i new)
    ≡ with_marker (map (recorded_of logs) rounds) p number
rounds-close logs floor rounds i p end number old new span kept within below at here len same spans
    is =
    let before : AreWithin logs old.spans = subst (λ (r : RoundView). AreWithin logs r.spans)
    (sym at) (within-at logs rounds i old kept.within within) in
    let shut : RecordedRound → RecordedRound = λ (r : RecordedRound). with_channel r p
    (record (channel_at r p) { is_closed = true }) in
    let channels : channels_in_spans logs new.spans ≡ (shut (recorded_of logs old)).channels =
    ap (λ (ss : List Span). channels_in_spans logs ss) (spans ∙ ap (λ (k : ℕ). set old.spans p
    (closed_span k span)) len) ∙ channels_of-closed logs old.spans p span before below here in
    let written : recorded_of logs new ≡ shut (recorded_of logs old) =
    ap (λ (k : ℕ). let r : RecordedRound = record
    { number = k; channels = channels_in_spans logs new.spans } in r) same
    ∙ ap (λ (cs : List Channel). let r : RecordedRound = record
    { number = old.number; channels = cs } in r) channels in
    map-set (recorded_of logs) rounds i new
    ∙ ap (λ (r : RecordedRound). set (map (recorded_of logs) rounds) i r)
    (written ∙ ap (λ (r : RoundView). shut (recorded_of logs r)) at)
    ∙ with_marker-at floor logs rounds i p number old kept.ascending within
    (ap (λ (r : RoundView). r.number) (sym at) ∙ is)

-- a channel is read where its round and its span stand
pub channel-at : (logs : List (List MsgName)) (rounds : List RoundView) (i p : ℕ) (old : RoundView)
    (d : RecordedRound) (s : Span) → AllWithin logs rounds → i < length rounds → p < length logs
    → old ≡ get_or rounds i old
    → channel_at (get_or (map (recorded_of logs) rounds) i d) p
    ≡ channel_in_span (get_or logs p []) (get_or old.spans p s)
channel-at logs rounds i p old d s kept within below at =
    let before : AreWithin logs old.spans = subst (λ (r : RoundView). AreWithin logs r.spans)
    (sym at) (within-at logs rounds i old kept within) in
    ap (λ (r : RecordedRound). channel_at r p) (get_or-map (recorded_of logs) rounds i old d within
    ∙ ap (λ (r : RoundView). recorded_of logs r) (sym at))
    ∙ channels_of-at logs old.spans p s open_channel before below

pub is_over-closed : (names : List MsgName) (span : Span)
    → (channel_in_span names span).is_closed ≡ is_over span
is_over-closed names (Open start) = refl
is_over-closed names (Closed start end) = refl
