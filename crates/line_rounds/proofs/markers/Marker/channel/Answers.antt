-- The span of the channel, of the round that was found, tells which messages of its sender are on
-- it.
use Rattle.std.proofs.Common.{◌≡◌, ℕ, ◌<◌, [], List, length, map, get_or, Some, Option, sym, ap}
use Rattle.std.proofs.Common.{◌∙◌, subst, arith}
use Rattle.std.proofs.lemmas.List.{length-map}
use Rattle.line_names.specs.declared.messages.MsgName.{MsgName}
use Rattle.line_rounds.specs.declared.spans.Span.{Span}
use Rattle.line_rounds.specs.Recording.{MarkerView, RecordedRound, Channel, channel_at, messages_by}
use Rattle.line_rounds.specs.Spans.{SenderLogView, RoundView, names_of, recorded_of}
use Rattle.line_rounds.specs.Spans.{channel_in_span, IsWithin, AreWithin}
use Rattle.line_rounds.proofs.SpanLemmas.{AreWithin-length, AreWithin-at}
use Rattle.line_rounds.proofs.KeptLemmas.{within-at, channel-at}
use Rattle.line_rounds.proofs.markers.Marker.channel.Goals as goal

pub index-span-requires : goal.index-span-requires
index-span-requires c =
    let logs : List (List MsgName) = names_of c.self.inside.logs in
    let rounds : List RoundView = c.self.inside.rounds.items in
    let i : ℕ = c.in-Some.i in
    let old : RoundView = c.index-recorded.result.now in
    let n : length c.self.inside.logs
    ≡ c.args.self.now.n = ap (λ (m : MarkerView). m.n) c.self.view_is in
    let count : length logs ≡ length c.self.inside.logs = length-map c.self.inside.logs
    (λ (log : SenderLogView). log.names) in
    let seen : map (recorded_of logs) rounds
    ≡ c.args.self.now.rounds = ap (λ (m : MarkerView). m.rounds) c.self.view_is in
    let within : i < length rounds = omega (
      arith,
      c.in-Some.ensures.0,
      ap
          (λ (rs : List RecordedRound). length rs) seen,
      length-map rounds (recorded_of logs),
    ) in
    let spans : c.recorded.inside.spans.items
    ≡ old.spans = ap (λ (r : RoundView). r.spans) c.recorded.view_is in
    let before : AreWithin logs old.spans = subst (λ (r : RoundView). AreWithin logs r.spans) (sym
    c.index-recorded.ensures) (within-at logs rounds i old c.self.invariant.1.within within) in
    let p : ℕ = c.get.result in
    let at : p ≡ c.args.from = c.get.ensures.value in
    let below : p < length logs = omega (arith, c.requires) in
    omega (
      arith,
      AreWithin-length logs old.spans before,
      ap
          (λ (ss : List Span). length ss) spans,
      c.recorded.inside.spans.ok.0,
    )

pub messages-requires : goal.messages-requires
messages-requires c =
    let logs : List (List MsgName) = names_of c.self.inside.logs in
    let rounds : List RoundView = c.self.inside.rounds.items in
    let i : ℕ = c.in-Some.i in
    let old : RoundView = c.index-recorded.result.now in
    let n : length c.self.inside.logs
    ≡ c.args.self.now.n = ap (λ (m : MarkerView). m.n) c.self.view_is in
    let count : length logs ≡ length c.self.inside.logs = length-map c.self.inside.logs
    (λ (log : SenderLogView). log.names) in
    let seen : map (recorded_of logs) rounds
    ≡ c.args.self.now.rounds = ap (λ (m : MarkerView). m.rounds) c.self.view_is in
    let within : i < length rounds = omega (
      arith,
      c.in-Some.ensures.0,
      ap
          (λ (rs : List RecordedRound). length rs) seen,
      length-map rounds (recorded_of logs),
    ) in
    let spans : c.recorded.inside.spans.items
    ≡ old.spans = ap (λ (r : RoundView). r.spans) c.recorded.view_is in
    let before : AreWithin logs old.spans = subst (λ (r : RoundView). AreWithin logs r.spans) (sym
    c.index-recorded.ensures) (within-at logs rounds i old c.self.invariant.1.within within) in
    let p : ℕ = c.get.result in
    let at : p ≡ c.args.from = c.get.ensures.value in
    let below : p < length logs = omega (arith, c.requires) in
    let span : Span = c.index-span.result.now in
    let here : span ≡ get_or old.spans p span = subst
    (λ (ss : List Span). span ≡ get_or ss p span) spans c.index-span.ensures in
    let names : c.names.result.now
    ≡ get_or logs p [] = c.names.ensures ∙ ap (λ (k : ℕ). get_or logs k []) (sym at) in
    let read : IsWithin (get_or logs p []) span = subst (λ (s : Span). IsWithin
    (get_or logs p []) s) (sym here) (AreWithin-at logs old.spans p span before below) in
    subst (λ (xs : List MsgName). IsWithin xs span) (sym names) read

pub returns-in-Some : goal.returns-in-Some
returns-in-Some c =
    let logs : List (List MsgName) = names_of c.self.inside.logs in
    let rounds : List RoundView = c.self.inside.rounds.items in
    let i : ℕ = c.in-Some.i in
    let old : RoundView = c.index-recorded.result.now in
    let n : length c.self.inside.logs
    ≡ c.args.self.now.n = ap (λ (m : MarkerView). m.n) c.self.view_is in
    let count : length logs ≡ length c.self.inside.logs = length-map c.self.inside.logs
    (λ (log : SenderLogView). log.names) in
    let seen : map (recorded_of logs) rounds
    ≡ c.args.self.now.rounds = ap (λ (m : MarkerView). m.rounds) c.self.view_is in
    let within : i < length rounds = omega (
      arith,
      c.in-Some.ensures.0,
      ap
          (λ (rs : List RecordedRound). length rs) seen,
      length-map rounds (recorded_of logs),
    ) in
    let spans : c.recorded.inside.spans.items
    ≡ old.spans = ap (λ (r : RoundView). r.spans) c.recorded.view_is in
    let before : AreWithin logs old.spans = subst (λ (r : RoundView). AreWithin logs r.spans) (sym
    c.index-recorded.ensures) (within-at logs rounds i old c.self.invariant.1.within within) in
    let p : ℕ = c.get.result in
    let at : p ≡ c.args.from = c.get.ensures.value in
    let below : p < length logs = omega (arith, c.requires) in
    let span : Span = c.index-span.result.now in
    let d : RecordedRound = recorded_of logs old in
    let here : span ≡ get_or old.spans p span = subst
    (λ (ss : List Span). span ≡ get_or ss p span) spans c.index-span.ensures in
    let names : c.names.result.now
    ≡ get_or logs p [] = c.names.ensures ∙ ap (λ (k : ℕ). get_or logs k []) (sym at) in
    let read : channel_at (get_or (map (recorded_of logs) rounds) i d) p
    ≡ channel_in_span (get_or logs p []) (get_or old.spans p span) =
    channel-at logs rounds i p old d span c.self.invariant.1.within within below
    c.index-recorded.ensures in
    let shown : channel_at (get_or c.args.self.now.rounds i d) c.args.from
    ≡ channel_in_span c.names.result.now span =
    ap (λ (rs : List RecordedRound). channel_at (get_or rs i d) c.args.from) (sym seen)
    ∙ ap (λ (k : ℕ). channel_at (get_or (map (recorded_of logs) rounds) i d) k) (sym at)
    ∙ read
    ∙ ap (λ (s : Span). channel_in_span (get_or logs p []) s) (sym here)
    ∙ ap (λ (xs : List MsgName). channel_in_span xs span) (sym names) in
    ap (λ (o : Option RecordedRound). messages_by o c.args.from) (c.in-Some.ensures.1 d)
    ∙ ap (λ (ch : Channel). Some ch.messages) shown
    ∙ ap (λ (xs : List MsgName). Some xs) (sym c.messages.ensures)
