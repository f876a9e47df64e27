-- A span that is over is a closed channel.
use Rattle.std.proofs.Common.{◌≡◌, ℕ, ◌<◌, [], List, length, map, get_or, sym, ap, ◌∙◌, subst}
use Rattle.std.proofs.Common.{arith}
use Rattle.std.proofs.lemmas.List.{length-map}
use Rattle.line_names.specs.declared.messages.MsgName.{MsgName}
use Rattle.line_rounds.specs.declared.spans.Span.{Span}
use Rattle.line_rounds.specs.Recording.{MarkerView, RecordedRound, Channel, channel_at}
use Rattle.line_rounds.specs.Spans.{SenderLogView, RoundView, names_of, recorded_of}
use Rattle.line_rounds.specs.Spans.{channel_in_span, AreWithin}
use Rattle.line_rounds.proofs.SpanLemmas.{AreWithin-length}
use Rattle.line_rounds.proofs.KeptLemmas.{within-at, channel-at, is_over-closed}
use Rattle.line_rounds.proofs.markers.Marker.has_marker.Goals as goal

pub index-requires : goal.index-requires
index-requires c =
    let logs : List (List MsgName) = names_of c.self.inside.logs in
    let rounds : List RoundView = c.self.inside.rounds.items in
    let old : RoundView = c.index-round.result.now in
    let p : ℕ = c.get.result in
    let at : p ≡ c.args.from = c.get.ensures.value in
    let n : length c.self.inside.logs
    ≡ c.args.self.now.n = ap (λ (m : MarkerView). m.n) c.self.view_is in
    let seen : map (recorded_of logs) rounds
    ≡ c.args.self.now.rounds = ap (λ (m : MarkerView). m.rounds) c.self.view_is in
    let within : c.args.i < length rounds = omega (
      arith,
      c.requires.round,
      ap
          (λ (rs : List RecordedRound). length rs) seen,
      length-map rounds (recorded_of logs),
    ) in
    let below : p < length logs = omega (
      arith,
      c.requires.process,
      length-map c.self.inside.logs
          (λ (log : SenderLogView). log.names),
    ) in
    let spans : c.round.inside.spans.items
    ≡ old.spans = ap (λ (r : RoundView). r.spans) c.round.view_is in
    let before : AreWithin logs old.spans = subst (λ (r : RoundView). AreWithin logs r.spans)
    (sym c.index-round.ensures)
    (within-at logs rounds c.args.i old c.self.invariant.1.within within) in
    omega (
      arith,
      AreWithin-length logs old.spans before,
      ap
          (λ (ss : List Span). length ss) spans,
      c.round.inside.spans.ok.0,
    )

pub returns : goal.returns
returns c = λ d.
    let logs : List (List MsgName) = names_of c.self.inside.logs in
    let rounds : List RoundView = c.self.inside.rounds.items in
    let old : RoundView = c.index-round.result.now in
    let p : ℕ = c.get.result in
    let at : p ≡ c.args.from = c.get.ensures.value in
    let n : length c.self.inside.logs
    ≡ c.args.self.now.n = ap (λ (m : MarkerView). m.n) c.self.view_is in
    let seen : map (recorded_of logs) rounds
    ≡ c.args.self.now.rounds = ap (λ (m : MarkerView). m.rounds) c.self.view_is in
    let within : c.args.i < length rounds = omega (
      arith,
      c.requires.round,
      ap
          (λ (rs : List RecordedRound). length rs) seen,
      length-map rounds (recorded_of logs),
    ) in
    let below : p < length logs = omega (
      arith,
      c.requires.process,
      length-map c.self.inside.logs
          (λ (log : SenderLogView). log.names),
    ) in
    let spans : c.round.inside.spans.items
    ≡ old.spans = ap (λ (r : RoundView). r.spans) c.round.view_is in
    let span : Span = c.index.result.now in
    let here : span ≡ get_or old.spans p span = subst
    (λ (ss : List Span). span ≡ get_or ss p span) spans c.index.ensures in
    let read : channel_at (get_or (map (recorded_of logs) rounds) c.args.i d) p
    ≡ channel_in_span (get_or logs p []) (get_or old.spans p span) =
    channel-at logs rounds c.args.i p old d span c.self.invariant.1.within within below
    c.index-round.ensures in
    c.is_closed.ensures
    ∙ sym (is_over-closed (get_or logs p []) span)
    ∙ ap (λ (s : Span). (channel_in_span (get_or logs p []) s).is_closed) here
    ∙ ap (λ (ch : Channel). ch.is_closed) (sym read)
    ∙ ap (λ (k : ℕ). (channel_at (get_or (map (recorded_of logs) rounds) c.args.i d) k).is_closed)
    at
    ∙ ap (λ (rs : List RecordedRound). (channel_at (get_or rs c.args.i d) c.args.from).is_closed)
    seen
