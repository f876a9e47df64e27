-- A span that is over is a closed channel, for each other process.
use Rattle.std.proofs.Common.{◌≡◌, ◌≢◌, ℕ, ◌<◌, [], List, length, map, get_or, Option, sym, ap, ◌∙◌}
use Rattle.std.proofs.Common.{subst, arith}
use Rattle.std.specs.Prelude.{IsTrue, MatchOption}
use Rattle.std.proofs.lemmas.List.{length-map}
use Rattle.line_names.specs.declared.messages.MsgName.{MsgName}
use Rattle.line_rounds.specs.declared.spans.Span.{Span}
use Rattle.line_rounds.specs.declared.spans.Span.TheVariants.{Open}
use Rattle.line_rounds.specs.Recording.{MarkerView, RecordedRound, Channel, channel_at}
use Rattle.line_rounds.specs.Spans.{SenderLogView, RoundView, names_of, recorded_of, is_over}
use Rattle.line_rounds.specs.Spans.{AreWithin}
use Rattle.line_rounds.proofs.SpanLemmas.{AreWithin-length}
use Rattle.line_rounds.proofs.KeptLemmas.{within-at, channel-at, is_over-closed}
use Rattle.line_rounds.proofs.markers.Marker.is_closed.Goals as goal

pub returns-in-Some : goal.returns-in-Some
returns-in-Some c =
    let logs : List (List MsgName) = names_of c.self.inside.logs in
    let rounds : List RoundView = c.self.inside.rounds.items in
    let i : ℕ = c.in-Some.i in
    let old : RoundView = c.index-recorded.result.now in
    let n : length c.self.inside.logs
    ≡ c.args.self.now.n = ap (λ (m : MarkerView). m.n) c.self.view_is in
    let count : length logs ≡ length c.self.inside.logs = length-map c.self.inside.logs
    (λ (log : SenderLogView). log.names) in
    let seen : map (recorded_of logs) rounds
    ≡ c.args.self.now.rounds = ap (λ (m : MarkerView). m.rounds) c.self.view_is in
    let within : i < length rounds = omega (
      arith,
      c.in-Some.ensures.0,
      ap
          (λ (rs : List RecordedRound). length rs) seen,
      length-map rounds (recorded_of logs),
    ) in
    let spans : c.recorded.inside.spans.items
    ≡ old.spans = ap (λ (r : RoundView). r.spans) c.recorded.view_is in
    let before : AreWithin logs old.spans = subst (λ (r : RoundView). AreWithin logs r.spans) (sym
    c.index-recorded.ensures) (within-at logs rounds i old c.self.invariant.1.within within) in
    let d : RecordedRound = recorded_of logs old in
    let me : c.self.inside.me ≡ c.args.self.now.me = ap (λ (m : MarkerView). m.me) c.self.view_is in
    let slice : c.deref.result.now ≡ old.spans = c.deref.ensures.value ∙ spans in
    let long : length c.deref.result.now ≡ length logs = ap
    (λ (ss : List Span). length ss) slice ∙ AreWithin-length logs old.spans before in
    let over : (q : ℕ) (s : Span) → q < c.args.self.now.n → is_over (get_or c.deref.result.now q s)
    ≡ (channel_at (get_or c.args.self.now.rounds i d) q).is_closed = λ q s h.
    ap (λ (ss : List Span). is_over (get_or ss q s)) slice
    ∙ sym (is_over-closed (get_or logs q []) (get_or old.spans q s))
    ∙ ap (λ (ch : Channel). ch.is_closed) (sym (channel-at logs rounds i q old d s
    c.self.invariant.1.within within (omega arith) c.index-recorded.ensures))
    ∙ ap (λ (rs : List RecordedRound). (channel_at (get_or rs i d) q).is_closed) seen in
    let Over : Option RecordedRound
    → Type 0 = λ o. MatchOption o ⊥ (λ (round : RecordedRound). (q : ℕ) → q < c.args.self.now.n
    → q ≢ c.args.self.now.me → IsTrue (channel_at round q).is_closed) in (
      λ all. subst Over (sym (c.in-Some.ensures.1 d)) (λ q h other.
          subst IsTrue (over q (Open 0) h)
          (c.are_closed.ensures.0 all q (Open 0) (omega arith) (λ e. other (e ∙ me)))),
      λ all. c.are_closed.ensures.1 (λ q s h other.
          let below : q < c.args.self.now.n = omega arith in
          let each : (q : ℕ) → q < c.args.self.now.n → q ≢ c.args.self.now.me
          → IsTrue (channel_at (get_or c.args.self.now.rounds i d) q).is_closed =
          subst Over (c.in-Some.ensures.1 d) all in
          subst IsTrue (sym (over q s below)) (each q below (λ e. other (e ∙ sym me)))),
    )
