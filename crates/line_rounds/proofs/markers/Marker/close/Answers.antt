-- One span of one round ends where the messages of its sender end.
use Rattle.std.proofs.Common.{◌≡◌, ℕ, ◌<◌, [], List, length, map, get_or, set, sym, ap, ◌∙◌, subst}
use Rattle.std.proofs.Common.{arith}
use Rattle.std.proofs.lemmas.List.{length-map, get_or-map, get_or_default}
use Rattle.line_names.specs.declared.messages.MsgName.{MsgName}
use Rattle.line_rounds.specs.declared.spans.Span.{Span}
use Rattle.line_rounds.specs.Recording.{MarkerView, RecordedRound, with_marker}
use Rattle.line_rounds.specs.Spans.{SenderLogView, RoundView, names_of, recorded_of, closed_span}
use Rattle.line_rounds.specs.Spans.{AreWithin, AreRoundsKept, AreOver}
use Rattle.line_rounds.proofs.SpanLemmas.{AreWithin-length}
use Rattle.line_rounds.proofs.KeptLemmas.{within-at, AreKept-close, rounds-close}
use Rattle.line_rounds.proofs.PassedLemmas.{ArePassed-close, AreOver-set}
use Rattle.line_rounds.proofs.markers.Marker.close.Goals as goal

pub index-requires : goal.index-requires
index-requires c =
    let logs : List (List MsgName) = names_of c.self.inside.logs in
    let rounds : List RoundView = c.self.inside.rounds.items in
    let old : RoundView = c.index_mut-round.result.now in
    let p : ℕ = c.get-p.result in
    let at : p ≡ c.args.from = c.get-p.ensures.value in
    let n : length c.self.inside.logs
    ≡ c.args.self.now.n = ap (λ (m : MarkerView). m.n) c.self.view_is in
    let seen : map (recorded_of logs) rounds
    ≡ c.args.self.now.rounds = ap (λ (m : MarkerView). m.rounds) c.self.view_is in
    let within : c.args.i < length rounds = omega (
      arith,
      c.requires.round,
      ap
          (λ (rs : List RecordedRound). length rs) seen,
      length-map rounds (recorded_of logs),
    ) in
    let below : p < length logs = omega (
      arith,
      c.requires.process,
      length-map c.self.inside.logs
          (λ (log : SenderLogView). log.names),
    ) in
    let spans : c.round.inside.spans.items
    ≡ old.spans = ap (λ (r : RoundView). r.spans) c.round.view_is in
    let before : AreWithin logs old.spans = subst (λ (r : RoundView). AreWithin logs r.spans)
    (sym c.index_mut-round.ensures.value)
    (within-at logs rounds c.args.i old c.self.invariant.1.within within) in
    omega (
      arith,
      AreWithin-length logs old.spans before,
      ap
          (λ (ss : List Span). length ss) spans,
      c.round.inside.spans.ok.0,
    )

pub index_mut-requires : goal.index_mut-requires
index_mut-requires c =
    let logs : List (List MsgName) = names_of c.self.inside.logs in
    let rounds : List RoundView = c.self.inside.rounds.items in
    let old : RoundView = c.index_mut-round.result.now in
    let p : ℕ = c.get-p.result in
    let at : p ≡ c.args.from = c.get-p.ensures.value in
    let n : length c.self.inside.logs
    ≡ c.args.self.now.n = ap (λ (m : MarkerView). m.n) c.self.view_is in
    let seen : map (recorded_of logs) rounds
    ≡ c.args.self.now.rounds = ap (λ (m : MarkerView). m.rounds) c.self.view_is in
    let within : c.args.i < length rounds = omega (
      arith,
      c.requires.round,
      ap
          (λ (rs : List RecordedRound). length rs) seen,
      length-map rounds (recorded_of logs),
    ) in
    let below : p < length logs = omega (
      arith,
      c.requires.process,
      length-map c.self.inside.logs
          (λ (log : SenderLogView). log.names),
    ) in
    let spans : c.round.inside.spans.items
    ≡ old.spans = ap (λ (r : RoundView). r.spans) c.round.view_is in
    let before : AreWithin logs old.spans = subst (λ (r : RoundView). AreWithin logs r.spans)
    (sym c.index_mut-round.ensures.value)
    (within-at logs rounds c.args.i old c.self.invariant.1.within within) in
    omega (
      arith,
      AreWithin-length logs old.spans before,
      ap
          (λ (ss : List Span). length ss) spans,
      c.round.inside.spans.ok.0,
    )

pub invariant_of-self : goal.invariant_of-self
invariant_of-self c =
    let logs : List (List MsgName) = names_of c.self.inside.logs in
    let rounds : List RoundView = c.self.inside.rounds.items in
    let old : RoundView = c.index_mut-round.result.now in
    let p : ℕ = c.get-p.result in
    let at : p ≡ c.args.from = c.get-p.ensures.value in
    let n : length c.self.inside.logs
    ≡ c.args.self.now.n = ap (λ (m : MarkerView). m.n) c.self.view_is in
    let seen : map (recorded_of logs) rounds
    ≡ c.args.self.now.rounds = ap (λ (m : MarkerView). m.rounds) c.self.view_is in
    let within : c.args.i < length rounds = omega (
      arith,
      c.requires.round,
      ap
          (λ (rs : List RecordedRound). length rs) seen,
      length-map rounds (recorded_of logs),
    ) in
    let below : p < length logs = omega (
      arith,
      c.requires.process,
      length-map c.self.inside.logs
          (λ (log : SenderLogView). log.names),
    ) in
    let spans : c.round.inside.spans.items
    ≡ old.spans = ap (λ (r : RoundView). r.spans) c.round.view_is in
    let span : Span = c.index.result.now in
    let end : ℕ = length c.names-end.result.now in
    let new : RoundView = record {
      number = c.round.inside.number;
      spans = set
          c.round.inside.spans.items p c.closed.result;
    } in
    let here : span ≡ get_or old.spans p span = subst
    (λ (ss : List Span). span ≡ get_or ss p span) spans c.index.ensures in
    let len : end ≡ length (get_or logs p []) = ap (λ (names : List MsgName). length names)
    c.names-end.ensures ∙ ap (λ (k : ℕ). length (get_or logs k [])) (sym at) in
    let number : new.number ≡ old.number = ap (λ (r : RoundView). r.number) c.round.view_is in
    let written : new.spans ≡ set old.spans p (closed_span end span) = ap (λ (ss : List Span). set
    ss p c.closed.result) spans ∙ ap (λ (s : Span). set old.spans p s) c.closed.ensures in
    let passed : List ℕ = c.self.inside.passed.items in
    let n' : ℕ = length c.self.inside.logs in
    let held : c.deref.result.now ≡ set rounds c.args.i new = c.deref.ensures.value in
    let over : AreOver p c.further-over.result (set rounds c.args.i new) = subst
    (λ (rs : List RoundView). AreOver p c.further-over.result rs) held c.further-over.ensures in (
      c.self.invariant.0,
      AreKept-close logs c.self.inside.floor rounds c.args.i p end old new span
          c.self.invariant.1 within below c.index_mut-round.ensures.value here len number written,
      ArePassed-close passed n' rounds c.args.i p end c.further-over.result old new span
          c.self.invariant.2 c.index_mut-round.ensures.value written over,
    )

pub returns-clause-rounds : goal.returns-clause-rounds
returns-clause-rounds c = λ k named.
    let logs : List (List MsgName) = names_of c.self.inside.logs in
    let rounds : List RoundView = c.self.inside.rounds.items in
    let old : RoundView = c.index_mut-round.result.now in
    let p : ℕ = c.get-p.result in
    let at : p ≡ c.args.from = c.get-p.ensures.value in
    let n : length c.self.inside.logs
    ≡ c.args.self.now.n = ap (λ (m : MarkerView). m.n) c.self.view_is in
    let seen : map (recorded_of logs) rounds
    ≡ c.args.self.now.rounds = ap (λ (m : MarkerView). m.rounds) c.self.view_is in
    let within : c.args.i < length rounds = omega (
      arith,
      c.requires.round,
      ap
          (λ (rs : List RecordedRound). length rs) seen,
      length-map rounds (recorded_of logs),
    ) in
    let below : p < length logs = omega (
      arith,
      c.requires.process,
      length-map c.self.inside.logs
          (λ (log : SenderLogView). log.names),
    ) in
    let spans : c.round.inside.spans.items
    ≡ old.spans = ap (λ (r : RoundView). r.spans) c.round.view_is in
    let span : Span = c.index.result.now in
    let end : ℕ = length c.names-end.result.now in
    let new : RoundView = record {
      number = c.round.inside.number;
      spans = set
          c.round.inside.spans.items p c.closed.result;
    } in
    let here : span ≡ get_or old.spans p span = subst
    (λ (ss : List Span). span ≡ get_or ss p span) spans c.index.ensures in
    let len : end ≡ length (get_or logs p []) = ap (λ (names : List MsgName). length names)
    c.names-end.ensures ∙ ap (λ (k : ℕ). length (get_or logs k [])) (sym at) in
    let number : new.number ≡ old.number = ap (λ (r : RoundView). r.number) c.round.view_is in
    let written : new.spans ≡ set old.spans p (closed_span end span) = ap (λ (ss : List Span). set
    ss p c.closed.result) spans ∙ ap (λ (s : Span). set old.spans p s) c.closed.ensures in
    let is : old.number ≡ k =
    ap (λ (r : RoundView). r.number) c.index_mut-round.ensures.value
    ∙ ap (λ (r : RecordedRound). r.number)
    (sym (get_or-map (recorded_of logs) rounds c.args.i old (recorded_of logs old) within))
    ∙ ap (λ (rs : List RecordedRound). (get_or rs c.args.i (recorded_of logs old)).number) seen
    ∙ named (recorded_of logs old) in
    rounds-close logs c.self.inside.floor rounds c.args.i p end k old new span c.self.invariant.1
    within below c.index_mut-round.ensures.value here len number written is
    ∙ ap (λ (q : ℕ). with_marker (map (recorded_of logs) rounds) q k) at
    ∙ ap (λ (rs : List RecordedRound). with_marker rs c.args.from k) seen

pub further-over-requires-clause-over : goal.further-over-requires-clause-over
further-over-requires-clause-over c =
    let logs : List (List MsgName) = names_of c.self.inside.logs in
    let rounds : List RoundView = c.self.inside.rounds.items in
    let old : RoundView = c.index_mut-round.result.now in
    let p : ℕ = c.get-p.result in
    let at : p ≡ c.args.from = c.get-p.ensures.value in
    let n : length c.self.inside.logs
    ≡ c.args.self.now.n = ap (λ (m : MarkerView). m.n) c.self.view_is in
    let seen : map (recorded_of logs) rounds
    ≡ c.args.self.now.rounds = ap (λ (m : MarkerView). m.rounds) c.self.view_is in
    let within : c.args.i < length rounds = omega (
      arith,
      c.requires.round,
      ap
          (λ (rs : List RecordedRound). length rs) seen,
      length-map rounds (recorded_of logs),
    ) in
    let below : p < length logs = omega (
      arith,
      c.requires.process,
      length-map c.self.inside.logs
          (λ (log : SenderLogView). log.names),
    ) in
    let spans : c.round.inside.spans.items
    ≡ old.spans = ap (λ (r : RoundView). r.spans) c.round.view_is in
    let span : Span = c.index.result.now in
    let end : ℕ = length c.names-end.result.now in
    let new : RoundView = record {
      number = c.round.inside.number;
      spans = set
          c.round.inside.spans.items p c.closed.result;
    } in
    let here : span ≡ get_or old.spans p span = subst
    (λ (ss : List Span). span ≡ get_or ss p span) spans c.index.ensures in
    let len : end ≡ length (get_or logs p []) = ap (λ (names : List MsgName). length names)
    c.names-end.ensures ∙ ap (λ (k : ℕ). length (get_or logs k [])) (sym at) in
    let number : new.number ≡ old.number = ap (λ (r : RoundView). r.number) c.round.view_is in
    let written : new.spans ≡ set old.spans p (closed_span end span) = ap (λ (ss : List Span). set
    ss p c.closed.result) spans ∙ ap (λ (s : Span). set old.spans p s) c.closed.ensures in
    let passed : List ℕ = c.self.inside.passed.items in
    let known : ℕ = c.index-known.result.now in
    let held : c.deref.result.now ≡ set rounds c.args.i new = c.deref.ensures.value in
    let there : p < length c.self.inside.logs = omega (arith, c.requires.process) in
    let inside : p < length passed = omega (arith, c.self.invariant.2.count) in
    let read : get_or passed p 0
    ≡ known = get_or_default passed p 0 known inside ∙ sym c.index-known.ensures in
    let before : AreOver p known rounds = subst (λ (k : ℕ). AreOver p k rounds) read
    (c.self.invariant.2.each p there) in
    subst (λ (rs : List RoundView). AreOver p known rs) (sym held) (AreOver-set p known rounds
    c.args.i p end old new span before c.index_mut-round.ensures.value written)

pub further-over-requires-clause-spans : goal.further-over-requires-clause-spans
further-over-requires-clause-spans c = λ j d h.
    let logs : List (List MsgName) = names_of c.self.inside.logs in
    let rounds : List RoundView = c.self.inside.rounds.items in
    let old : RoundView = c.index_mut-round.result.now in
    let p : ℕ = c.get-p.result in
    let at : p ≡ c.args.from = c.get-p.ensures.value in
    let n : length c.self.inside.logs
    ≡ c.args.self.now.n = ap (λ (m : MarkerView). m.n) c.self.view_is in
    let seen : map (recorded_of logs) rounds
    ≡ c.args.self.now.rounds = ap (λ (m : MarkerView). m.rounds) c.self.view_is in
    let within : c.args.i < length rounds = omega (
      arith,
      c.requires.round,
      ap
          (λ (rs : List RecordedRound). length rs) seen,
      length-map rounds (recorded_of logs),
    ) in
    let below : p < length logs = omega (
      arith,
      c.requires.process,
      length-map c.self.inside.logs
          (λ (log : SenderLogView). log.names),
    ) in
    let spans : c.round.inside.spans.items
    ≡ old.spans = ap (λ (r : RoundView). r.spans) c.round.view_is in
    let span : Span = c.index.result.now in
    let end : ℕ = length c.names-end.result.now in
    let new : RoundView = record {
      number = c.round.inside.number;
      spans = set
          c.round.inside.spans.items p c.closed.result;
    } in
    let here : span ≡ get_or old.spans p span = subst
    (λ (ss : List Span). span ≡ get_or ss p span) spans c.index.ensures in
    let len : end ≡ length (get_or logs p []) = ap (λ (names : List MsgName). length names)
    c.names-end.ensures ∙ ap (λ (k : ℕ). length (get_or logs k [])) (sym at) in
    let number : new.number ≡ old.number = ap (λ (r : RoundView). r.number) c.round.view_is in
    let written : new.spans ≡ set old.spans p (closed_span end span) = ap (λ (ss : List Span). set
    ss p c.closed.result) spans ∙ ap (λ (s : Span). set old.spans p s) c.closed.ensures in
    let held : c.deref.result.now ≡ set rounds c.args.i new = c.deref.ensures.value in
    let kept : AreRoundsKept logs c.self.inside.floor
    (set rounds c.args.i new) = AreKept-close logs c.self.inside.floor rounds c.args.i p end old
    new span c.self.invariant.1 within below c.index_mut-round.ensures.value here len number
    written in
    let shown : j < length (set rounds c.args.i new) = subst
    (λ (rs : List RoundView). j < length rs) held h in
    let each : AreWithin logs (get_or (set rounds c.args.i new) j d).spans = within-at logs
    (set rounds c.args.i new) j d kept.within shown in
    let long : p < length (get_or (set rounds c.args.i new) j d).spans = omega
    (arith, AreWithin-length logs (get_or (set rounds c.args.i new) j d).spans each) in
    subst (λ (rs : List RoundView). p < length (get_or rs j d).spans) (sym held) long
