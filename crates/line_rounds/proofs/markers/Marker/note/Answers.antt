-- The log of the sender has the message, and each round reads it where its channel is open.
use Rattle.std.proofs.Common.{◌≡◌, ℕ, ◌<◌, ◌++◌, ◌∷◌, [], List, length, map, get_or, set, sym, ap}
use Rattle.std.proofs.Common.{◌∙◌, subst, arith}
use Rattle.std.specs.Prelude.{Result, Ok, Err, OnOk, OnErr}
use Rattle.std.proofs.lemmas.List.{length-map, length-set, get_or_default}
use Rattle.line_names.specs.declared.messages.MsgName.{MsgName}
use Rattle.line_rounds.specs.Recording.{MarkerView, RecordedRound, rounds_with_message}
use Rattle.line_rounds.specs.Spans.{SenderLogView, RoundView, names_of, recorded_of, AreRoundsKept}
use Rattle.line_rounds.specs.Spans.{ArePassed, AreOver}
use Rattle.line_rounds.proofs.RoundLemmas.{rounds-push, AreKept-push}
use Rattle.line_rounds.proofs.PassedLemmas.{noted-over}
use Rattle.line_rounds.proofs.markers.Marker.note.Goals as goal

-- a fact that holds either way
either : {T E : Type 0} (P Q : Type 0) (r : Result T E) → OnOk r P → OnErr r Q → (R : Type 0)
    → (P → R) → (Q → R) → R
either P Q (Ok x) p q R f g = f p
either P Q (Err e) p q R f g = g q

on_ok : {T E : Type 0} (P Q : Type 0) (r : Result T E) → OnOk r P → (P → Q) → OnOk r Q
on_ok P Q (Ok x) p f = f p
on_ok P Q (Err e) p f = tt

pub invariant_of-self : goal.invariant_of-self
invariant_of-self c =
    let logs : List (List MsgName) = names_of c.self.inside.logs in
    let after : List (List MsgName) = names_of c.push.new.self in
    let p : ℕ = c.args.message.from in
    let rounds : List RoundView = c.self.inside.rounds.items in
    let floor : ℕ = c.self.inside.floor in
    let more : List (List MsgName) = set logs p (get_or logs p [] ++ c.args.message ∷ []) in
    let kept : AreRoundsKept after floor rounds =
    either (after ≡ more) (after ≡ logs) c.push.result c.push.ensures.ok c.push.ensures.err
    (AreRoundsKept after floor rounds)
    (λ (e : after ≡ more). subst (λ (xs : List (List MsgName)). AreRoundsKept xs floor rounds)
    (sym e) (AreKept-push logs floor rounds p c.args.message c.self.invariant.1))
    (λ (e : after ≡ logs). subst (λ (xs : List (List MsgName)). AreRoundsKept xs floor rounds)
    (sym e) c.self.invariant.1) in
    let passed : List ℕ = c.self.inside.passed.items in
    let was : length logs ≡ length c.self.inside.logs = length-map c.self.inside.logs
    (λ (log : SenderLogView). log.names) in
    let now : length after ≡ length c.push.new.self = length-map c.push.new.self
    (λ (log : SenderLogView). log.names) in
    let same : length c.push.new.self ≡ length c.self.inside.logs =
    either (after ≡ more) (after ≡ logs) c.push.result c.push.ensures.ok c.push.ensures.err
    (length c.push.new.self ≡ length c.self.inside.logs)
    (λ (e : after ≡ more). sym now ∙ ap (λ (xs : List (List MsgName)). length xs) e ∙ length-set
    logs p (get_or logs p [] ++ c.args.message ∷ []) ∙ was)
    (λ (e : after ≡ logs). sym now ∙ ap (λ (xs : List (List MsgName)). length xs) e ∙ was) in (
      c.self.invariant.0,
      kept,
      subst (λ (n : ℕ). ArePassed passed n rounds)
          (sym same) c.self.invariant.2,
    )

pub returns-clause-ok : goal.returns-clause-ok
returns-clause-ok c =
    let logs : List (List MsgName) = names_of c.self.inside.logs in
    let after : List (List MsgName) = names_of c.push.new.self in
    let p : ℕ = c.args.message.from in
    let rounds : List RoundView = c.self.inside.rounds.items in
    let more : List (List MsgName) = set logs p (get_or logs p [] ++ c.args.message ∷ []) in
    let count : length c.self.inside.logs
    ≡ c.args.self.now.n = ap (λ (m : MarkerView). m.n) c.self.view_is in
    let below : p < length logs = omega (
      arith,
      c.requires.process,
      length-map c.self.inside.logs
          (λ (log : SenderLogView). log.names),
    ) in
    let seen : map (recorded_of logs) rounds
    ≡ c.args.self.now.rounds = ap (λ (m : MarkerView). m.rounds) c.self.view_is in
    on_ok (after ≡ more) (map (recorded_of after) rounds
    ≡ rounds_with_message c.args.self.now.rounds c.args.message) c.push.result c.push.ensures.ok
    (λ (e : after ≡ more). ap (λ (xs : List (List MsgName)). map (recorded_of xs) rounds) e
    ∙ rounds-push logs rounds c.args.message c.self.invariant.1.within below
    ∙ ap (λ (rs : List RecordedRound). rounds_with_message rs c.args.message) seen)

pub returns-then-over-len-clause-ok : goal.returns-then-over-len-clause-ok
returns-then-over-len-clause-ok c =
    let logs : List (List MsgName) = names_of c.self.inside.logs in
    let rounds : List RoundView = c.self.inside.rounds.items in
    let passed : List ℕ = c.self.inside.passed.items in
    let p : ℕ = c.args.message.from in
    let over : ℕ = c.index-over.result.now in
    let n : length c.self.inside.logs
    ≡ c.args.self.now.n = ap (λ (m : MarkerView). m.n) c.self.view_is in
    let below : p < length logs = omega (
      arith,
      c.requires.process,
      length-map c.self.inside.logs
          (λ (log : SenderLogView). log.names),
    ) in
    let there : p < length c.self.inside.logs = omega (arith, c.requires.process) in
    let within : p < length passed = omega (arith, c.self.invariant.2.count) in
    let seen : map (recorded_of logs) rounds
    ≡ c.args.self.now.rounds = ap (λ (m : MarkerView). m.rounds) c.self.view_is in
    let read : over ≡ get_or passed p over = c.index-over.ensures ∙ ap
    (λ (k : ℕ). get_or passed k over) c.get.ensures.value in
    let long : over ≡ length rounds = omega
    (arith, c.if-over-len.true, c.len.ensures, c.self.inside.rounds.ok.0) in
    let known : get_or passed p 0
    ≡ length rounds = get_or_default passed p 0 over within ∙ sym read ∙ long in
    let all : AreOver p (length rounds) rounds = subst (λ (k : ℕ). AreOver p k rounds) known
    (c.self.invariant.2.each p there) in
    sym (ap (λ (rs : List RecordedRound). rounds_with_message rs c.args.message) (sym seen) ∙
    noted-over logs rounds c.args.message c.self.invariant.1.within below all ∙ seen)
