-- The new round is greater than the last one, and its channels begin where the messages end.
use Rattle.std.proofs.Common.{◌≡◌, ℕ, ◌++◌, ◌∷◌, [], List, length, map, sym, ap, ◌∙◌, subst, arith}
use Rattle.std.proofs.lemmas.List.{length-map}
use Rattle.line_names.specs.declared.messages.MsgName.{MsgName}
use Rattle.line_rounds.specs.Recording.{MarkerView, latest, with_round}
use Rattle.line_rounds.specs.Spans.{SenderLogView, RoundView, names_of, recorded_of, open_span}
use Rattle.line_rounds.specs.Spans.{AreRoundsKept, ArePassed}
use Rattle.line_rounds.proofs.RoundLemmas.{last_number, latest-last}
use Rattle.line_rounds.proofs.KeptLemmas.{rounds-record, AreKept-record}
use Rattle.line_rounds.proofs.PassedLemmas.{ArePassed-push}
use Rattle.line_rounds.proofs.markers.Marker.record.Goals as goal

pub invariant_of-self-2 : goal.invariant_of-self-2
invariant_of-self-2 c =
    let logs : List (List MsgName) = names_of c.self.inside.logs in
    let rounds : List RoundView = c.self.inside.rounds.items in
    let floor : ℕ = c.self.inside.floor in
    let new : RoundView = record { number = c.args.round; spans = c.replace-spans.result.items } in
    let spans : new.spans ≡ map open_span logs = rw c.replace-spans.ensures.value c.open.ensures in
    let greatest : latest c.args.self.now.floor c.args.self.now.rounds ≡ last_number floor rounds =
    sym (ap (λ (m : MarkerView). latest m.floor m.rounds) c.self.view_is) ∙ latest-last floor logs
    rounds c.self.invariant.1.ascending in
    let kept : AreRoundsKept logs floor (rounds ++ new ∷ []) = AreKept-record logs floor rounds new
    c.self.invariant.1 (omega (arith, c.requires)) spans in
    let pushed : c.push_reserved.new.self.items ≡ rounds ++ new ∷ [] = c.push_reserved.ensures.items
    ∙ ap (λ (rs : List RoundView). rs ++ new ∷ []) c.reserve-2.ensures.items in
    let passed : List ℕ = c.self.inside.passed.items in
    let n : ℕ = length c.self.inside.logs in
    let over : ArePassed passed n
    (rounds ++ new ∷ []) = ArePassed-push passed n rounds new c.self.invariant.2 in (
      rw c.replace-spans.ensures.after c.new.ensures.items,
      subst
          (λ (rs : List RoundView). AreRoundsKept logs floor rs) (sym pushed) kept,
      subst
          (λ (rs : List RoundView). ArePassed passed n rs) (sym pushed) over,
    )

pub returns-clause-ok : goal.returns-clause-ok
returns-clause-ok c =
    let logs : List (List MsgName) = names_of c.self.inside.logs in
    let rounds : List RoundView = c.self.inside.rounds.items in
    let new : RoundView = record { number = c.args.round; spans = c.replace-spans.result.items } in
    let spans : new.spans ≡ map open_span logs = rw c.replace-spans.ensures.value c.open.ensures in
    let n : length c.self.inside.logs
    ≡ c.args.self.now.n = ap (λ (m : MarkerView). m.n) c.self.view_is in
    let count : length logs ≡ c.args.self.now.n = length-map c.self.inside.logs
    (λ (log : SenderLogView). log.names) ∙ n in
    let pushed : c.push_reserved.new.self.items ≡ rounds ++ new ∷ [] = c.push_reserved.ensures.items
    ∙ ap (λ (rs : List RoundView). rs ++ new ∷ []) c.reserve-2.ensures.items in
    ap (λ (rs : List RoundView). map (recorded_of logs) rs) pushed
    ∙ rounds-record logs c.args.self.now.n rounds new count spans
    ∙ ap (λ (m : MarkerView). with_round m.rounds c.args.self.now.n c.args.round) c.self.view_is
