-- One round more is listed, and its checks make a consistent line.
use Rattle.std.proofs.Common.{◌≡◌, ℕ, List, ap, ◌∙◌, subst, arith}
use Rattle.std.proofs.lemmas.List.Elements.{All-more}
use Rattle.line_tape.specs.History.{Process}
use Rattle.line_live.specs.Resumed.{CheckedRound, resumed_round, IsConsistentRound}
use Rattle.line_live.proofs.ResumedLemmas.{listed_more}
use Rattle.line_live.proofs.resumed.resumed_listing.Goals as goal

pub loop-round-preserved : goal.loop-round-preserved
loop-round-preserved c =
    let history : List Process = c.args.catalogue.now.processes in
    let rounds : List CheckedRound = c.args.rounds.now in
    let here : CheckedRound = c.round-item.result in
    let i : ℕ = c.loop-round.round-index in
    let same : c.loop-round.catalogue.processes
    ≡ history = ap (λ v. v.processes) c.loop-round.invariant.same in
    let is : IsConsistentRound history here = subst (λ (h : List Process). IsConsistentRound h here)
    same (c.in_ok-consistent.ensures.0 c.if-not-consistent.false) in
    let listed : c.in_ok-listed.listed ≡ resumed_round history here = c.in_ok-listed.ensures.round ∙
    ap (λ (h : List Process). resumed_round h here) same in
    record {
      same = c.in_ok-listed.ensures.same ∙ c.loop-round.invariant.same;
      rounds = listed_more history rounds i here c.in_ok-listed.listed c.reserve.new.self.items
          c.push.new.self.items (omega (arith, c.loop-round-test.true)) c.round-item.is listed
          (c.reserve.ensures.items ∙ c.loop-round.invariant.rounds) c.push.ensures;
      consistent = All-more (IsConsistentRound history) rounds i here
          (omega (arith, c.loop-round-test.true)) c.loop-round.invariant.consistent
          (subst (IsConsistentRound history) c.round-item.is is);
    }
