-- What its checks and its markers say is what the tapes say.
use Rattle.std.proofs.Common.{◌≡◌, ◌<◌, ℕ, List, length, None, sym, subst, ap, ◌∙◌, arith}
use Rattle.line_rounds.specs.Recording.{MarkerView}
use Rattle.line_tape.specs.History.{Process}
use Rattle.line_moves.specs.Listed.{ListedRound}
use Rattle.line_moves.specs.Openings.{kept_channel, recorded_channel, recorded_table, AreChannels}
use Rattle.line_moves.specs.Openings.{AreMarkers}
use Rattle.line_moves.proofs.OpenFacts.{completed_is}
use Rattle.line_moves.proofs.rounds.Round.of_markers.Goals as goal

pub without_silence-markers-requires-clause-markers :
    goal.without_silence-markers-requires-clause-markers
without_silence-markers-requires-clause-markers c =
    subst (λ (n : ℕ). AreMarkers n c.args.markers.items)
    (c.requires.recording.turning.count ∙ sym c.n-n.ensures.value) c.requires.markers

pub returns : goal.returns
returns c =
    let history : List Process = c.args.history.now.processes in
    let markers : List MarkerView = c.args.markers.items in
    let kept : List MarkerView = c.of.result in
    let r : ℕ = c.args.turning.number in
    let indices : List ℕ = c.args.turning.checks in
    let told : (let it : ListedRound = record {
      number = c.number-number.result;
      checks = c.into_checks.result.items;
      channels =
          recorded_table (length c.into_checks.result.items) kept c.number-number.result;
    } in it)
    ≡ (let it : ListedRound = record
    { number = r; checks = indices; channels = recorded_table (length indices) kept r } in it) =
    ap (λ (v : ℕ). let it : ListedRound = record {
      number = v;
      checks = c.into_checks.result.items;
      channels = recorded_table
          (length c.into_checks.result.items) kept v;
    } in it) c.number-number.ensures
    ∙ ap (λ (v : List ℕ). let it : ListedRound = record {
      number = r;
      checks = v;
      channels =
          recorded_table (length v) kept r;
    } in it) c.into_checks.ensures in
    let same : (p q : ℕ) → p < length history → q < length history
    → kept_channel kept r p q ≡ recorded_channel markers r p q = λ p q p_within q_within.
    ap (λ (ms : List MarkerView). kept_channel ms r p q) c.of.ensures
    ∙ subst (λ (v : ℕ). kept_channel c.without_silence-markers.result.items v p q
    ≡ recorded_channel markers v p q) c.number-number.ensures
    (c.without_silence-markers.ensures.same p q (omega (arith, p_within, c.n-n.ensures.value))
    (omega (arith, q_within, c.n-n.ensures.value))) in
    told ∙ completed_is history c.args.turning markers kept c.requires.markers c.requires.recording
    c.requires.completed same

pub invariant_of-result : goal.invariant_of-result
invariant_of-result c =
    subst (AreChannels None (length c.into_checks.result.items)) (sym c.of.ensures) (
      λ k d within. c.without_silence-markers.ensures.n k d within ∙ c.n-n.ensures.value ∙ sym
          c.requires.recording.turning.count ∙ sym
          (ap (λ (v : List ℕ). length v) c.into_checks.ensures),
      c.without_silence-markers.ensures.ascend,
    )
