-- The vector is the choice's, and the history agrees.
use Rattle.std.proofs.Common.{◌≡◌, ◌↔◌, ◌<◌, ℕ, List, length, sym, ap, ◌∙◌, subst, arith}
use Rattle.line_names.specs.declared.choices.Choice.{Choice}
use Rattle.line_tape.specs.Front.{front, HasChoice}
use Rattle.line_tape.specs.History.{Process, tape_at, IsHistory}
use Rattle.line_tape.specs.Line.{AreSentBefore}
use Rattle.line_tape.specs.Views.{HistoryView, damaged_at}
use Rattle.line_vectors.specs.Reach.{reach_before, sents_of}
use Rattle.line_vectors.specs.Vectors.{Fits}
use Rattle.line_catalogue.specs.Kept.{rows_at, present_at}
use Rattle.line_catalogue.specs.Views.{CatalogueView}
use Rattle.line_catalogue.proofs.CheckLemmas.{vector-before}
use Rattle.line_catalogue.proofs.LaneLemmas.{fits-decide}
use Rattle.line_catalogue.proofs.catalogues.Catalogue.reach.Goals as goal

pub returns-clause-value : goal.returns-clause-value
returns-clause-value c =
    let history : List Process = c.self.inside.ledger.processes in
    let p : ℕ = c.args.p in
    let seen : history
    ≡ c.args.self.now.processes = ap (λ (v : CatalogueView). v.processes) c.self.view_is in
    let within : p < length history = omega
    (arith, c.requires.process, ap (λ (xs : List Process). length xs) seen) in
    let has : HasChoice (tape_at history p) c.args.choice = subst (λ (xs : List Process). HasChoice
    (tape_at xs p) c.args.choice) (sym seen) c.requires.choice in
    c.reach.ensures ∙ vector-before (length history) (tape_at history p)
    (damaged_at c.self.inside.marks p) c.args.choice (rows_at c.self.inside.rows.rows p)
    (present_at c.self.inside.rows.presents p) has (c.self.invariant.shown p within)
    (c.self.invariant.heard p within)
    ∙ ap (λ (xs : List Process). reach_before xs p c.args.choice) seen

pub returns-clause-decides : goal.returns-clause-decides
returns-clause-decides c = λ line.
    let history : List Process = c.self.inside.ledger.processes in
    let p : ℕ = c.args.p in
    let choice : Choice = c.args.choice in
    let seen : history
    ≡ c.args.self.now.processes = ap (λ (v : CatalogueView). v.processes) c.self.view_is in
    let within : p < length history = omega
    (arith, c.requires.process, ap (λ (xs : List Process). length xs) seen) in
    let has : HasChoice (tape_at history p) choice = subst
    (λ (xs : List Process). HasChoice (tape_at xs p) choice) (sym seen) c.requires.choice in
    let value : c.reach.result ≡ reach_before history p choice =
    c.reach.ensures ∙ vector-before (length history) (tape_at history p)
    (damaged_at c.self.inside.marks p) choice (rows_at c.self.inside.rows.rows p)
    (present_at c.self.inside.rows.presents p) has (c.self.invariant.shown p within)
    (c.self.invariant.heard p within)
    in
    let decides : Fits (reach_before history p choice) (sents_of history line)
    ↔ AreSentBefore history line
    (front (tape_at history p) choice) = fits-decide history line p choice
    (subst (λ (v : HistoryView). IsHistory v.processes) c.history.ensures c.n-n.ensures.limits)
    c.self.invariant.agrees in
    let here : Fits c.reach.result (sents_of history line)
    ↔ AreSentBefore history line (front (tape_at history p) choice) =
    subst (λ (xs : List ℕ). Fits xs (sents_of history line)
    ↔ AreSentBefore history line (front (tape_at history p) choice)) (sym value) decides
    in
    subst (λ (xs : List Process). Fits c.reach.result (sents_of xs line)
    ↔ AreSentBefore xs line (front (tape_at xs p) choice)) seen here
