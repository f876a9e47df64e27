-- The vector of where the process stands is that of its whole tape.
use Rattle.std.proofs.Common.{◌≡◌, ◌<◌, ℕ, List, length, get_or, sym, ap, ◌∙◌, arith}
use Rattle.std.proofs.lemmas.List.{take_all}
use Rattle.line_names.specs.declared.choices.Choice.TheVariants.{Now}
use Rattle.line_tape.specs.declared.events.Event.{Event}
use Rattle.line_tape.specs.Front.{front}
use Rattle.line_tape.specs.History.{Process, tape_at}
use Rattle.line_vectors.specs.Reach.{reach_before, reach_of}
use Rattle.line_vectors.proofs.ReachLemmas.{length-reach}
use Rattle.line_catalogue.specs.Kept.{present_at}
use Rattle.line_catalogue.specs.Views.{CatalogueView}
use Rattle.line_catalogue.proofs.catalogues.Catalogue.heard.Goals as goal

-- how many processes there are
wide : (inside outside : List Process) → inside ≡ outside → length inside ≡ length outside
wide inside outside same = ap (λ (xs : List Process). length xs) same

pub present-requires : goal.present-requires
present-requires c = omega (
  arith,
  c.requires.hearer,
  c.self.invariant.presents_count,
  wide c.self.inside.ledger.processes c.args.self.now.processes
      (ap (λ (v : CatalogueView). v.processes) c.self.view_is),
)

-- the vector is that of the whole tape
vector : (inside outside : List Process) (presents : List (List ℕ)) (q : ℕ) (present : List ℕ)
    → inside ≡ outside → q < length outside
    → ((k : ℕ) → k < length inside
    → present_at presents k ≡ reach_of (length inside) (tape_at inside k))
    → present ≡ present_at presents q → present ≡ reach_before outside q Now
vector inside outside presents q present same within heard is =
    let events : List Event = tape_at inside q in
    is ∙ heard q (omega (arith, within, wide inside outside same))
    ∙ ap (reach_of (length inside)) (sym (take_all (length events) events (omega arith)))
    ∙ ap (λ (xs : List Process). reach_before xs q Now) same

pub lane-requires : goal.lane-requires
lane-requires c =
    let history : List Process = c.args.self.now.processes in
    omega (
      arith,
      c.requires.process,
      ap (λ (xs : List ℕ). length xs) (vector c.self.inside.ledger.processes history
          c.self.inside.rows.presents c.args.q c.present.result.now
          (ap (λ (v : CatalogueView). v.processes) c.self.view_is) c.requires.hearer
          c.self.invariant.heard c.present.ensures),
      length-reach (length history) (front (tape_at history c.args.q) Now),
    )

pub returns : goal.returns
returns c = c.lane.ensures ∙ ap (λ (xs : List ℕ). get_or xs c.args.p 0)
    (vector c.self.inside.ledger.processes c.args.self.now.processes c.self.inside.rows.presents
    c.args.q c.present.result.now (ap (λ (v : CatalogueView). v.processes) c.self.view_is)
    c.requires.hearer c.self.invariant.heard c.present.ensures)
