-- The history takes the event, which agrees with it, and the rows are as they were.
use Rattle.std.proofs.Common.{◌≡◌, ◌+◌, ◌<◌, ℕ, List, [], length, set, sym, ap, refl, subst, arith}
use Rattle.std.proofs.lemmas.List.{set-get_or}
use Rattle.line_tape.specs.declared.events.Event.{Event}
use Rattle.line_tape.specs.declared.events.Event.TheVariants.{Mark}
use Rattle.line_tape.specs.Event.{sends, NamesBelow}
use Rattle.line_tape.specs.Views.{MarksView}
use Rattle.line_tape.specs.History.{Process, tape_at, with_event}
use Rattle.line_catalogue.specs.declared.kept_rows.Row.{Row}
use Rattle.line_catalogue.specs.Agreement.{AgreesNext}
use Rattle.line_catalogue.specs.Kept.{present_at, IsCatalogue}
use Rattle.line_catalogue.specs.Views.{CatalogueView, catalogue_room_at}
use Rattle.line_catalogue.proofs.CatalogueLemmas.{IsCatalogue-event, lesser_at}
use Rattle.line_catalogue.proofs.catalogues.Catalogue.append_mark.Goals as goal

pub append_mark-requires-clause-process : goal.append_mark-requires-clause-process
append_mark-requires-clause-process c =
    omega (arith, c.requires.process, ap (λ (v : CatalogueView). length v.processes) c.self.view_is)

pub append_mark-requires-clause-from : goal.append_mark-requires-clause-from
append_mark-requires-clause-from c =
    omega (arith, c.requires.from, ap (λ (v : CatalogueView). length v.processes) c.self.view_is)

pub append_mark-requires-clause-few : goal.append_mark-requires-clause-few
append_mark-requires-clause-few c = omega (
  arith,
  c.requires.few,
  ap
      (λ (v : CatalogueView). length (tape_at v.processes c.args.p)) c.self.view_is,
)

pub append_mark-requires-clause-room : goal.append_mark-requires-clause-room
append_mark-requires-clause-room c =
    omega (
      arith,
      c.requires.room,
      ap (λ (v : CatalogueView). catalogue_room_at v c.args.p)
          c.self.view_is,
      lesser_at c.self.inside.ledger.rooms c.self.inside.rows.rooms c.args.p,
    )

pub invariant_of-self : goal.invariant_of-self
invariant_of-self c =
    let history : List Process = c.self.inside.ledger.processes in
    let marks : MarksView = c.self.inside.marks in
    let rows : List (List Row) = c.self.inside.rows.rows in
    let presents : List (List ℕ) = c.self.inside.rows.presents in
    let p : ℕ = c.args.p in
    let event : Event = (Mark c.args.from c.args.round) in
    let after : List Process = with_event history p event in
    let seen : history
    ≡ c.args.self.now.processes = ap (λ (v : CatalogueView). v.processes) c.self.view_is in
    let within : p < length history = omega
    (arith, c.requires.process, ap (λ (xs : List Process). length xs) seen) in
    let named : NamesBelow (length history) event = subst
    (λ (xs : List Process). NamesBelow (length xs) event) (sym seen) c.requires.from in
    let next : AgreesNext history p event = subst (λ (xs : List Process). AgreesNext xs p event)
    (sym seen) c.requires.agrees in
    subst (λ (xs : List Process). IsCatalogue xs marks rows presents)
    (sym c.append_mark.ensures.processes)
    (subst (λ (ys : List (List ℕ)). IsCatalogue after marks rows ys) (set-get_or presents p [])
    (subst (λ (xs : List (List Row)). IsCatalogue after marks xs
    (set presents p (present_at presents p))) (set-get_or rows p [])
    (IsCatalogue-event history marks rows presents p within event (length (tape_at history p) + 1)
    (sends (tape_at history p)) refl refl named next c.self.invariant)))
