-- The history takes the event, which agrees with it, and the rows tell of it.
use Rattle.std.proofs.Common.{◌≡◌, ◌+◌, ◌<◌, ℕ, List, length, set, sym, ap, ◌∙◌, subst, arith}
use Rattle.line_tape.specs.declared.events.Event.TheVariants.{Recv}
use Rattle.line_tape.specs.declared.events.Event.{Event}
use Rattle.line_tape.specs.Event.{sends, NamesBelow}
use Rattle.line_tape.proofs.RowLemmas.{checks_le}
use Rattle.line_tape.specs.Views.{HistoryView, MarksView}
use Rattle.line_tape.specs.History.{Process, tape_at, with_event}
use Rattle.line_catalogue.specs.declared.kept_rows.Row.{Row}
use Rattle.line_catalogue.specs.Agreement.{AgreesNext}
use Rattle.line_catalogue.specs.Kept.{present_at, rows_at, IsCatalogue}
use Rattle.line_catalogue.specs.Rows.{vector_after_event, row_added, with_row}
use Rattle.line_catalogue.specs.Views.{CatalogueView, catalogue_room_at}
use Rattle.line_catalogue.proofs.CatalogueLemmas.{IsCatalogue-event, length-present, lesser_at}
use Rattle.line_catalogue.proofs.catalogues.Catalogue.append_receipt.Goals as goal

pub append_receipt-requires-clause-process : goal.append_receipt-requires-clause-process
append_receipt-requires-clause-process c =
    omega (arith, c.requires.process, ap (λ (v : CatalogueView). length v.processes) c.self.view_is)

pub append_receipt-requires-clause-from : goal.append_receipt-requires-clause-from
append_receipt-requires-clause-from c = subst (λ (v : CatalogueView). NamesBelow
    (length v.processes) (Recv c.args.message.now)) (sym c.self.view_is) c.requires.from

pub append_receipt-requires-clause-few : goal.append_receipt-requires-clause-few
append_receipt-requires-clause-few c = omega (
  arith,
  c.requires.few,
  ap
      (λ (v : CatalogueView). length (tape_at v.processes c.args.p)) c.self.view_is,
)

pub append_receipt-requires-clause-room : goal.append_receipt-requires-clause-room
append_receipt-requires-clause-room c =
    omega (
      arith,
      c.requires.room,
      ap (λ (v : CatalogueView). catalogue_room_at v c.args.p)
          c.self.view_is,
      lesser_at c.self.inside.ledger.rooms c.self.inside.rows.rooms c.args.p,
    )

pub append-requires-clause-short : goal.append-requires-clause-short
append-requires-clause-short c =
    let history : List Process = c.self.inside.ledger.processes in
    let tape_is : c.tape.result.now.events ≡ tape_at history c.args.p = c.tape.ensures.events ∙ ap
    (λ (v : HistoryView). tape_at v.processes c.args.p) c.history.ensures in
    omega (
      arith,
      c.requires.few,
      ap (λ (v : CatalogueView). length (tape_at v.processes c.args.p))
          c.self.view_is,
      ap (λ (es : List Event). length es) tape_is,
    )

pub append-requires-clause-few : goal.append-requires-clause-few
append-requires-clause-few c =
    let history : List Process = c.self.inside.ledger.processes in
    let p : ℕ = c.args.p in
    let within : p < length history = omega (
      arith,
      c.requires.process,
      ap
          (λ (v : CatalogueView). length v.processes) c.self.view_is,
    ) in
    omega (
      arith,
      c.requires.few,
      ap (λ (v : CatalogueView). length (tape_at v.processes p))
          c.self.view_is,
      checks_le (tape_at history p),
      (c.self.invariant.shown p within).count,
    )

pub append-requires-clause-named : goal.append-requires-clause-named
append-requires-clause-named c =
    let history : List Process = c.self.inside.ledger.processes in
    let seen : history
    ≡ c.args.self.now.processes = ap (λ (v : CatalogueView). v.processes) c.self.view_is in
    let within : c.args.p < length history = omega
    (arith, c.requires.process, ap (λ (xs : List Process). length xs) seen) in
    let long : length (present_at c.self.inside.rows.presents c.args.p)
    ≡ length c.args.self.now.processes = length-present history c.self.inside.marks
    c.self.inside.rows.rows c.self.inside.rows.presents c.args.p within c.self.invariant ∙ ap
    (λ (xs : List Process). length xs) seen in
    let lanes : ℕ = length (present_at c.self.inside.rows.presents c.args.p) in
    subst (λ k. NamesBelow k (Recv c.args.message.now)) (sym long) c.requires.from

pub invariant_of-self : goal.invariant_of-self
invariant_of-self c =
    let history : List Process = c.self.inside.ledger.processes in
    let marks : MarksView = c.self.inside.marks in
    let rows : List (List Row) = c.self.inside.rows.rows in
    let presents : List (List ℕ) = c.self.inside.rows.presents in
    let p : ℕ = c.args.p in
    let event : Event = Recv c.args.message.now in
    let seen : history
    ≡ c.args.self.now.processes = ap (λ (v : CatalogueView). v.processes) c.self.view_is in
    let within : p < length history = omega
    (arith, c.requires.process, ap (λ (xs : List Process). length xs) seen) in
    let named : NamesBelow (length history) event = subst
    (λ (xs : List Process). NamesBelow (length xs) event) (sym seen) c.requires.from in
    let next : AgreesNext history p event = subst (λ (xs : List Process). AgreesNext xs p event)
    (sym seen) c.requires.agrees in
    let tape_is : c.tape.result.now.events ≡ tape_at history p = c.tape.ensures.events ∙ ap
    (λ (v : HistoryView). tape_at v.processes p) c.history.ensures in
    let place : ℕ = length c.tape.result.now.events + 1 in
    let sent : ℕ = sends c.tape.result.now.events in
    let place_is : place
    ≡ length (tape_at history p) + 1 = ap (λ (es : List Event). length es + 1) tape_is in
    let sent_is : sent ≡ sends (tape_at history p) = ap sends tape_is in
    let present : List ℕ = present_at presents p in
    let rows_are : c.append.new.self.rows ≡ set rows p
    (with_row (rows_at rows p) (row_added place sent present event)) = c.append.ensures.rows in
    let presents_are : c.append.new.self.presents
    ≡ set presents p (vector_after_event present event) = c.append.ensures.presents in
    let grown : c.append_receipt.new.self.processes
    ≡ with_event history p event = c.append_receipt.ensures.processes in
    subst (λ (xs : List Process). IsCatalogue xs marks c.append.new.self.rows
    c.append.new.self.presents) (sym grown)
    (subst (λ (ys : List (List ℕ)). IsCatalogue
    (with_event history p event) marks c.append.new.self.rows ys) (sym presents_are)
    (subst (λ (xs : List (List Row)). IsCatalogue (with_event history p event) marks xs
    (set presents p (vector_after_event (present_at presents p) event))) (sym rows_are)
    (IsCatalogue-event history marks rows presents p within event place sent place_is sent_is named
    next c.self.invariant)))
