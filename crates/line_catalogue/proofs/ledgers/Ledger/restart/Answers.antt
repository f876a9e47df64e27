-- What was in transit at the line is left to look at, or each send is.
use Rattle.std.proofs.Common.{◌≡◌, ℕ, List, Option, Vec, Global, IfSome, length, sym, ap, ◌∙◌}
use Rattle.std.proofs.Common.{subst}
use Rattle.line_names.specs.declared.choices.Choice.{Choice}
use Rattle.line_names.specs.declared.messages.MsgName.{MsgName}
use Rattle.line_names.specs.Lines.{choice_at}
use Rattle.line_tape.specs.Front.{place}
use Rattle.line_tape.specs.History.{Process, tape_at}
use Rattle.line_tape.specs.Line.{IsConsistent}
use Rattle.line_tape.specs.Restart.{restarted_history}
use Rattle.line_tape.specs.Transit.{in_transit}
use Rattle.line_tape.specs.Views.{HistoryView}
use Rattle.line_catalogue.specs.Left.{AreClosed, AreLeft}
use Rattle.line_tape.proofs.StayLemmas.{length_restarted}
use Rattle.line_catalogue.proofs.LeftLemmas.{AreClosed-anew, AreClosed-restarted, AreLeft-anew}
use Rattle.line_catalogue.proofs.LeftLemmas.{AreLeft-restarted, place-present}
use Rattle.line_catalogue.proofs.ledgers.Ledger.restart.Goals as goal

pub invariant_of-self : goal.invariant_of-self
invariant_of-self c =
    let old : List Process = c.self.inside.history.processes in
    let line : List Choice = c.args.line.now in
    let starts : List ℕ = c.move_starts.new.starts.items in
    let places : List ℕ = c.move_places.new.places.items in
    let left : List MsgName = c.in-Some.left.items in
    let seen : old
    ≡ c.args.self.now.processes = ap (λ (v : HistoryView). v.processes) c.self.view_is in
    let enough : length line
    ≡ length old = c.requires.line.length_is ∙ sym (ap (λ (h : List Process). length h) seen) in
    let new : c.restart.new.self.processes
    ≡ restarted_history old line = c.restart.ensures.processes in
    let told : left
    ≡ in_transit old line = subst
    (λ (some : Option (Vec MsgName Global)). IfSome some
    (λ left. left.items ≡ in_transit c.args.self.now.processes line)) c.in-Some.is
    c.requires.left ∙ ap (λ (h : List Process). in_transit h line) (sym seen) in
    let are : AreLeft (restarted_history old line) starts places
    (in_transit old line) = AreLeft-restarted old line starts places enough
    c.move_starts.ensures.count
    (c.move_places.ensures.count ∙ ap (λ (h : List Process). length h) new)
    c.move_starts.ensures.starts
    (λ p. c.move_places.ensures.places p ∙ ap
    (λ (l : List Choice). place (tape_at c.restart.new.self.processes p) (choice_at l p))
    c.present_line-present.ensures.now ∙ place-present c.restart.new.self.processes p ∙ ap
    (λ (h : List Process). length (tape_at h p)) new) in
    let consistent : IsConsistent old line = subst (λ (h : List Process). IsConsistent h line)
    (sym seen) c.requires.consistent in
    record {
      held = subst (λ (h : List Process). AreLeft h starts places left) (sym new) (subst (λ (left :
          List MsgName). AreLeft (restarted_history old line) starts places left) (sym told) are);
      told = λ _. subst (λ (h : List Process). AreClosed h starts places) (sym new)
          (AreClosed-restarted old line starts places enough consistent
          c.move_starts.ensures.starts);
    }

pub move_places-requires-clause-count : goal.move_places-requires-clause-count
move_places-requires-clause-count c =
    let old : List Process = c.self.inside.history.processes in
    let line : List Choice = c.args.line.now in
    let seen : old
    ≡ c.args.self.now.processes = ap (λ (v : HistoryView). v.processes) c.self.view_is in
    let enough : length line
    ≡ length old = c.requires.line.length_is ∙ sym (ap (λ (h : List Process). length h) seen) in
    let same : length c.restart.new.self.processes ≡ length old = ap (λ (h : List Process). length
    h) c.restart.ensures.processes ∙ length_restarted old line enough in
    c.self.invariant.held.places_count ∙ sym same

pub invariant_of-self-in-None : goal.invariant_of-self-in-None
invariant_of-self-in-None c =
    let old : List Process = c.self-in-None.inside.history.processes in
    let line : List Choice = c.args.line.now in
    let new : List Process = c.restart-in-None.new.self.processes in
    let starts : List ℕ = c.clear_starts.new.starts.items in
    let places : List ℕ = c.clear_starts-in-None.new.starts.items in
    let seen : old ≡ c.args.self.now.processes = ap
    (λ (v : HistoryView). v.processes) c.self-in-None.view_is in
    let enough : length line
    ≡ length old = c.requires.line.length_is ∙ sym (ap (λ (h : List Process). length h) seen) in
    let same : length new ≡ length old = ap (λ (h : List Process). length h)
    c.restart-in-None.ensures.processes ∙ length_restarted old line enough in
    record {
      held = AreLeft-anew new starts places c.new.result.items
          (c.clear_starts.ensures.count ∙ c.self-in-None.invariant.held.count ∙ sym same)
          (c.clear_starts-in-None.ensures.count ∙ c.self-in-None.invariant.held.places_count ∙ sym
          same) c.clear_starts.ensures.starts c.clear_starts-in-None.ensures.starts
          c.new.ensures.items;
      told = λ _. AreClosed-anew new starts places c.clear_starts-in-None.ensures.starts;
    }
