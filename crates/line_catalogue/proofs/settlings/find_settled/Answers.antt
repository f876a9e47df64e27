-- One sender more.
use Rattle.std.proofs.Common.{◌≡◌, ◌<◌, ◌≤◌, ◌+◌, ◌++◌, ◌∷◌, [], List, ℕ, length, sym, ap, ◌∙◌}
use Rattle.std.proofs.Common.{subst, arith, inl, inr}
use Rattle.std.specs.Prelude.{Bool, IfSome, Option}
use Rattle.std.specs.List.{Contains}
use Rattle.std.proofs.lemmas.Bool.{cases_lt}
use Rattle.std.proofs.lemmas.List.Elements.{Contains-append_left}
use Rattle.std.proofs.lemmas.List.{get_or_append_left, get_or_default, get_or_push, length_push}
use Rattle.line_names.specs.declared.choices.Choice.{Choice}
use Rattle.line_names.specs.declared.messages.MsgName.{MsgName}
use Rattle.line_tape.specs.Event.{sends}
use Rattle.line_tape.specs.History.{Process}
use Rattle.line_tape.specs.Line.{events_before}
use Rattle.line_catalogue.specs.Known.{AreOldNoted}
use Rattle.line_catalogue.specs.Known.{AreReceived, AreMarksExact}
use Rattle.line_catalogue.specs.Left.{numbers_at, open_first, start_at, AreEnds, HasOpenBeside}
use Rattle.line_catalogue.specs.Left.{HaveLeft}
use Rattle.line_catalogue.proofs.KnownLemmas.{old-unreceived, row-received, row-told}
use Rattle.line_catalogue.proofs.LeftLemmas.{ends-more, has-open, have-open}
use Rattle.line_catalogue.proofs.OrderLemmas.{below-first, below-next, below-none, AreOpenBelow}
use Rattle.line_catalogue.proofs.settlings.find_settled.Goals as goal

pub loop-p-init : goal.loop-p-init
loop-p-init c = record {
  len = c.in_ok-moved.ensures.len;
  room = omega (arith, c.in_ok-moved.ensures.capacity);
  moved = ap (λ (xs : List ℕ). length xs) c.in_ok-moved.ensures.items;
  before = λ p. omega (arith, ap (λ (xs : List ℕ). start_at xs p) c.in_ok-moved.ensures.items);
  held = λ p l. absurd (omega (arith, l));
  below = subst
      (λ (xs : List MsgName). AreOpenBelow c.args.history.now.processes c.args.line.now xs 0 0) (sym
      c.in_ok-messages.ensures.items) (below-none c.args.history.now.processes c.args.line.now);
}

pub settle_sender-requires-clause-held : goal.settle_sender-requires-clause-held
settle_sender-requires-clause-held c =
    let history : List Process = c.args.history.now.processes in
    let line : List Choice = c.args.line.now in
    let s : ℕ = c.loop-p.p in
    let row : List ℕ = c.index.result.now in
    let ends : List ℕ = c.as_slice-ends.result.now in
    let end : ℕ = start_at ends s in
    let at : c.unwrap-id.result ≡ s = (rw c.unwrap-id.ensures at c.try_new.ensures).1 in
    let inside : s < length history = omega (arith, c.n-n.ensures.value) in
    let is : numbers_at c.in_ok-rows.rows.items s ≡ row = get_or_default c.in_ok-rows.rows.items s
    [] row (omega (arith, inside, c.in_ok-rows.ensures.count)) ∙ sym c.index.ensures in
    let are : AreEnds history c.args.kept.starts.now line ends = subst (AreEnds history
    c.args.kept.starts.now line) (sym c.as_slice-ends.ensures.value) c.in_ok-bounds.ensures in
    let left : List MsgName = c.args.kept.left.now in
    let beside : HasOpenBeside history line s end
    (numbers_at c.in_ok-rows.rows.items s) left = has-open history line c.args.kept.starts.now
    ends c.args.kept.places.now left c.in_ok-rows.rows.items s c.requires.left are
    c.in_ok-rows.ensures inside in
    subst (λ (k : ℕ). HasOpenBeside history line k end row left) (sym at)
    (subst (λ (r : List ℕ). HasOpenBeside history line s end r left) is beside)

pub settle_sender-requires-clause-sent : goal.settle_sender-requires-clause-sent
settle_sender-requires-clause-sent c =
    λ m among. let was = c.requires.left.each m among in (was.to, was.sent)

pub settle_sender-requires-clause-told : goal.settle_sender-requires-clause-told
settle_sender-requires-clause-told c =
    let history : List Process = c.args.history.now.processes in
    let line : List Choice = c.args.line.now in
    let s : ℕ = c.loop-p.p in
    let received = c.find_known-received.result in
    let at : c.unwrap-id.result ≡ s = (rw c.unwrap-id.ensures at c.try_new.ensures).1 in
    subst (λ (k : ℕ). AreMarksExact history line k c.base.result c.row.result.now
    c.args.kept.left.now) (sym at)
    (row-told history line c.args.kept.starts.now c.args.kept.places.now received.bases.items
    received.starts.items received.marks.items s c.base.result c.row.result.now
    c.find_known-received.ensures.known c.find_known-received.ensures.noted c.base.ensures
    c.row.ensures.within c.row.ensures.same c.args.kept.left.now c.requires.left)

pub settle_sender-requires-clause-known : goal.settle_sender-requires-clause-known
settle_sender-requires-clause-known c =
    let history : List Process = c.args.history.now.processes in
    let line : List Choice = c.args.line.now in
    let s : ℕ = c.loop-p.p in
    let received = c.find_known-received.result in
    let at : c.unwrap-id.result ≡ s = (rw c.unwrap-id.ensures at c.try_new.ensures).1 in
    let inside : s < length history = omega (arith, c.n-n.ensures.value) in
    subst (λ (k : ℕ). AreReceived history line k c.base.result c.row.result.now) (sym at)
    (row-received history line received.bases.items received.starts.items received.marks.items s
    c.base.result c.row.result.now c.find_known-received.ensures.known inside c.base.ensures
    c.row.ensures.marked)

pub settle_sender-requires-clause-quiet : goal.settle_sender-requires-clause-quiet
settle_sender-requires-clause-quiet c = λ on.
    let history : List Process = c.args.history.now.processes in
    let line : List Choice = c.args.line.now in
    let s : ℕ = c.loop-p.p in
    let left : List MsgName = c.args.kept.left.now in
    let received = c.find_known-received.result in
    let at : c.unwrap-id.result ≡ s = (rw c.unwrap-id.ensures at c.try_new.ensures).1 in
    let (senders, some, unnoted) = c.is_quiet.ensures on in
    old-unreceived history line c.args.kept.starts.now c.args.kept.places.now received.bases.items
    left senders c.unwrap-id.result c.base.result c.requires.left
    (subst (λ (found : Option (List Bool)). IfSome found (λ (set : List Bool). AreOldNoted history
    line c.args.kept.places.now received.bases.items left set)) some c.find_old-old.ensures)
    unnoted (c.base.ensures ∙ ap (start_at received.bases.items) (sym at))

pub loop-p-preserved : goal.loop-p-preserved
loop-p-preserved c =
    let history : List Process = c.args.history.now.processes in
    let line : List Choice = c.args.line.now in
    let s : ℕ = c.loop-p.p in
    let moved : List ℕ = c.loop-p.moved.items in
    let start : ℕ = c.in_ok-start.start in
    let messages : List MsgName = c.settle_sender.new.messages.items in
    let at : c.unwrap-id.result ≡ s = (rw c.unwrap-id.ensures at c.try_new.ensures).1 in
    let new : c.push_reserved.new.self.items
    ≡ moved ++ start ∷ [] = c.push_reserved.ensures.items in
    let older : List MsgName = c.loop-p.messages.items in
    let grown : messages ≡ older ++ open_first history line s start = c.in_ok-start.ensures.left ∙
    ap (λ (k : ℕ). older ++ open_first history line k start) at in
    let few : start ≤ sends (events_before history line s) = subst
    (λ (k : ℕ). start ≤ sends (events_before history line k)) at c.in_ok-start.ensures.before in
    let before : start ≤ sends (events_before history line (length moved)) = subst
    (λ k. start ≤ sends (events_before history line k))
    (at ∙ sym c.loop-p.invariant.moved) c.in_ok-start.ensures.before in
    record {
      moved = ap (λ (xs : List ℕ). length xs) new ∙ length_push moved start ∙ ap
          (λ (k : ℕ). k + 1) c.loop-p.invariant.moved;
      len = omega (arith, c.push_reserved.ensures.len, c.loop-p.invariant.len);
      room = omega (arith, c.push_reserved.ensures.capacity, c.loop-p.invariant.room);
      before = λ p. subst (λ (xs : List ℕ). start_at xs p ≤ sends (events_before history line p))
          (sym new) (ends-more (λ (k : ℕ). sends (events_before history line k)) moved start
          c.loop-p.invariant.before before p);
      held = λ p l. subst (λ (xs : List ℕ). HaveLeft history line p (start_at xs p) messages)
          (sym new) (elim (cases_lt p s) [
            | inl earlier ↦
                let old : start_at (moved ++ start ∷ []) p
                ≡ start_at moved p = get_or_append_left moved
                (start ∷ []) 0 p (omega (arith, earlier, c.loop-p.invariant.moved)) in
                subst (λ k. HaveLeft history line p k messages) (sym old)
                (λ q m from low sent unseen. subst (λ (xs : List MsgName). Contains xs m)
                (sym grown) (Contains-append_left older (open_first history line s start) m
                (c.loop-p.invariant.held p earlier q m from low sent unseen)))
            | inr here ↦
                let same : s ≡ p = omega (arith, l) in
                let last : start_at (moved ++ start ∷ []) p
                ≡ start = get_or_push moved start 0 p (c.loop-p.invariant.moved ∙ same) in
                subst (λ k. HaveLeft history line p k messages) (sym last)
                (subst (λ k. HaveLeft history line k start messages) same (subst (HaveLeft history
                line s start) (sym grown) (have-open history line s start older few)))
          ]);
      below = subst (λ (xs : List MsgName). AreOpenBelow history line xs (s + 1) 0) (sym grown)
          (below-next history line (older ++ open_first history line s start) s start
          (below-first history line older s start few c.loop-p.invariant.below));
    }

pub returns : goal.returns
returns c =
    let all : c.loop-p.p
    ≡ length c.args.history.now.processes = omega (arith, c.n-n.ensures.value) in
    record {
      count = c.loop-p.invariant.moved ∙ all;
      before = c.loop-p.invariant.before;
      held = λ p l. c.loop-p.invariant.held p (omega (arith, l, all));
      order = c.loop-p.invariant.below.order;
      each = c.loop-p.invariant.below.each;
    }
