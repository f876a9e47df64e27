-- One sender more: what is to be looked at has all that is in transit.
use Rattle.std.proofs.Common.{◌≡◌, ◌<◌, ◌+◌, ◌++◌, ◌∷◌, [], List, ℕ, suc, length, map, refl, sym}
use Rattle.std.proofs.Common.{ap, ◌∙◌, subst, arith}
use Rattle.std.specs.Prelude.{Bool, IfSome, Option}
use Rattle.std.specs.List.{flat_map, range_with_len}
use Rattle.std.proofs.lemmas.List.{flat_map_more, get_or_default}
use Rattle.line_names.specs.declared.choices.Choice.{Choice}
use Rattle.line_names.specs.declared.messages.MsgName.{MsgName}
use Rattle.line_tape.specs.History.{Process}
use Rattle.line_tape.specs.Transit.{Letter, open_letters}
use Rattle.line_tape.proofs.TransitLemmas.{range-push}
use Rattle.line_catalogue.specs.Known.{AreOldNoted}
use Rattle.line_catalogue.specs.Known.{AreReceived, AreMarksExact, AreMarksExactSince}
use Rattle.line_catalogue.specs.Left.{numbers_at, open_first, start_at, AreEnds, HasOpenBeside}
use Rattle.line_catalogue.proofs.KnownLemmas.{old-unreceived, row-received, row-told}
use Rattle.line_catalogue.proofs.KnownLemmas.{row-told-since}
use Rattle.line_catalogue.proofs.LeftLemmas.{has-open}
use Rattle.line_catalogue.proofs.OpenLemmas.{open-all}
use Rattle.line_catalogue.proofs.transits.find_transit.Goals as goal

pub loop-p-init : goal.loop-p-init
loop-p-init c = c.in_ok-messages.ensures.items

pub add_first-requires-clause-held : goal.add_first-requires-clause-held
add_first-requires-clause-held c =
    let history : List Process = c.args.history.now.processes in
    let line : List Choice = c.args.line.now in
    let s : ℕ = c.loop-p.p in
    let row : List ℕ = c.index.result.now in
    let ends : List ℕ = c.as_slice-ends.result.now in
    let end : ℕ = start_at ends s in
    let at : c.unwrap-id.result ≡ s = (rw c.unwrap-id.ensures at c.try_new.ensures).1 in
    let inside : s < length history = omega (arith, c.n-n.ensures.value) in
    let is : numbers_at c.in_ok-rows.rows.items s ≡ row = get_or_default c.in_ok-rows.rows.items s
    [] row (omega (arith, inside, c.in_ok-rows.ensures.count)) ∙ sym c.index.ensures in
    let are : AreEnds history c.args.kept.starts.now line ends = subst (AreEnds history
    c.args.kept.starts.now line) (sym c.as_slice-ends.ensures.value) c.in_ok-bounds.ensures in
    let left : List MsgName = c.args.kept.left.now in
    let beside : HasOpenBeside history line s end
    (numbers_at c.in_ok-rows.rows.items s) left = has-open history line c.args.kept.starts.now
    ends c.args.kept.places.now left c.in_ok-rows.rows.items s c.requires.left are
    c.in_ok-rows.ensures inside in
    subst (λ (k : ℕ). HasOpenBeside history line k end row left) (sym at)
    (subst (λ (r : List ℕ). HasOpenBeside history line s end r left) is beside)

pub add_first-requires-clause-sent : goal.add_first-requires-clause-sent
add_first-requires-clause-sent c =
    λ m among. let was = c.requires.left.each m among in (was.to, was.sent)

pub add_first-requires-clause-told : goal.add_first-requires-clause-told
add_first-requires-clause-told c =
    let history : List Process = c.args.history.now.processes in
    let line : List Choice = c.args.line.now in
    let s : ℕ = c.loop-p.p in
    let received = c.find_known-received.result in
    let at : c.unwrap-id.result ≡ s = (rw c.unwrap-id.ensures at c.try_new.ensures).1 in
    subst (λ (k : ℕ). AreMarksExact history line k c.base.result c.row.result.now
    c.args.kept.left.now) (sym at)
    (row-told history line c.args.kept.starts.now c.args.kept.places.now received.bases.items
    received.starts.items received.marks.items s c.base.result c.row.result.now
    c.find_known-received.ensures.known c.find_known-received.ensures.noted c.base.ensures
    c.row.ensures.within c.row.ensures.same c.args.kept.left.now c.requires.left)

pub add_first-requires-clause-quiet : goal.add_first-requires-clause-quiet
add_first-requires-clause-quiet c = λ on.
    let history : List Process = c.args.history.now.processes in
    let line : List Choice = c.args.line.now in
    let s : ℕ = c.loop-p.p in
    let left : List MsgName = c.args.kept.left.now in
    let received = c.find_known-received.result in
    let at : c.unwrap-id.result ≡ s = (rw c.unwrap-id.ensures at c.try_new.ensures).1 in
    let (senders, some, unnoted) = c.is_quiet.ensures on in
    old-unreceived history line c.args.kept.starts.now c.args.kept.places.now received.bases.items
    left senders c.unwrap-id.result c.base.result c.requires.left
    (subst (λ (found : Option (List Bool)). IfSome found (λ (set : List Bool). AreOldNoted history
    line c.args.kept.places.now received.bases.items left set)) some c.find_old-old.ensures)
    unnoted (c.base.ensures ∙ ap (start_at received.bases.items) (sym at))

pub add_since-requires-clause-known : goal.add_since-requires-clause-known
add_since-requires-clause-known c =
    let history : List Process = c.args.history.now.processes in
    let line : List Choice = c.args.line.now in
    let s : ℕ = c.loop-p.p in
    let received = c.find_known-received.result in
    let at : c.unwrap-id.result ≡ s = (rw c.unwrap-id.ensures at c.try_new.ensures).1 in
    let inside : s < length history = omega (arith, c.n-n.ensures.value) in
    subst (λ (k : ℕ). AreReceived history line k c.base.result c.row.result.now) (sym at)
    (row-received history line received.bases.items received.starts.items received.marks.items s
    c.base.result c.row.result.now c.find_known-received.ensures.known inside c.base.ensures
    c.row.ensures.marked)

pub add_since-requires-clause-told : goal.add_since-requires-clause-told
add_since-requires-clause-told c = λ on.
    let history : List Process = c.args.history.now.processes in
    let line : List Choice = c.args.line.now in
    let s : ℕ = c.loop-p.p in
    let starts : List ℕ = c.args.kept.starts.now in
    let ends : List ℕ = c.as_slice-ends.result.now in
    let received = c.find_known-received.result in
    let at : c.unwrap-id.result ≡ s = (rw c.unwrap-id.ensures at c.try_new.ensures).1 in
    let are : AreEnds history starts line ends = subst (AreEnds history starts line)
    (sym c.as_slice-ends.ensures.value) c.in_ok-bounds.ensures in
    subst (λ (k : ℕ). AreMarksExactSince history line k
    (start_at ends s) c.base.result c.row.result.now) (sym at)
    (row-told-since history line starts c.args.kept.places.now received.bases.items
    received.starts.items received.marks.items s c.base.result c.row.result.now
    c.find_known-received.ensures.known c.find_known-received.ensures.noted c.base.ensures
    c.row.ensures.within c.row.ensures.same ends (c.requires.closed on) are)

pub loop-p-preserved : goal.loop-p-preserved
loop-p-preserved c =
    let history : List Process = c.args.history.now.processes in
    let line : List Choice = c.args.line.now in
    let of : ℕ → List MsgName = λ p. map (λ (letter : Letter). letter.message)
    (open_letters history line p) in
    let s : ℕ = c.loop-p.p in
    let p : ℕ = c.unwrap-id.result in
    let at : p ≡ s = (rw c.unwrap-id.ensures at c.try_new.ensures).1 in
    let older : List MsgName = c.loop-p.messages.items in
    let whole : open_first history line p c.in_ok-add_since.field-0 ≡ of p = ap (open_first history
    line p) (c.in_ok-add_since.ensures.all refl) ∙ open-all history line p in
    let more : s + 1 ≡ suc s = omega arith in
    let last : 0 + s ≡ s = omega arith in
    let next : range_with_len 0 (s + 1) ≡ range_with_len 0 s ++ s ∷ [] = ap
    (range_with_len 0) more ∙ range-push s 0 ∙ ap (λ x. range_with_len 0 s ++ x ∷ []) last in
    c.in_ok-add_since.ensures.found older c.in_ok-add_first.ensures ∙ ap
    (λ xs. older ++ xs) whole ∙ ap (λ k. older ++ of k) at ∙ ap
    (λ xs. xs ++ of s) c.loop-p.invariant ∙ flat_map_more of [] (range_with_len 0 s) s ∙ ap
    (flat_map of) (sym next)

pub returns : goal.returns
returns c =
    let of : ℕ → List MsgName = λ p. map (λ (letter : Letter). letter.message)
    (open_letters c.args.history.now.processes c.args.line.now p) in
    let all : c.loop-p.p
    ≡ length c.args.history.now.processes = omega (arith, c.n-n.ensures.value) in
    c.loop-p.invariant ∙ ap (λ k. flat_map of (range_with_len 0 k)) all
