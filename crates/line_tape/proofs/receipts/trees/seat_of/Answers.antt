-- Down the tree by the bits of the key.
use Rattle.std.proofs.Common.{◌≡◌, ◌≢◌, ◌≤◌, ◌-◌, ◌/◌, ℕ, suc, List, length, refl, sym, ap, ◌∙◌}
use Rattle.std.proofs.Common.{subst, arith}
use Rattle.std.proofs.lemmas.Bool.{false≢true}
use Rattle.line_names.specs.declared.messages.MsgName.{MsgName}
use Rattle.line_names.proofs.NameLemmas.{is_name-true, is_name-same}
use Rattle.line_tape.specs.declared.receipts.chains.Receipt.{Receipt}
use Rattle.line_tape.specs.Noted.{IsNode, key_of, name_of_receipt, name_at, next_down, rest_of_key}
use Rattle.line_tape.specs.Noted.{is_far, link_in_seat, link_by_key}
use Rattle.line_tape.proofs.SeatLemmas.{next_some, node_le, none_node, seat_found, seat_none}
use Rattle.line_tape.proofs.SeatLemmas.{walk_begins, walk_goes_on}
use Rattle.line_tape.proofs.receipts.trees.seat_of.Goals as goal

pub loop-link-init : goal.loop-link-init
loop-link-init c = (
  none_node c.args.receipts.now,
  refl,
  (
    0,
    refl,
    sym c.key-key.ensures,
    refl,
    walk_begins
        c.args.receipts.now c.args.root (name_of_receipt c.args.wanted.now) c.requires.tree,
  ),
)

pub bounds-receipts-link : goal.bounds-receipts-link
bounds-receipts-link c =
    let rs : List Receipt = c.args.receipts.now in
    let node : IsNode rs c.loop-link.link = subst (IsNode rs) c.loop-link.invariant.1
    (c.requires.tree.nodes c.loop-link.seat.above c.loop-link.seat.far c.loop-link.invariant.0)
    in
    let l : c.loop-link.link ≤ length rs = node_le rs c.loop-link.link node in
    omega arith

pub loop-link-preserved : goal.loop-link-preserved
loop-link-preserved c =
    let rs : List Receipt = c.args.receipts.now in
    let root : ℕ = c.args.root in
    let link : ℕ = c.loop-link.link in
    let m : MsgName = name_of_receipt c.args.wanted.now in
    let d : ℕ = c.loop-link.invariant.2.0 in
    let here : link_by_key rs root (key_of m) d ≡ link = c.loop-link.invariant.2.1 in
    let rest : rest_of_key (key_of m) d ≡ c.loop-link.key = c.loop-link.invariant.2.2 in
    let some : link ≢ 0 = c.loop-link-test.true in
    let node : IsNode rs link = subst (IsNode rs) c.loop-link.invariant.1 (c.requires.tree.nodes
    c.loop-link.seat.above c.loop-link.seat.far c.loop-link.invariant.0) in
    let other : (i : ℕ) → link ≡ suc i → name_at rs i ≢ m = λ i e same.
    let is : i ≡ link - 1 = omega arith in
    false≢true (sym c.if-is_of.false ∙ c.is_of.ensures ∙ is_name-same (name_at rs (link - 1)) m
    (subst (λ k. name_at rs k ≡ m) is same)) in (
      node,
      sym c.link_at-link.ensures,
      (
        suc d,
        ap (λ k. next_down rs root k (is_far (rest_of_key (key_of m) d))) here ∙ next_some rs root
            link (is_far (rest_of_key (key_of m) d)) some ∙ ap
            (λ k. link_in_seat rs root link (is_far k)) rest ∙ sym c.link_at-link.ensures,
        ap (λ k. k / 2) rest,
        (here, some, ap is_far (sym rest)),
        walk_goes_on rs root d link m here other c.loop-link.invariant.2.4,
      ),
    )

pub returns-then-is_of : goal.returns-then-is_of
returns-then-is_of c =
    let rs : List Receipt = c.args.receipts.now in
    let m : MsgName = name_of_receipt c.args.wanted.now in
    seat_found rs c.args.root c.loop-link.seat.above c.loop-link.link c.loop-link.invariant.2.0
    c.loop-link.seat.far m c.requires.tree c.loop-link.invariant.0 c.loop-link.invariant.1
    c.loop-link.invariant.2.3 c.loop-link-test.true
    (is_name-true (name_at rs (c.loop-link.link - 1)) m (sym c.is_of.ensures ∙ c.if-is_of.true))

pub returns : goal.returns
returns c =
    let none : c.loop-link.link ≡ 0 = omega arith in
    seat_none c.args.receipts.now c.args.root c.loop-link.seat.above c.loop-link.link
    c.loop-link.invariant.2.0 c.loop-link.seat.far
    (name_of_receipt c.args.wanted.now) c.requires.tree c.loop-link.invariant.0
    c.loop-link.invariant.1 c.loop-link.invariant.2.1 c.loop-link.invariant.2.3
    c.loop-link.invariant.2.4 none
