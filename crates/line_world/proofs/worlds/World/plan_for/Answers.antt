-- Not all members are below the number of processes where a further number is a member; and each
-- listed round is a snapshot, which the latest line reaches.
use Rattle.std.proofs.Common.{◌≡◌, ◌↔◌, ℕ, ◌+◌, ◌-◌, ◌<◌, Bool, true, false, List, length, drop}
use Rattle.std.proofs.Common.{get_or, refl, sym, ap, ◌∙◌, subst, arith, inl, inr}
use Rattle.std.specs.Prelude.{not, IsTrue}
use Rattle.std.specs.List.{All, list_any}
use Rattle.std.proofs.lemmas.Bool.{cases_lt, false≢true}
use Rattle.std.proofs.lemmas.Result.{err_from_is_err_and}
use Rattle.std.proofs.lemmas.List.{get_or-drop, get_or_default, get_or_past, length-drop}
use Rattle.std.proofs.lemmas.List.Elements.{All-weaker}
use Rattle.std.proofs.lemmas.List.Folds.{list_any_at, list_any_none}
use Rattle.line_names.specs.Sets.{is_member}
use Rattle.line_names.specs.declared.choices.Choice.{Choice}
use Rattle.line_tape.specs.History.{Process}
use Rattle.line_tape.specs.Views.{MarksView}
use Rattle.line_laws.proofs.SnapshotLemmas.{latest_reached}
use Rattle.line_moves.specs.Listed.{channel_in, IsReached, IsSnapshotOf}
use Rattle.line_world.specs.Machine.{Machine}
use Rattle.line_world.specs.Refusals.{has_stranger}
use Rattle.line_world.proofs.worlds.World.plan_for.Goals.{After-is_below}
use Rattle.line_world.proofs.worlds.World.plan_for.Goals as goal

abbrev after : List Bool → ℕ → Bool
after set n = list_any (λ (member : Bool). member) (drop n set)

told : (set : List Bool) (n : ℕ) (below : Bool)
    → IsTrue below ↔ ((q : ℕ) → IsTrue (is_member set q) → q < n) → not below ≡ after set n
told set n true says = sym (list_any_none (λ (member : Bool). member) (drop n set)
    (λ k d l. none k d l (get_or (drop n set) k d) refl))
  where
    none : (k : ℕ) (d : Bool) → k < length (drop n set) → (b : Bool) → get_or (drop n set) k d ≡ b
        → get_or (drop n set) k d ≡ false
    none k d l false e = e
    none k d l true e =
        let within : n + k < length set = omega (arith, l, length-drop n set) in
        let member : is_member set (n + k)
        ≡ true = get_or_default set (n + k) false d within ∙ sym (get_or-drop n set k d) ∙ e in
        let below : n + k < n = says.0 refl (n + k) member in
        absurd (omega arith)
told set n false says = go (after set n) refl
  where
    member_below : after set n ≡ false → (q : ℕ) → IsTrue (is_member set q) → q < n
    member_below e q member = elim (cases_lt q n) [
      | inl g ↦ g
      | inr g ↦ elim (cases_lt q (length set)) [
        | inl within ↦
            let is : n + (q - n) ≡ q = omega arith in
            let there : get_or (drop n set) (q - n) false
            ≡ true = get_or-drop n set (q - n) false ∙ ap (is_member set) is ∙ member in
            absurd (false≢true (sym e ∙ list_any_at (λ (member : Bool). member) (drop n set)
            (q - n) false (omega (arith, length-drop n set)) there))
        | inr past ↦ absurd (false≢true (sym (get_or_past set q false past) ∙ member))
      ]
    ]

    go : (b : Bool) → after set n ≡ b → true ≡ after set n
    go true e = sym e
    go false e = absurd (false≢true (says.1 (member_below e)))

stranger : (c : After-is_below)
    → not c.is_below.result ≡ has_stranger c.args.self.now c.args.failed.now
stranger c =
    let same : c.n.result ≡ length c.args.self.now.history = c.n.ensures.value ∙ ap
    (λ (m : Machine). length m.history) c.self.view_is in
    told c.args.failed.now c.n.result c.is_below.result c.is_below.ensures.value ∙ ap
    (after c.args.failed.now) same

pub returns-then-not-is_below-clause-stranger : goal.returns-then-not-is_below-clause-stranger
returns-then-not-is_below-clause-stranger c =
    let there : has_stranger c.args.self.now c.args.failed.now
    ≡ true = sym (stranger (goal.at.returns-then-not-is_below-clause-stranger c).After-is_below)
    ∙ ap not c.if-not-is_below.true in
    (λ _. there, λ _. refl)

pub returns-in_err-plan-clause-stranger : goal.returns-in_err-plan-clause-stranger
returns-in_err-plan-clause-stranger c =
    let none : has_stranger c.args.self.now c.args.failed.now
    ≡ false = sym (stranger (goal.at.returns-in_err-plan-clause-stranger c).After-is_below) ∙ ap
    not c.if-not-is_below.false in
    let passed = err_from_is_err_and c.from_residual.result c.from_residual.ensures.1 in
    rw (passed.1, passed.2) (λ same. absurd (cc), λ t. absurd (false≢true (sym none ∙ t)))

pub returns-clause-stranger : goal.returns-clause-stranger
returns-clause-stranger c =
    let none : has_stranger c.args.self.now c.args.failed.now ≡ false = sym (stranger
    (goal.at.returns-clause-stranger c).After-is_below) ∙ ap not c.if-not-is_below.false in
    (λ same. absurd (cc), λ t. absurd (false≢true (sym none ∙ t)))

pub returns-clause-rounds : goal.returns-clause-rounds
returns-clause-rounds c =
    let history : List Process = c.self.inside.catalogue.processes in
    let marks : MarksView = c.self.inside.catalogue.marks in
    let failed : List Bool = c.args.failed.now in
    let line : List Choice = c.in_ok-plan.plan.line in
    subst (λ (m : Machine). All (IsReached m.history m.marks failed line) m.rounds) c.self.view_is
    (All-weaker (IsSnapshotOf history) (IsReached history marks failed line)
    (λ round is surviving. latest_reached history marks failed line round.checks
    (channel_in round) c.in_ok-plan.ensures.latest is surviving) c.self.inside.rounds.items
    c.self.invariant.1.snapshots)
