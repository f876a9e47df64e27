-- The round that is looked for among listed rounds, and the floor at its checks.
use Rattle.std.proofs.Common.{◌≡◌, ℕ, zero, suc, ◌+◌, ◌<◌, Bool, true, false, cond, List, [], ◌∷◌}
use Rattle.std.proofs.Common.{length, drop, get_or, map, Option, None, Some, refl, sym, ap, ◌∙◌}
use Rattle.std.proofs.Common.{subst, arith}
use Rattle.std.specs.Prelude.{◌==◌, IsTrue}
use Rattle.std.specs.List.{All}
use Rattle.std.proofs.lemmas.Bool.{eq-eqb, ne_eqb}
use Rattle.std.proofs.lemmas.List.{drop_more}
use Rattle.std.proofs.lemmas.List.Elements.{All-cons, All-head, All-nil, All-tail}
use Rattle.line_names.specs.declared.choices.Choice.TheVariants.{Check as AtCheck, Now}
use Rattle.line_tape.specs.History.{Process}
use Rattle.line_tape.specs.Rounds.{check_line}
use Rattle.line_tape.specs.Survival.{survives}
use Rattle.line_tape.specs.Views.{MarksView}
use Rattle.line_laws.proofs.RoundLines.{in_range}
use Rattle.line_moves.specs.Listed.{ListedRound, check_in}
use Rattle.line_tape.specs.declared.modes.Mode.{Mode}
use Rattle.line_tape.specs.declared.modes.Mode.TheVariants.{Fifo, Unordered}
use Rattle.line_world.specs.Machine.{Machine, is_open}
use Rattle.line_world.specs.Sound.{IsSound}
use Rattle.line_cuts.specs.Cuts.{Floor, FloorSurvives}
use Rattle.line_live.specs.CutMachines.{MayForget}
use Rattle.line_live.specs.declared.refusals.ForgetError.{ForgetError}
use Rattle.line_cuts.specs.Floors.{check_index_of, floor_of_line, IsOfChecks}
use Rattle.line_live.specs.Forgets.{forget_refusal, idle_refusal, is_safe, listed_of, round_refusal}
use Rattle.line_live.specs.Forgets.{IsFloorOfRound, IsFloorWhereAllFail}

-- a round that is not the one, and one that is
pub not_here : (rounds : List ListedRound) (i number : ℕ) (d : ListedRound) → i < length rounds
    → ((get_or rounds i d).number ≡ number → ⊥)
    → listed_of (drop i rounds) number ≡ listed_of (drop (i + 1) rounds) number
not_here rounds i number d within other =
    ap (λ (xs : List ListedRound). listed_of xs number) (drop_more rounds i d within)
    ∙ ap (λ (b : Bool). cond b (Some (get_or rounds i d)) (listed_of (drop (i + 1) rounds) number))
    (ne_eqb (get_or rounds i d).number number other)

pub is_here : (rounds : List ListedRound) (i number : ℕ) (d : ListedRound) → i < length rounds
    → (get_or rounds i d).number ≡ number
    → listed_of (drop i rounds) number ≡ Some (get_or rounds i d)
is_here rounds i number d within same =
    ap (λ (xs : List ListedRound). listed_of xs number) (drop_more rounds i d within)
    ∙ ap (λ (b : Bool). cond b (Some (get_or rounds i d)) (listed_of (drop (i + 1) rounds) number))
    (eq-eqb (get_or rounds i d).number number same)

-- whether a check survives does not depend on who failed
pub whoever : (history : List Process) (marks : MarksView) (failed : List Bool) (p c : ℕ)
    → survives history marks failed p (AtCheck c) ≡ survives history marks [] p (AtCheck c)
whoever history marks failed p zero = refl
whoever history marks failed p (suc c) = refl

-- a line of checks is of checks
pub of_checks : (checks : List ℕ) → IsOfChecks (check_line checks)
of_checks [] = All-nil (λ choice. choice ≡ Now → ⊥)
of_checks (c ∷ checks) = All-cons (λ choice. choice ≡ Now → ⊥) (AtCheck c) (check_line checks)
    (λ e. cc) (of_checks checks)

pub indices_back : (checks : List ℕ) → map check_index_of (check_line checks) ≡ checks
indices_back [] = refl
indices_back (c ∷ checks) = ap (λ (cs : List ℕ). c ∷ cs) (indices_back checks)

-- where the checks of a round survive, so does the floor there
pub safe_floor : (machine : Machine) (round : ListedRound) → is_safe machine round ≡ true
    → FloorSurvives machine.history machine.marks
    (floor_of_line machine.history (check_line round.checks) machine.last_round)
safe_floor machine round safe p within =
    subst (λ (cs : List ℕ). IsTrue (survives machine.history machine.marks [] p
    (AtCheck (get_or cs p 0)))) (sym (indices_back round.checks))
    (in_range (λ (q : ℕ). survives machine.history machine.marks [] q (AtCheck (check_in round q)))
    0 (length machine.history) p safe (omega arith) (omega (arith, within)))

-- no round is open where nothing refuses, and links keep their order
pub idle_cases : (mode : Mode) (open_now : Bool) (later : Option ForgetError)
    → idle_refusal mode open_now later ≡ None → (mode ≡ Fifo) × (open_now ≡ false)
idle_cases Unordered open_now later none = absurd (cc)
idle_cases Fifo true later none = absurd (cc)
idle_cases Fifo false later none = (refl, refl)

-- a machine may let go what stands before a floor that is found
pub may_round : (machine : Machine) (number : ℕ) (floor : Floor) → IsSound machine
    → length machine.marks.damaged ≡ length machine.history → forget_refusal machine number ≡ None
    → IsFloorOfRound machine number floor → MayForget floor machine
may_round machine number floor sound marked none found =
    let idle = idle_cases machine.mode (is_open machine)
    (round_refusal machine (listed_of machine.rounds number)) none in
    record {
      mode = idle.0;
      sound = sound;
      marked = marked;
      idle = idle.1;
      last = ap
          (λ (f : Floor). f.round) found.at.value;
      is = found.at.is;
      stays = found.at.stays;
    }

pub may_line : (machine : Machine) (floor : Floor) → IsSound machine
    → length machine.marks.damaged ≡ length machine.history → idle_refusal machine.mode
    (is_open machine) None ≡ None → IsFloorWhereAllFail machine floor → MayForget floor machine
may_line machine floor sound marked none found =
    let idle = idle_cases machine.mode (is_open machine) None none in
    record {
      mode = idle.0;
      sound = sound;
      marked = marked;
      idle = idle.1;
      last = ap
          (λ (f : Floor). f.round) found.value;
      is = found.is;
      stays = found.stays;
    }

-- a listed round that is found is one of those that are listed
pub listed_one : (P : ListedRound → Type 0) (rounds : List ListedRound) (number : ℕ)
    (round : ListedRound) → All P rounds → listed_of rounds number ≡ Some round → P round
listed_one P [] number round all found = absurd (cc)
listed_one P (first ∷ rounds) number round all found =
    elim (first.number == number) as
    (λ b. cond b (Some first) (listed_of rounds number) ≡ Some round → P round) [
      | true ↦ λ e. let same : first ≡ round = cc in subst P same (All-head P first rounds all)
      | false ↦ λ e. listed_one P rounds number round (All-tail P first rounds all) e
    ] found
