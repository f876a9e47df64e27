-- A floor before which nothing stands changes nothing.
use Rattle.std.proofs.Common.{◌≡◌, ℕ, ◌+◌, ◌-◌, Bool, ◌&&◌, cond, List, [], ◌∷◌, length, map, max}
use Rattle.std.proofs.Common.{Option, Some, None, refl, sym, ap, ◌∙◌, subst, arith}
use Rattle.std.specs.Prelude.{nat_le}
use Rattle.std.proofs.lemmas.Bool.{lt-leb, le-ltb}
use Rattle.std.proofs.lemmas.List.FromFn.{length-map-range_with_len, get_or-map-range_with_len}
use Rattle.line_names.specs.declared.certificates.Passed.{Passed}
use Rattle.line_names.specs.declared.choices.Choice.{Choice}
use Rattle.line_names.specs.declared.choices.Choice.TheVariants.{Check as AtCheck, Now}
use Rattle.line_names.specs.declared.messages.MsgName.{MsgName}
use Rattle.line_names.specs.Lines.{choice_at}
use Rattle.line_plan.specs.declared.plans.Plan.{Plan}
use Rattle.line_tape.specs.declared.steps.Step.{Step}
use Rattle.line_tape.specs.declared.steps.Step.TheVariants.{Send, Deliver, Check, Begin, Turn}
use Rattle.line_tape.specs.declared.steps.Step.TheVariants.{Damage, Bar, Recover}
use Rattle.line_world.specs.declared.replies.Answer.{Answer}
use Rattle.line_world.specs.declared.replies.Answer.TheVariants.{Done, Refused}
use Rattle.line_world.specs.declared.replies.Reply.{Reply}
use Rattle.line_world.specs.declared.replies.Reply.TheVariants.{Sent, Took, Marked, Stale, Repeated}
use Rattle.line_world.specs.declared.replies.Reply.TheVariants.{Checked, Begun, Turned, Damaged}
use Rattle.line_world.specs.declared.replies.Reply.TheVariants.{Barred, Recovered}
use Rattle.line_world.specs.declared.replies.StepError.{StepError}
use Rattle.line_world.specs.declared.replies.StepError.TheVariants.{InitialDamage, NoSuchCheck}
use Rattle.line_world.specs.Machine.{Machine}
use Rattle.line_world.specs.Runs.{Takes}
use Rattle.line_cuts.specs.Cuts.{Floor, floor_check, lost_checks, lost_sends, whole_choice}
use Rattle.line_cuts.specs.Cuts.{whole_entry, whole_floor, whole_line, whole_name}
use Rattle.line_live.specs.CutMachines.{cut_step, whole_answer, whole_plan, whole_reply}
use Rattle.line_live.specs.Lived.{LetsNothingGo}
use Rattle.line_live.specs.Lives.{floor_refusal, IsAnsweredByKept, LiveMachine, TakesLive}
use Rattle.line_live.specs.Lives.{TakesUnless}
use Rattle.line_cuts.specs.Numbers.{mapped_in_place}
use Rattle.line_cuts.proofs.MappedItems.{mapped_same}
use Rattle.line_cuts.proofs.SameLists.{same_list}
use Rattle.line_cuts.proofs.WholeLemmas.{same_floors}

map_none : {X : Type 0} (f : X → X) → ((x : X) → f x ≡ x) → (xs : List X) → map f xs ≡ xs
map_none f same [] = refl
map_none {X} f same (x ∷ xs) = ap (λ (v : X). v ∷ map f xs) (same x) ∙ ap (λ (v : List X). x ∷ v)
    (map_none f same xs)

module _ (floor : Floor) (none : LetsNothingGo floor) where
  check_none : (p c : ℕ) → c + lost_checks floor p ≡ c
  check_none p c = omega (arith, (none p).0)

  less_none : (p c : ℕ) → c - lost_checks floor p ≡ c
  less_none p c = omega (arith, (none p).0)

  name_none : (m : MsgName) → whole_name floor m ≡ m
  name_none m = let same : m.number + lost_sends floor m.from
      ≡ m.number = omega (arith, (none m.from).1) in ap (λ
      (k : ℕ). let name : MsgName = record { from = m.from; inc = m.inc; number = k } in name) same

  choice_none : (p : ℕ) (choice : Choice) → whole_choice floor p choice ≡ choice
  choice_none p (AtCheck c) = let same : max (c + lost_checks floor p) (floor_check floor p)
      ≡ c = omega (arith, (none p).0) in ap (λ (k : ℕ). AtCheck k) same
  choice_none p Now = refl

  entry_none : (entry : Passed) → whole_entry floor entry ≡ entry
  entry_none entry =
      ap (λ (choice : Choice). let e : Passed = record {
        at = entry.at;
        choice = choice;
        message =
            whole_name floor entry.message;
      } in e) (choice_none entry.at entry.choice)
      ∙ ap (λ (m : MsgName). let e : Passed = record
      { at = entry.at; choice = entry.choice; message = m } in e) (name_none entry.message)

  line_none : (line : List Choice) → whole_line floor line ≡ line
  line_none line =
      let size : length (whole_line floor line) ≡ length line = length-map-range_with_len
      (λ p. whole_choice floor p (choice_at line p)) 0 (length line) in
      same_list (AtCheck 0) (whole_line floor line) line size (λ p h.
      get_or-map-range_with_len (λ q. whole_choice floor q (choice_at line q)) 0 (length line) p p
      (AtCheck 0) (omega (arith, h, size)) (omega arith)
      ∙ choice_none p (choice_at line p))

  pub plan_none : (plan : Plan) → whole_plan floor plan ≡ plan
  plan_none plan =
      ap (λ (line : List Choice). let p : Plan = record plan {
        line = line;
        certificate = mapped_in_place (whole_entry floor) plan.certificate;
        replays
            = mapped_in_place (whole_name floor) plan.replays;
      } in p) (line_none plan.line)
      ∙ ap (λ v. let p : Plan = record plan
      { certificate = v; replays = mapped_in_place (whole_name floor) plan.replays } in p)
      (mapped_same (whole_entry floor) plan.certificate
      (map_none (whole_entry floor) entry_none plan.certificate.items))
      ∙ ap (λ v. let p : Plan = record plan { replays = v } in p) (mapped_same (whole_name floor)
      plan.replays (map_none (whole_name floor) name_none plan.replays.items))

  reply_none : (reply : Reply) → whole_reply floor reply ≡ reply
  reply_none (Sent m) = ap (λ (n : MsgName). Sent n) (name_none m)
  reply_none (Took m forced) = ap (λ (n : MsgName). Took n forced) (name_none m)
  reply_none (Marked round forced) = refl
  reply_none (Stale m) = ap (λ (n : MsgName). Stale n) (name_none m)
  reply_none (Repeated m) = ap (λ (n : MsgName). Repeated n) (name_none m)
  reply_none (Checked at c) = ap (λ (k : ℕ). Checked at k) (check_none at c)
  reply_none (Begun at c round) = ap (λ (k : ℕ). Begun at k round) (check_none at c)
  reply_none (Turned at c round) = ap (λ (k : ℕ). Turned at k round) (check_none at c)
  reply_none (Damaged at c) = ap (λ (k : ℕ). Damaged at k) (check_none at c)
  reply_none (Barred at c) = ap (λ (k : ℕ). Barred at k) (check_none at c)
  reply_none (Recovered plan states incarnations) = ap (λ (v : Plan). Recovered
      (record plan { value = v }) states incarnations) (plan_none plan.value)

  pub answer_none : (answer : Answer) → whole_answer floor answer ≡ answer
  answer_none (Done reply) = ap (λ (r : Reply). Done r) (reply_none reply)
  answer_none (Refused e) = refl

  -- nor does it change a step, or refuse one
  pub step_none : (step : Step) → cut_step floor step ≡ step
  step_none (Send from to body) = refl
  step_none (Deliver from to pick state) = refl
  step_none (Check at state) = refl
  step_none (Begin at state) = refl
  step_none (Turn at state) = refl
  step_none (Damage at c) = ap (λ (k : ℕ). Damage at k) (less_none at c)
  step_none (Bar at c) = ap (λ (k : ℕ). Bar at k) (less_none at c)
  step_none (Recover failed) = refl

  pub refusal_none : (step : Step) → floor_refusal floor step ≡ None
  refusal_none (Send from to body) = refl
  refusal_none (Deliver from to pick state) = refl
  refusal_none (Check at state) = refl
  refusal_none (Begin at state) = refl
  refusal_none (Turn at state) = refl
  refusal_none (Damage at c) = ap (λ (b : Bool). cond (b && nat_le c (floor_check floor at))
      (Some InitialDamage) None) (lt-leb 1 (floor_check floor at) (omega (arith, (none at).0)))
  refusal_none (Bar at c) = ap (λ (b : Bool). cond b (Some NoSuchCheck) None)
      (le-ltb c (floor_check floor at) (omega (arith, (none at).0)))
  refusal_none (Recover failed) = refl

  -- so a machine that let nothing go answers as the world that it keeps
  pub takes_none : (kept new : Machine) (step : Step) (answer : Answer) → Takes kept step answer new
      → TakesLive (record { floor = floor; kept = kept }) step answer
      (record { floor = floor; kept = new })
  takes_none kept new step answer takes =
      let old : LiveMachine = record { floor = floor; kept = kept } in
      let after : LiveMachine = record { floor = floor; kept = new } in
      subst (λ (o : Option StepError). TakesUnless o old step answer after)
      (sym (refusal_none step)) (record {
        told = answer;
        takes = subst (λ (s : Step). Takes kept s answer new) (sym (step_none step)) takes;
        brought_back = sym (answer_none answer);
        floor_is = refl;
      })

  pub takes_kept : (old new : LiveMachine) (step : Step) (answer : Answer) → old.floor ≡ floor
      → IsAnsweredByKept old step answer new → Takes old.kept step answer new.kept
  takes_kept old new step answer same is =
      subst (λ (s : Step). Takes old.kept s answer new.kept)
      (ap (λ (f : Floor). cut_step f step) same ∙ step_none step)
      (subst (λ (a : Answer). Takes old.kept (cut_step old.floor step) a new.kept)
      (sym (is.brought_back ∙ ap
      (λ (f : Floor). whole_answer f is.told) same ∙ answer_none is.told)) is.takes)

  -- and a floor that is found then is counted from the beginning
  pub floor_none : (later : Floor) → whole_floor floor later ≡ later
  floor_none later =
      let f : ℕ → ℕ = λ p. floor_check later p + lost_checks floor p in
      let g : ℕ → ℕ = λ p. lost_sends floor p + lost_sends later p in
      let checks_size : length (whole_floor floor later).checks
      ≡ length later.checks = length-map-range_with_len f 0 (length later.checks) in
      let sends_size : length (whole_floor floor later).sends
      ≡ length later.sends = length-map-range_with_len g 0 (length later.sends) in
      same_floors (whole_floor floor later) later
      (same_list 0 (whole_floor floor later).checks later.checks checks_size (λ p h.
      get_or-map-range_with_len f 0 (length later.checks) p p 0 (omega (arith, h, checks_size))
      (omega arith) ∙ check_none p (floor_check later p)))
      (same_list 0 (whole_floor floor later).sends later.sends sends_size (λ p h.
      let same : lost_sends floor p + lost_sends later p
      ≡ lost_sends later p = omega (arith, (none p).1) in
      get_or-map-range_with_len g 0 (length later.sends) p p 0 (omega (arith, h, sends_size))
      (omega arith) ∙ same))
      refl
