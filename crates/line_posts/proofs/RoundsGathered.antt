-- A round that is completed in what was gathered is one of the workers' own tapes.
use Rattle.std.proofs.Common.{zero, suc, ◌≡◌, ◌∙◌, ◌+◌, ◌<◌, ◌++◌, ◌∷◌, [], ℕ, Bool, true, List}
use Rattle.std.proofs.Common.{length, map, get_or, cond, refl, sym, ap, arith, subst}
use Rattle.std.specs.Prelude.{◌||◌, slice_index_or, Result, Ok, Err, IfOk}
use Rattle.std.specs.List.{range_with_len}
use Rattle.std.proofs.lemmas.List.{append_assoc, append-nil}
use Rattle.line_names.specs.declared.choices.Choice.TheVariants.{Check as AtCheck}
use Rattle.line_tape.specs.declared.events.Event.{Event}
use Rattle.line_tape.specs.Fit.{IsFitFifo}
use Rattle.line_tape.specs.Front.{front}
use Rattle.line_tape.specs.History.{Process, tape_at}
use Rattle.line_tape.specs.Line.{events_before}
use Rattle.line_tape.specs.Rounds.{channel_fifo, channel_on, check_line, check_index, checks_of}
use Rattle.line_tape.specs.Rounds.{has_check_of, has_mark_of, is_check_of, is_mark_of}
use Rattle.line_tape.specs.Rounds.{is_completed_fifo, names_from, IsSnapshot}
use Rattle.line_tape.specs.Transit.{names_received}
use Rattle.line_laws.proofs.CompletionLemmas.{check_of_push, closed_parts, closed_from}
use Rattle.line_laws.proofs.CompletionLemmas.{completed_closed, completed_from}
use Rattle.line_laws.proofs.GrowthLemmas.{has_check_push, has_mark_push, channel_push}
use Rattle.line_laws.proofs.RoundLines.{completed_checked, round_is_line, marker_snapshot}
use Rattle.line_tape.specs.Survival.{survives, IsLatest}
use Rattle.line_tape.specs.Views.{MarksView}
use Rattle.line_names.specs.declared.choices.Choice.{Choice}
use Rattle.line_names.specs.Lines.{IsNowhereLater}
use Rattle.line_laws.proofs.SnapshotLemmas.{transit_same, consistent_same, front_more, check_there}
use Rattle.line_laws.proofs.SnapshotLemmas.{latest_reached}
use Rattle.line_laws.proofs.KeptLemmas.{choice_of_checks}
use Rattle.line_posts.specs.Gathered.{HasOwn}

checked_more : (r : ℕ) (xs ys : List Event) → has_check_of r xs ≡ true
    → has_check_of r (xs ++ ys) ≡ true
checked_more r xs [] h = ap (has_check_of r) (append-nil xs) ∙ h
checked_more r xs (y ∷ ys) h =
    ap (has_check_of r) (sym (append_assoc xs (y ∷ []) ys)) ∙ checked_more r (xs ++ y ∷ []) ys
    (has_check_push xs y r ∙ ap (λ b. b || is_check_of r y) h)

check_more : (r : ℕ) (xs ys : List Event) → has_check_of r xs ≡ true
    → check_index r (xs ++ ys) ≡ check_index r xs
check_more r xs [] h = ap (check_index r) (append-nil xs)
check_more r xs (y ∷ ys) h =
    ap (check_index r) (sym (append_assoc xs (y ∷ []) ys))
    ∙ (check_more r (xs ++ y ∷ []) ys
    (has_check_push xs y r ∙ ap (λ b. b || is_check_of r y) h) ∙ check_of_push xs y r h)

mark_more : (p r : ℕ) (xs ys : List Event) → has_check_of r xs ≡ true → has_mark_of p r xs ≡ true
    → (has_mark_of p r (xs ++ ys) ≡ true) × (channel_on p r (xs ++ ys) ≡ channel_on p r xs)
mark_more p r xs [] h m =
    (ap (has_mark_of p r) (append-nil xs) ∙ m, ap (channel_on p r) (append-nil xs))
mark_more p r xs (y ∷ ys) h m =
    let here = has_check_push xs y r ∙ ap (λ b. b || is_check_of r y) h in
    let marked = has_mark_push xs y p r h ∙ ap (λ b. b || is_mark_of p r y) m in
    let same : channel_on p r (xs ++ y ∷ []) ≡ channel_on p r xs =
    channel_push xs y p r h ∙ (ap (λ b. channel_on p r xs ++ cond b []
    (names_from p (names_received (y ∷ [])))) m ∙ append-nil (channel_on p r xs)) in
    let (a, b) = mark_more p r (xs ++ y ∷ []) ys here marked in (
      ap (has_mark_of p r) (sym (append_assoc xs (y ∷ []) ys)) ∙ a,
      ap (channel_on p r)
          (sym (append_assoc xs (y ∷ []) ys)) ∙ (b ∙ same),
    )

range_same : (f g : ℕ → ℕ) (a n : ℕ) → ((v : ℕ) → v < a + n → f v ≡ g v)
    → map f (range_with_len a n) ≡ map g (range_with_len a n)
range_same f g a zero h = refl
range_same f g a (suc n) h =
    ap (λ t. t ∷ map f (range_with_len (a + 1) n)) (h a (omega arith)) ∙ ap
    (λ (t : List ℕ). g a ∷ t) (range_same f g (a + 1) n (λ v lt. h v (omega (arith, lt))))

module _ (gathered own : List Process) (r : ℕ) (fit : IsFitFifo own)
    (long : length gathered ≡ length own) (begins_own : (p : ℕ) → (lost : List Event) ×
    (tape_at own p ≡ tape_at gathered p ++ lost)) (done : is_completed_fifo gathered r ≡ true) where
  parts : (q : ℕ) → q < length gathered → (has_check_of r (tape_at gathered q) ≡ true)
      × ((p : ℕ) → p < length gathered → (p ≡ q → ⊥) → has_mark_of p r (tape_at gathered q) ≡ true)
  parts q lt = closed_parts gathered r q (completed_closed gathered r q done lt)

  own_done : is_completed_fifo own r ≡ true
  own_done = completed_from own r (λ q lt.
      let (lost, begins) = begins_own q in
      let (check, marks) = parts q (omega (arith, lt, long)) in
      closed_from own r q
      (ap (has_check_of r) begins ∙ checked_more r (tape_at gathered q) lost check)
      (λ p less ne. ap (has_mark_of p r) begins ∙ (mark_more p r (tape_at gathered q) lost check
      (marks p (omega (arith, less, long)) ne)).0))

  same_checks : checks_of own r ≡ checks_of gathered r
  same_checks =
      ap (λ n. map (λ q. check_index r (tape_at own q)) (range_with_len 0 n)) (sym long)
      ∙ range_same (λ q. check_index r (tape_at own q)) (λ q. check_index r (tape_at gathered q)) 0
      (length gathered) (λ q lt.
      let (lost, begins) = begins_own q in
      ap (check_index r) begins ∙ check_more r (tape_at gathered q) lost
      (parts q (omega (arith, lt))).0)

  same_fronts : (p : ℕ) → events_before gathered (check_line (checks_of gathered r)) p
      ≡ events_before own (check_line (checks_of gathered r)) p
  same_fronts p =
      let (lost, begins) = begins_own p in
      let idx = checks_of gathered r in
      let c : ℕ = get_or idx p 0 in
      let line = round_is_line gathered r (completed_checked gathered r done) in
      ap (front (tape_at gathered p)) (choice_of_checks idx p)
      ∙ (sym (front_more (tape_at gathered p) lost c (check_there gathered idx line p))
      ∙ (ap (λ t. front t (AtCheck c)) (sym begins) ∙ ap (front (tape_at own p))
      (sym (choice_of_checks idx p))))

  pub gathered_snapshot : IsSnapshot gathered (checks_of gathered r) (channel_fifo gathered r)
  gathered_snapshot =
      let snap : IsSnapshot own (checks_of gathered r) (channel_fifo own r) = subst
      (λ idx. IsSnapshot own idx (channel_fifo own r)) same_checks
      (marker_snapshot own r fit own_done) in
      record {
        line = round_is_line gathered r (completed_checked gathered r done);
        consistent = consistent_same own gathered
            (check_line (checks_of gathered r)) same_fronts snap.consistent;
        transit = λ p q lp lq ne.
            let (lost, begins) = begins_own q in
            let (check, marks) = parts q lq in
            sym (ap (channel_on p r) begins ∙
            (mark_more p r (tape_at gathered q) lost check (marks p lp ne)).1)
            ∙ (snap.transit p q (omega (arith, lp, long)) (omega (arith, lq, long)) ne
            ∙ sym (transit_same own gathered (check_line (checks_of gathered r)) same_fronts p q));
      }

-- a round that is completed in what was gathered is a snapshot there
pub rounds_hold : (failed : List Bool) (gathered : List Process) → HasOwn failed gathered → (r : ℕ)
    → is_completed_fifo gathered r ≡ true
    → IsSnapshot gathered (checks_of gathered r) (channel_fifo gathered r)
rounds_hold failed gathered has r done = gathered_snapshot gathered has.0 r has.1 has.2.count
    (λ q. ((has.2.begins q).0, sym (has.2.begins q).1)) done

-- where its checks survive, the latest line is nowhere before a completed round
pub rounds_reached : (failed : List Bool) (gathered : List Process) (marks : MarksView)
    (line : List Choice) → HasOwn failed gathered → IsLatest gathered marks failed line → (r : ℕ)
    → is_completed_fifo gathered r ≡ true
    → ((p : ℕ) → p < length gathered
    → survives gathered marks failed p (AtCheck (slice_index_or (checks_of gathered r) p 0))
    ≡ true) → IsNowhereLater (check_line (checks_of gathered r)) line
rounds_reached failed gathered marks line has latest r done surviving =
    latest_reached gathered marks failed line (checks_of gathered r)
    (channel_fifo gathered r) latest (rounds_hold failed gathered has r done) surviving

pub if_ok_then : {T E : Type 0} (r : Result T E) (P Q : T → Type 0) → ((x : T) → P x → Q x)
    → IfOk r P → IfOk r Q
if_ok_then (Ok x) P Q f h = f x h
if_ok_then (Err e) P Q f h = tt
