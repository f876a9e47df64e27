-- What an event and a restart leave of a history that is cut.
use Rattle.std.proofs.Common.{◌≡◌, ℕ, zero, suc, ◌+◌, ◌<◌, ◌≤◌, true, false, cond, List, [], ◌∷◌}
use Rattle.std.proofs.Common.{◌++◌, length, None, refl, sym, ap, ◌∙◌, arith, inl, inr}
use Rattle.std.specs.Prelude.{nat_le, nat_lt}
use Rattle.std.specs.List.{filter_map}
use Rattle.std.proofs.lemmas.Bool.{cases_eq}
use Rattle.std.proofs.lemmas.List.{length-set, get_or-set_same, get_or-set_other}
use Rattle.std.proofs.lemmas.List.FromFn.{get_or-map-range_with_len}
use Rattle.line_names.specs.declared.choices.Choice.{Choice}
use Rattle.line_names.specs.declared.choices.Choice.TheVariants.{Check as AtCheck, Now}
use Rattle.line_names.specs.Lines.{choice_at, IsNowhereLater}
use Rattle.line_names.specs.Order.{IsNoLater}
use Rattle.line_tape.specs.declared.events.Event.{Event}
use Rattle.line_tape.specs.declared.events.Event.TheVariants.{Send, Recv, Check, Mark}
use Rattle.line_tape.specs.Event.{checks, sends}
use Rattle.line_tape.specs.Front.{front}
use Rattle.line_tape.specs.History.{Process, process_at, tape_at, fresh, with_event}
use Rattle.line_tape.specs.Restart.{restarted_event, restarted_incarnation, restarted_process}
use Rattle.line_tape.specs.Restart.{restarted_history}
use Rattle.line_cuts.specs.Cuts.{Floor, lost_sends, floor_check, floor_line, is_left, cut_name}
use Rattle.line_cuts.specs.Cuts.{cut_round, cut_events, cut_tape, cut_history, cut_choice}
use Rattle.line_cuts.specs.Cuts.{cut_event, cut_line}
use Rattle.line_cuts.proofs.ConsistentCuts.{tape_cut, choice_cut, above_at}
use Rattle.line_cuts.proofs.EventCuts.{front_left}
use Rattle.line_cuts.proofs.LatestCuts.{length_history, length_cut}

-- histories with the same process at each place are the same
pub same_history : (xs ys : List Process) → length xs ≡ length ys
    → ((p : ℕ) → p < length xs → process_at xs p ≡ process_at ys p) → xs ≡ ys
same_history [] [] long same = refl
same_history [] (y ∷ ys) long same = absurd (omega arith)
same_history (x ∷ xs) [] long same = absurd (omega arith)
same_history (x ∷ xs) (y ∷ ys) long same =
    ap (λ (v : Process). v ∷ xs) (same 0 (omega arith)) ∙ ap (λ (v : List Process). y ∷ v)
    (same_history xs ys (omega arith) (λ p h. same (suc p) (omega arith)))

-- a process of what is left
abbrev pub cut_process : Floor → ℕ → Process → Process
cut_process floor p process = record process { tape = cut_tape floor p process.tape }

pub process_cut : (floor : Floor) (history : List Process) (p : ℕ) → p < length history
    → process_at (cut_history floor history) p ≡ cut_process floor p (process_at history p)
process_cut floor history p within = get_or-map-range_with_len
    (λ q. record (process_at history q) { tape = cut_tape floor q (process_at history q).tape }) 0
    (length history) p p fresh within (omega arith)

module _ (floor : Floor) (p : ℕ) where
  -- one event more, where the floor is one of the tape's checks
  pub cut_append : (k skip : ℕ) (es more : List Event) → skip ≤ checks es
      → cut_events floor p k skip (es ++ more)
      ≡ cut_events floor p k skip es ++ cut_events floor p (k + sends es) zero more
  cut_append k zero [] more h =
      let same : k ≡ k + 0 = omega arith in ap (λ n. cut_events floor p n zero more) same
  cut_append k (suc skip) [] more h = absurd (omega arith)
  cut_append k skip (Send to inc body ∷ es) more h =
      let next : suc k + sends es ≡ k + suc (sends es) = omega arith in
      let ih : cut_events floor p (suc k) skip (es ++ more)
      ≡ cut_events floor p (suc k) skip es
      ++ cut_events floor p (k + suc (sends es)) zero more = cut_append (suc k) skip es more h ∙
      ap (λ n. cut_events floor p (suc k) skip es ++ cut_events floor p n zero more) next in
      elim (nat_le (lost_sends floor p) k) as
      (λ b. cond b (Send to inc body ∷ cut_events floor p (suc k) skip (es ++ more))
      (cut_events floor p (suc k) skip (es ++ more))
      ≡ cond b (Send to inc body ∷ cut_events floor p (suc k) skip es) (cut_events floor p
      (suc k) skip es) ++ cut_events floor p (k + suc (sends es)) zero more) [
        | true ↦ ap (λ (v : List Event). Send to inc body ∷ v) ih
        | false ↦ ih
      ]
  cut_append k skip (Recv m ∷ es) more h =
      let ih = cut_append k skip es more h in
      elim (is_left floor m) as
      (λ b. cond b (Recv (cut_name floor m) ∷ cut_events floor p k skip (es ++ more))
      (cut_events floor p k skip (es ++ more))
      ≡ cond b (Recv (cut_name floor m) ∷ cut_events floor p k skip es)
      (cut_events floor p k skip es) ++ cut_events floor p (k + sends es) zero more) [
        | true ↦ ap (λ (v : List Event). Recv (cut_name floor m) ∷ v) ih
        | false ↦ ih
      ]
  cut_append k zero (Check state round ∷ es) more h = ap (λ (v : List Event). Check state
      (cut_round floor.round round) ∷ v) (cut_append k zero es more (omega arith))
  cut_append k (suc zero) (Check state round ∷ es) more h = ap (λ (v : List Event). Check state
      (cut_round floor.round round) ∷ v) (cut_append k zero es more (omega arith))
  cut_append k (suc (suc skip)) (Check state round ∷ es) more h =
      cut_append k (suc skip) es more (omega arith)
  cut_append k skip (Mark from round ∷ es) more h =
      let ih = cut_append k skip es more h in
      elim (nat_lt floor.round round) as
      (λ b. cond b (Mark from round ∷ cut_events floor p k skip (es ++ more))
      (cut_events floor p k skip (es ++ more)) ≡ cond b (Mark from round ∷ cut_events floor p k
      skip es) (cut_events floor p k skip es) ++ cut_events floor p (k + sends es) zero more) [
        | true ↦ ap (λ (v : List Event). Mark from round ∷ v) ih
        | false ↦ ih
      ]

  -- a restart leaves the same of what is left
  pub cut_restarted : (k skip : ℕ) (es : List Event) → cut_events floor p k skip
      (filter_map restarted_event es) ≡ filter_map restarted_event (cut_events floor p k skip es)
  cut_restarted k skip [] = refl
  cut_restarted k skip (Send to inc body ∷ es) =
      elim (nat_le (lost_sends floor p) k) as
      (λ b. cond b
      (Send to inc body ∷ cut_events floor p (suc k) skip (filter_map restarted_event es))
      (cut_events floor p (suc k) skip (filter_map restarted_event es))
      ≡ filter_map restarted_event (cond b (Send to inc body
      ∷ cut_events floor p (suc k) skip es) (cut_events floor p (suc k) skip es))) [
        | true ↦ ap (λ (v : List Event). Send to inc body ∷ v) (cut_restarted (suc k) skip es)
        | false ↦ cut_restarted (suc k) skip es
      ]
  cut_restarted k skip (Recv m ∷ es) =
      elim (is_left floor m) as
      (λ b. cond b
      (Recv (cut_name floor m) ∷ cut_events floor p k skip (filter_map restarted_event es))
      (cut_events floor p k skip (filter_map restarted_event es))
      ≡ filter_map restarted_event (cond b (Recv (cut_name floor m)
      ∷ cut_events floor p k skip es) (cut_events floor p k skip es))) [
        | true ↦ ap (λ (v : List Event). Recv (cut_name floor m) ∷ v) (cut_restarted k skip es)
        | false ↦ cut_restarted k skip es
      ]
  cut_restarted k zero (Check state round ∷ es) =
      ap (λ (v : List Event). Check state None ∷ v) (cut_restarted k zero es)
  cut_restarted k (suc zero) (Check state round ∷ es) =
      ap (λ (v : List Event). Check state None ∷ v) (cut_restarted k zero es)
  cut_restarted k (suc (suc skip)) (Check state round ∷ es) = cut_restarted k (suc skip) es
  cut_restarted k skip (Mark from round ∷ es) =
      elim (nat_lt floor.round round) as
      (λ b. cut_events floor p k skip (filter_map restarted_event es)
      ≡ filter_map restarted_event (cond b (Mark from round ∷ cut_events floor p k skip es)
      (cut_events floor p k skip es))) [
        | true ↦ cut_restarted k skip es
        | false ↦ cut_restarted k skip es
      ]

-- a process goes on from a choice of a line
pub process_restarted : (history : List Process) (line : List Choice) (p : ℕ)
    → length line ≡ length history → p < length history → process_at
    (restarted_history history line) p ≡ restarted_process (process_at history p) (choice_at line p)
process_restarted [] line p e h = absurd (omega arith)
process_restarted (process ∷ rest) [] p e h = absurd (omega arith)
process_restarted (process ∷ rest) (choice ∷ line) zero e h = refl
process_restarted (process ∷ rest) (choice ∷ line) (suc p) e h =
    process_restarted rest line p (omega arith) (omega arith)

pub length_restarted : (history : List Process) (line : List Choice) → length line ≡ length history
    → length (restarted_history history line) ≡ length history
length_restarted [] line e = refl
length_restarted (process ∷ rest) [] e = absurd (omega arith)
length_restarted (process ∷ rest) (choice ∷ line) e =
    ap suc (length_restarted rest line (omega arith))

incarnation_cut : (floor : Floor) (p : ℕ) (c : Choice) (inc : ℕ)
    → restarted_incarnation (cut_choice floor p c) inc ≡ restarted_incarnation c inc
incarnation_cut floor p (AtCheck c) inc = refl
incarnation_cut floor p Now inc = refl

module _ (floor : Floor) (history : List Process) (line : List Choice)
    (above : IsNowhereLater (floor_line floor) line) (e : length line ≡ length history) where
  above_choice : (p : ℕ) → IsNoLater (AtCheck (floor_check floor p)) (choice_at line p)
  above_choice p = above_at floor history line above p

  -- to cut what a restart leaves is to restart what is left
  pub restart_cut : cut_history floor (restarted_history history line)
      ≡ restarted_history (cut_history floor history) (cut_line floor line)
  restart_cut =
      let count : length (cut_line floor line) ≡ length (cut_history floor history) = length_cut
      floor line ∙ e ∙ sym (length_history floor history) in
      same_history (cut_history floor (restarted_history history line))
      (restarted_history (cut_history floor history) (cut_line floor line))
      (length_history floor (restarted_history history line) ∙ length_restarted history line e ∙ sym
      (length_history floor history) ∙ sym
      (length_restarted (cut_history floor history) (cut_line floor line) count))
      (λ p h.
      let within : p < length history = omega (
        arith,
        length_history floor
            (restarted_history history line),
        length_restarted history line e,
      ) in
      let process : Process = process_at history p in
      let choice : Choice = choice_at line p in
      process_cut floor (restarted_history history line) p
      (omega (arith, length_restarted history line e))
      ∙ ap (cut_process floor p) (process_restarted history line p e within)
      ∙ ap (λ (es : List Event). record
      { incarnation = restarted_incarnation choice process.incarnation; tape = es })
      (cut_restarted floor p 0 (floor_check floor p) (front process.tape choice) ∙ ap (filter_map
      restarted_event) (sym (front_left floor p process.tape choice (above_choice p))))
      ∙ ap (λ (inc : ℕ). record {
        incarnation = inc;
        tape = filter_map restarted_event
            (front (cut_tape floor p process.tape) (cut_choice floor p choice));
      })
      (sym (incarnation_cut floor p choice process.incarnation))
      ∙ ap (restarted_process (cut_process floor p process)) (sym (choice_cut floor line p))
      ∙ ap (λ (v : Process). restarted_process v (choice_at (cut_line floor line) p))
      (sym (process_cut floor history p within))
      ∙ sym (process_restarted (cut_history floor history) (cut_line floor line) p count
      (omega (arith, length_history floor history))))

module _ (floor : Floor) (history : List Process) (at : ℕ) (event left : Event)
    (h : at < length history) (exists : floor_check floor at ≤ checks (tape_at history at))
    (is : cut_event floor history at event ≡ left ∷ []) where
  -- to cut what an event leaves is to add what is left of the event
  pub event_cut : cut_history floor (with_event history at event)
      ≡ with_event (cut_history floor history) at left
  event_cut =
      let new : Process = record
      (process_at history at) { tape = tape_at history at ++ event ∷ [] } in
      let there : Process = record (process_at (cut_history floor history) at)
      { tape = tape_at (cut_history floor history) at ++ left ∷ [] } in
      same_history (cut_history floor (with_event history at event))
      (with_event (cut_history floor history) at left)
      (length_history floor (with_event history at event) ∙ length-set history at new ∙ sym
      (length_history floor history) ∙ sym (length-set (cut_history floor history) at there))
      (λ p l.
      let within : p < length history = omega
      (arith, length_history floor (with_event history at event), length-set history at new) in
      process_cut floor (with_event history at event) p (omega (arith, length-set history at new))
      ∙ elim (cases_eq p at) [
        | inl same ↦
            let start : 0 + sends (tape_at history at) ≡ sends (tape_at history at) = omega arith in
            let tape : cut_tape floor at (tape_at history at ++ event ∷ [])
            ≡ tape_at (cut_history floor history) at ++ left ∷ [] =
            cut_append floor at 0 (floor_check floor at) (tape_at history at) (event ∷ []) exists
            ∙ ap (λ n. cut_tape floor at (tape_at history at)
            ++ cut_events floor at n zero (event ∷ [])) start
            ∙ ap (λ (v : List Event). cut_tape floor at (tape_at history at) ++ v) is
            ∙ ap (λ (v : List Event). v ++ left ∷ []) (sym (tape_cut floor history at)) in
            let now : process_at (cut_history floor history) at
            ≡ cut_process floor at (process_at history at) = process_cut floor history at h in
            ap (λ q. cut_process floor q (process_at (with_event history at event) q)) same
            ∙ ap (cut_process floor at) (get_or-set_same history at new fresh h)
            ∙ ap (λ (es : List Event). record
            { incarnation = (process_at history at).incarnation; tape = es }) tape
            ∙ ap (λ (n : ℕ). record {
              incarnation = n;
              tape = tape_at (cut_history floor history) at
                  ++ left ∷ [];
            }) (sym (ap (λ (v : Process). v.incarnation) now))
            ∙ sym (ap (λ q. process_at (with_event (cut_history floor history) at left) q) same ∙
            get_or-set_same (cut_history floor history) at there fresh
            (omega (arith, length_history floor history)))
        | inr other ↦
            ap (cut_process floor p) (get_or-set_other history at p new fresh other)
            ∙ sym (process_cut floor history p within)
            ∙ sym (get_or-set_other (cut_history floor history) at p there fresh other)
      ])
