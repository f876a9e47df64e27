-- What is left of an event of each kind, and how it is added.
use Rattle.std.proofs.Common.{◌≡◌, ℕ, zero, suc, ◌+◌, ◌-◌, ◌<◌, ◌≤◌, Bool, true, false, cond, List}
use Rattle.std.proofs.Common.{[], ◌∷◌, ◌++◌, length, Option, refl, sym, ap, ◌∙◌, append_assoc, drop}
use Rattle.std.proofs.Common.{Some, arith}
use Rattle.std.specs.List.{slice_get}
use Rattle.std.proofs.lemmas.Option.{get_or_from_slice_get, slice_get_within}
use Rattle.std.proofs.lemmas.Bool.{le-leb, lt-leb, lt-ltb, le-ltb}
use Rattle.std.proofs.lemmas.List.{length_push, length-set, drop_more}
use Rattle.line_names.specs.declared.messages.MsgName.{MsgName}
use Rattle.line_tape.specs.declared.events.Event.{Event}
use Rattle.line_tape.specs.declared.events.Event.TheVariants.{Send, Recv, Check, Mark}
use Rattle.line_tape.specs.Event.{checks, sends}
use Rattle.line_tape.specs.History.{Process, process_at, tape_at, incarnation_at, with_event}
use Rattle.line_catalogue.proofs.AgreementLemmas.{process-here, process-other, tape-here}
use Rattle.line_cuts.specs.Cuts.{Floor, lost_sends, is_left, cut_name, cut_round, cut_events}
use Rattle.line_cuts.specs.Left.{AddsLeft}

-- what is left of what comes after the event
abbrev pub left_after : Floor → ℕ → ℕ → ℕ → Event → List Event → List Event
left_after floor p number skip event rest =
    cut_events floor p (number + sends (event ∷ [])) (skip - checks (event ∷ [])) rest

module _ (floor : Floor) (p number skip : ℕ) (event : Event) (old new : List Process) where
  -- nothing is left of the event, and nothing is added
  pub adds_none : new ≡ old
      → ((rest : List Event) → cut_events floor p number skip (event ∷ rest)
      ≡ left_after floor p number skip event rest)
      → AddsLeft floor p number skip event old new
  adds_none same gone = record {
    tape = λ rest.
        ap (λ (h : List Process). tape_at h p ++ left_after floor p number skip event rest) same
        ∙ ap (λ (xs : List Event). tape_at old p ++ xs) (sym (gone rest));
    few = omega (arith, ap (λ (h : List Process). length (tape_at h p)) same);
    count = ap (λ (h : List Process). length h) same;
    incarnation = ap (λ (h : List Process). incarnation_at h p) same;
    others = λ q apart. ap (λ (h : List Process). process_at h q) same;
  }

  -- one event is left, and is added
  pub adds_one : (left : Event) → p < length old → new ≡ with_event old p left
      → ((rest : List Event) → cut_events floor p number skip (event ∷ rest)
      ≡ left ∷ left_after floor p number skip event rest)
      → AddsLeft floor p number skip event old new
  adds_one left within same kept =
      let tape_is : tape_at new p ≡ tape_at old p ++ left
      ∷ [] = ap (λ (h : List Process). tape_at h p) same ∙ tape-here old p left within p refl in
      record {
        tape = λ rest.
            ap (λ (xs : List Event). xs ++ left_after floor p number skip event rest) tape_is
            ∙ append_assoc (tape_at old p) (left ∷ []) (left_after floor p number skip event rest)
            ∙ ap (λ (xs : List Event). tape_at old p ++ xs) (sym (kept rest));
        few = omega (
          arith,
          ap (λ (xs : List Event). length xs) tape_is,
          length_push
              (tape_at old p) left,
        );
        count = ap (λ (h : List Process). length h) same ∙ length-set old p
            (record (process_at old p) { tape = tape_at old p ++ left ∷ [] });
        incarnation = ap (λ (h : List Process). incarnation_at h p) same ∙ ap
            (λ (v : Process). v.incarnation) (process-here old p left within p refl);
        others = λ q apart. ap
            (λ (h : List Process). process_at h q) same ∙ process-other old p left within q apart;
      }

module _ (floor : Floor) (p : ℕ) where
  pub same_place : (rest : List Event) (n m s t : ℕ) → n ≡ m → s ≡ t
      → cut_events floor p n s rest ≡ cut_events floor p m t rest
  same_place rest n m s t a b =
      ap (λ (x : ℕ). cut_events floor p x s rest) a ∙ ap (λ (x : ℕ). cut_events floor p m x rest) b

  pub send_left : (number skip to inc : ℕ) (body : List ℕ) → lost_sends floor p ≤ number
      → (rest : List Event)
      → cut_events floor p number skip (Send to inc body ∷ rest)
      ≡ Send to inc body ∷ left_after floor p number skip (Send to inc body) rest
  send_left number skip to inc body h rest =
      ap (λ (b : Bool). cond b (Send to inc body ∷ cut_events floor p (suc number) skip rest)
      (cut_events floor p (suc number) skip rest)) (le-leb (lost_sends floor p) number h)
      ∙ ap (λ (xs : List Event). Send to inc body ∷ xs)
      (same_place rest (suc number) (number + 1) skip (skip - 0) (omega arith) (omega arith))

  pub send_gone : (number skip to inc : ℕ) (body : List ℕ) → number < lost_sends floor p
      → (rest : List Event)
      → cut_events floor p number skip (Send to inc body ∷ rest)
      ≡ left_after floor p number skip (Send to inc body) rest
  send_gone number skip to inc body h rest =
      ap (λ (b : Bool). cond b (Send to inc body ∷ cut_events floor p (suc number) skip rest)
      (cut_events floor p (suc number) skip rest)) (lt-leb (lost_sends floor p) number h)
      ∙ same_place rest (suc number) (number + 1) skip (skip - 0) (omega arith) (omega arith)

  pub receipt_left : (number skip : ℕ) (m : MsgName) → is_left floor m ≡ true → (rest : List Event)
      → cut_events floor p number skip (Recv m ∷ rest)
      ≡ Recv (cut_name floor m) ∷ left_after floor p number skip (Recv m) rest
  receipt_left number skip m h rest =
      ap (λ (b : Bool). cond b (Recv (cut_name floor m) ∷ cut_events floor p number skip rest)
      (cut_events floor p number skip rest)) h
      ∙ ap (λ (xs : List Event). Recv (cut_name floor m) ∷ xs)
      (same_place rest number (number + 0) skip (skip - 0) (omega arith) (omega arith))

  pub receipt_gone : (number skip : ℕ) (m : MsgName) → is_left floor m ≡ false → (rest : List Event)
      → cut_events floor p number skip (Recv m ∷ rest)
      ≡ left_after floor p number skip (Recv m) rest
  receipt_gone number skip m h rest =
      ap (λ (b : Bool). cond b (Recv (cut_name floor m) ∷ cut_events floor p number skip rest)
      (cut_events floor p number skip rest)) h
      ∙ same_place rest number (number + 0) skip (skip - 0) (omega arith) (omega arith)

  pub check_left : (number skip : ℕ) (state : List ℕ) (round : Option ℕ) → skip ≤ 1
      → (rest : List Event)
      → cut_events floor p number skip (Check state round ∷ rest) ≡ Check state
      (cut_round floor.round round) ∷ left_after floor p number skip (Check state round) rest
  check_left number zero state round h rest =
      ap (λ (xs : List Event). Check state (cut_round floor.round round) ∷ xs)
      (same_place rest number (number + 0) zero (zero - 1) (omega arith) (omega arith))
  check_left number (suc zero) state round h rest =
      ap (λ (xs : List Event). Check state (cut_round floor.round round) ∷ xs)
      (same_place rest number (number + 0) zero (suc zero - 1) (omega arith) (omega arith))
  check_left number (suc (suc skip)) state round h rest = absurd (omega arith)

  pub check_gone : (number skip : ℕ) (state : List ℕ) (round : Option ℕ) → 1 < skip
      → (rest : List Event)
      → cut_events floor p number skip (Check state round ∷ rest)
      ≡ left_after floor p number skip (Check state round) rest
  check_gone number zero state round h rest = absurd (omega arith)
  check_gone number (suc zero) state round h rest = absurd (omega arith)
  check_gone number (suc (suc skip)) state round h rest = same_place rest number (number + 0)
      (suc skip) (suc (suc skip) - 1) (omega arith) (omega arith)

  pub mark_left : (number skip from round : ℕ) → floor.round < round → (rest : List Event)
      → cut_events floor p number skip (Mark from round ∷ rest)
      ≡ Mark from round ∷ left_after floor p number skip (Mark from round) rest
  mark_left number skip from round h rest =
      ap (λ (b : Bool). cond b (Mark from round ∷ cut_events floor p number skip rest)
      (cut_events floor p number skip rest)) (lt-ltb floor.round round h)
      ∙ ap (λ (xs : List Event). Mark from round ∷ xs)
      (same_place rest number (number + 0) skip (skip - 0) (omega arith) (omega arith))

  pub mark_gone : (number skip from round : ℕ) → round ≤ floor.round → (rest : List Event)
      → cut_events floor p number skip (Mark from round ∷ rest)
      ≡ left_after floor p number skip (Mark from round) rest
  mark_gone number skip from round h rest =
      ap (λ (b : Bool). cond b (Mark from round ∷ cut_events floor p number skip rest)
      (cut_events floor p number skip rest)) (le-ltb floor.round round h)
      ∙ same_place rest number (number + 0) skip (skip - 0) (omega arith) (omega arith)

-- the tape grows by what is left of the next event
pub tape_next : (floor : Floor) (p i number skip n s : ℕ) (events whole : List Event) (item : Event)
    (old new : List Process)
    → slice_get events i ≡ Some item → AddsLeft floor p number skip item old new
    → n ≡ number + sends (item ∷ []) → s ≡ skip - checks (item ∷ [])
    → tape_at old p ++ cut_events floor p number skip (drop i events) ≡ whole
    → tape_at new p ++ cut_events floor p n s (drop (i + 1) events) ≡ whole
tape_next floor p i number skip n s events whole item old new at adds n_is s_is so_far =
    let within : i < length events = slice_get_within events i item at in
    let rest : List Event = drop (i + 1) events in
    let parted : drop i events ≡ item ∷ rest = drop_more events i item within ∙ ap
    (λ (x : Event). x ∷ rest) (get_or_from_slice_get events i item item at) in
    ap (λ (xs : List Event). tape_at new p ++ xs) (same_place floor p rest n
    (number + sends (item ∷ [])) s (skip - checks (item ∷ [])) n_is s_is)
    ∙ adds.tape rest
    ∙ ap (λ (xs : List Event). tape_at old p ++ cut_events floor p number skip xs) (sym parted)
    ∙ so_far

-- processes with the same parts are the same
pub same_process : (a b : Process) → a.incarnation ≡ b.incarnation → a.tape ≡ b.tape → a ≡ b
same_process a b incarnation tape =
    ap (λ (v : ℕ). record { incarnation = v; tape = a.tape }) incarnation
    ∙ ap (λ (v : List Event). record { incarnation = b.incarnation; tape = v }) tape
