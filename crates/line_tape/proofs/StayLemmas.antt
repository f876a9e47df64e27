-- What a restart leaves of a tape.
use Rattle.std.proofs.Common.{◌≡◌, ℕ, zero, suc, cond, List, [], ◌∷◌, length, take, drop, None}
use Rattle.std.proofs.Common.{refl, ap, ◌∙◌, subst, arith, ◌≤◌}
use Rattle.std.specs.Prelude.{IsTrue}
use Rattle.std.specs.List.{filter_map}
use Rattle.std.proofs.lemmas.List.{take-append-drop}
use Rattle.std.proofs.lemmas.Bool.{leb-true}
use Rattle.line_names.specs.declared.messages.MsgName.{MsgName}
use Rattle.line_names.specs.declared.choices.Choice.{Choice}
use Rattle.line_tape.specs.declared.events.Event.{Event}
use Rattle.line_tape.specs.declared.events.Event.TheVariants.{Send, Recv, Check, Mark}
use Rattle.line_names.specs.Lines.{choice_at}
use Rattle.line_tape.specs.Event.{incarnations_sent, Holds, is_check}
use Rattle.line_tape.specs.Front.{place, front, check_place}
use Rattle.line_tape.specs.History.{Process, tape_at}
use Rattle.line_tape.specs.Line.{events_before}
use Rattle.line_tape.specs.Restart.{restarted_history, restarted_event, is_kept}
use Rattle.line_tape.specs.Transit.{names_received, addressees}
use Rattle.line_tape.proofs.EventLemmas.{holds_more}
use Rattle.line_names.specs.declared.choices.Choice.TheVariants.{Check as AtCheck, Now}
use Rattle.line_tape.proofs.FrontLemmas.{check_place-mono, check_place-le}
use Rattle.line_tape.proofs.CutLemmas.{sent_left}

-- what is left of a tape
pub tape_restarted : (history : List Process) (line : List Choice) (p : ℕ)
    → length line ≡ length history → tape_at (restarted_history history line) p
    ≡ filter_map restarted_event (events_before history line p)
tape_restarted [] [] p e = refl
tape_restarted [] (choice ∷ line) p e = absurd (omega arith)
tape_restarted (process ∷ rest) [] p e = absurd (omega arith)
tape_restarted (process ∷ rest) (choice ∷ line) zero e = refl
tape_restarted (process ∷ rest) (choice ∷ line) (suc p) e = tape_restarted rest line p (omega arith)

pub length_restarted : (history : List Process) (line : List Choice) → length line ≡ length history
    → length (restarted_history history line) ≡ length history
length_restarted [] line e = refl
length_restarted (process ∷ rest) [] e = absurd (omega arith)
length_restarted (process ∷ rest) (choice ∷ line) e =
    ap suc (length_restarted rest line (omega arith))

-- and whom they went to
pub addressees_restarted : (es : List Event)
    → addressees (filter_map restarted_event es) ≡ addressees es
addressees_restarted [] = refl
addressees_restarted (Send to inc body ∷ es) = ap (λ (v : List ℕ). to ∷ v) (addressees_restarted es)
addressees_restarted (Recv m ∷ es) = addressees_restarted es
addressees_restarted (Check state round ∷ es) = addressees_restarted es
addressees_restarted (Mark from round ∷ es) = addressees_restarted es

pub names_restarted : (es : List Event)
    → names_received (filter_map restarted_event es) ≡ names_received es
names_restarted [] = refl
names_restarted (Send to inc body ∷ es) = names_restarted es
names_restarted (Recv m ∷ es) = ap (λ (v : List MsgName). m ∷ v) (names_restarted es)
names_restarted (Check state r ∷ es) = names_restarted es
names_restarted (Mark from r ∷ es) = names_restarted es

pub front_restarted : (es : List Event) (c : ℕ) → front (filter_map restarted_event es) (AtCheck c)
    ≡ filter_map restarted_event (front es (AtCheck c))
front_restarted es zero = refl
front_restarted [] (suc c) = refl
front_restarted (Send to inc body ∷ es) (suc c) =
    ap (λ (v : List Event). Send to inc body ∷ v) (front_restarted es (suc c))
front_restarted (Recv m ∷ es) (suc c) =
    ap (λ (v : List Event). Recv m ∷ v) (front_restarted es (suc c))
front_restarted (Check state r ∷ es) (suc c) =
    ap (λ (v : List Event). Check state None ∷ v) (front_restarted es c)
front_restarted (Mark from r ∷ es) (suc c) = front_restarted es (suc c)

pub front_take : (es : List Event) (n c : ℕ) → check_place es c ≤ n
    → front (take n es) (AtCheck c) ≡ front es (AtCheck c)
front_take es n zero h = refl
front_take [] zero (suc c) h = refl
front_take [] (suc n) (suc c) h = refl
front_take (e ∷ es) zero (suc c) h = absurd (omega arith)
front_take (e ∷ es) (suc n) (suc c) h =
    ap (λ (v : List Event). e ∷ v) (front_take es n (cond (is_check e) c (suc c)) (omega arith))

pub front_kept : (es : List Event) (choice : Choice) (c : ℕ) → IsTrue (is_kept choice c)
    → front (front es choice) (AtCheck c) ≡ front es (AtCheck c)
front_kept es (AtCheck k) c h =
    front_take es (check_place es k) c (check_place-mono es c k (leb-true c k h))
front_kept es Now c h = front_take es (length es) c (check_place-le es c)

pub incs_restarted : (history : List Process) (line : List Choice) (p : ℕ)
    → length line ≡ length history → incarnations_sent (tape_at (restarted_history history line) p)
    ≡ incarnations_sent (events_before history line p)
incs_restarted history line p e = ap incarnations_sent (tape_restarted history line p e) ∙ sent_left
    (events_before history line p)

-- what stands before a choice is the tape's
pub holds_whole : (history : List Process) (line : List Choice) (p inc k : ℕ)
    → Holds (events_before history line p) inc k → Holds (tape_at history p) inc k
holds_whole history line p inc k held =
    let tape : List Event = tape_at history p in
    let n : ℕ = place tape (choice_at line p) in
    subst (λ (es : List Event). Holds es inc k) (take-append-drop n tape)
    (holds_more (take n tape) (drop n tape) inc k held)
