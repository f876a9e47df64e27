-- What is in transit at checks that a restart keeps stays in transit there.
use Rattle.std.proofs.Common.{◌≡◌, ℕ, zero, suc, not, List, [], ◌∷◌, length, map, get_or, refl, sym}
use Rattle.std.proofs.Common.{ap, ◌∙◌}
use Rattle.std.specs.Prelude.{◌==◌, IsTrue}
use Rattle.std.specs.List.{filter_map, filter, list_any}
use Rattle.std.proofs.lemmas.List.Elements.{filter_agree}
use Rattle.line_names.specs.declared.messages.MsgName.{MsgName}
use Rattle.line_names.specs.declared.choices.Choice.{Choice}
use Rattle.line_names.specs.declared.choices.Choice.TheVariants.{Check as AtCheck}
use Rattle.line_tape.specs.declared.events.Event.{Event}
use Rattle.line_tape.specs.declared.events.Event.TheVariants.{Send, Recv, Check, Mark}
use Rattle.line_names.specs.Lines.{choice_at}
use Rattle.line_names.specs.Names.{is_name}
use Rattle.line_tape.specs.Front.{front}
use Rattle.line_tape.specs.History.{Process, tape_at}
use Rattle.line_tape.specs.Line.{events_before}
use Rattle.line_tape.specs.Restart.{is_kept, restarted_history, restarted_event}
use Rattle.line_tape.specs.Transit.{Letter, letters, is_open_letter, has_received, open_letters}
use Rattle.line_tape.specs.Transit.{in_transit_between}
use Rattle.line_tape.proofs.EventLemmas.{name_of}
use Rattle.line_tape.proofs.StayLemmas.{tape_restarted, names_restarted, front_restarted}
use Rattle.line_tape.proofs.StayLemmas.{front_kept}

pub letters_restarted : (p k : ℕ) (es : List Event)
    → letters p k (filter_map restarted_event es) ≡ letters p k es
letters_restarted p k [] = refl
letters_restarted p k (Send to inc body ∷ es) = ap (λ (v : List Letter). record
    { message = name_of p inc k; to = to } ∷ v) (letters_restarted p (suc k) es)
letters_restarted p k (Recv m ∷ es) = letters_restarted p k es
letters_restarted p k (Check state r ∷ es) = letters_restarted p k es
letters_restarted p k (Mark from r ∷ es) = letters_restarted p k es

pub choice_of_checks : (cs : List ℕ) (p : ℕ)
    → choice_at (map (λ c. AtCheck c) cs) p ≡ AtCheck (get_or cs p 0)
choice_of_checks [] p = refl
choice_of_checks (c ∷ cs) zero = refl
choice_of_checks (c ∷ cs) (suc p) = choice_of_checks cs p

module _ (history : List Process) (line : List Choice) (cs : List ℕ) (e : length line
    ≡ length history) (kept : (p : ℕ) → IsTrue (is_kept (choice_at line p) (get_or cs p 0))) where
  -- the front of a kept check is the restarted one
  pub kept_front : (p : ℕ) → events_before (restarted_history history line) (map (λ c. AtCheck c)
      cs) p ≡ filter_map restarted_event (events_before history (map (λ c. AtCheck c) cs) p)
  kept_front p =
      let c : ℕ = get_or cs p 0 in
      ap (front (tape_at (restarted_history history line) p)) (choice_of_checks cs p)
      ∙ ap (λ (v : List Event). front v (AtCheck c)) (tape_restarted history line p e)
      ∙ front_restarted (events_before history line p) c
      ∙ ap (filter_map restarted_event) (front_kept (tape_at history p) (choice_at line p) c
      (kept p) ∙ ap (front (tape_at history p)) (sym (choice_of_checks cs p)))

  pub kept_open : (letter : Letter) → is_open_letter (restarted_history history line)
      (map (λ c. AtCheck c) cs) letter ≡ is_open_letter history (map (λ c. AtCheck c) cs) letter
  kept_open letter =
      ap (λ (v : List Event). not (has_received v letter.message)) (kept_front letter.to)
      ∙ ap (λ (v : List MsgName). not (list_any (is_name letter.message) v))
      (names_restarted (events_before history (map (λ c. AtCheck c) cs) letter.to))

  pub kept_transit : (p q : ℕ) → in_transit_between (restarted_history history line)
      (map (λ c. AtCheck c) cs) p q ≡ in_transit_between history (map (λ c. AtCheck c) cs) p q
  kept_transit p q =
      let same : open_letters (restarted_history history line) (map (λ c. AtCheck c) cs) p
      ≡ open_letters history (map (λ c. AtCheck c) cs) p =
      ap (λ (v : List Event). filter (is_open_letter (restarted_history history line)
      (map (λ c. AtCheck c) cs)) (letters p 0 v)) (kept_front p)
      ∙ ap (filter (is_open_letter (restarted_history history line) (map (λ c. AtCheck c) cs)))
      (letters_restarted p 0 (events_before history (map (λ c. AtCheck c) cs) p))
      ∙ filter_agree (is_open_letter (restarted_history history line) (map (λ c. AtCheck c) cs))
      (is_open_letter history (map (λ c. AtCheck c) cs)) kept_open
      (letters p 0 (events_before history (map (λ c. AtCheck c) cs) p)) in
      ap (λ (v : List Letter). map (λ (letter : Letter). letter.message)
      (filter (λ (letter : Letter). letter.to == q) v)) same
