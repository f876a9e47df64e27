-- What is in transit at a line from the floor on is the same in what is left, of any history.
use Rattle.std.proofs.Common.{◌≡◌, ℕ, ◌-◌, ◌<◌, Bool, true, not, List, [], ◌∷◌, ◌++◌, length, take}
use Rattle.std.proofs.Common.{drop, map, refl, sym, ap, ◌∙◌, subst, arith}
use Rattle.std.specs.List.{All, Contains, filter, flat_map, range_with_len}
use Rattle.std.proofs.lemmas.Bool.{leb-false}
use Rattle.std.proofs.lemmas.List.{take-append-drop}
use Rattle.std.proofs.lemmas.List.Elements.{filter_map-append, All-weaker}
use Rattle.line_names.specs.declared.choices.Choice.{Choice}
use Rattle.line_names.specs.declared.messages.MsgName.{MsgName}
use Rattle.line_names.specs.Lines.{choice_at, IsNowhereLater}
use Rattle.line_tape.specs.declared.events.Event.{Event}
use Rattle.line_tape.specs.declared.events.Event.TheVariants.{Recv}
use Rattle.line_tape.specs.Event.{incarnation_of, incarnations_sent}
use Rattle.line_tape.specs.Front.{place}
use Rattle.line_tape.specs.History.{Process, tape_at}
use Rattle.line_tape.specs.Line.{events_before, IsReceivedBefore}
use Rattle.line_tape.specs.Transit.{Letter, letters, has_received, is_open_letter, open_letters}
use Rattle.line_tape.specs.Transit.{in_transit, addressee_of, addressees}
use Rattle.line_tape.proofs.FrontLemmas.{Contains-take_more, place-mono}
use Rattle.line_tape.proofs.TransitLemmas.{has_received-iff, has_received-is}
use Rattle.line_cuts.specs.Cuts.{Floor, IsFloor, lost_sends, floor_check, floor_line, is_left}
use Rattle.line_cuts.specs.Cuts.{cut_name, whole_name, cut_events, cut_history, cut_line}
use Rattle.line_cuts.proofs.ConsistentCuts.{events_cut}
use Rattle.line_cuts.proofs.EventCuts.{received_left, received_stays}
use Rattle.line_cuts.proofs.LatestCuts.{length_history}
use Rattle.line_cuts.proofs.SendCuts.{name_back}
use Rattle.line_laws.proofs.LetterLemmas.{IsLetterOf, letters_are, letter_sent}
use Rattle.line_cuts.proofs.TransitCuts.{cut_letter, letters_cut, open_alike, IsAlike}

abbrev is_kept : Floor → Letter → Bool
is_kept floor letter = is_left floor letter.message

abbrev names : List Letter → List MsgName
names ls = map (λ (letter : Letter). letter.message) ls

module _ (floor : Floor) (history : List Process) (line : List Choice)
    (above : IsNowhereLater (floor_line floor) line) (is : IsFloor history floor) where
  sent_letters : (p : ℕ) → All (IsLetterOf p (incarnations_sent (tape_at history p))
      (addressees (tape_at history p))) (letters p 0 (events_before history line p))
  sent_letters p =
      let tape : List Event = tape_at history p in
      let n : ℕ = place tape (choice_at line p) in
      let incs : incarnations_sent tape
      ≡ incarnations_sent (take n tape)
      ++ incarnations_sent (drop n tape) = ap incarnations_sent (sym (take-append-drop n tape))
      ∙ filter_map-append incarnation_of (take n tape) (drop n tape) in
      let tos : addressees tape
      ≡ addressees (take n tape) ++ addressees (drop n tape) = ap addressees (sym
      (take-append-drop n tape)) ∙ filter_map-append addressee_of (take n tape) (drop n tape) in
      letters_are p 0 (take n tape) (incarnations_sent tape) (addressees tape)
      (incarnations_sent (drop n tape)) (addressees (drop n tape)) incs tos

  received_same : (q : ℕ) (m : MsgName) → is_left floor m ≡ true
      → has_received (events_before (cut_history floor history) (cut_line floor line) q)
      (cut_name floor m) ≡ has_received (events_before history line q) m
  received_same q m left =
      let old : List Event = events_before history line q in
      let new : List Event = events_before (cut_history floor history) (cut_line floor line) q in
      let iff = has_received-iff new (cut_name floor m) in
      has_received-is old m (has_received new (cut_name floor m)) (
        λ h.
            let l = received_left floor q 0 (floor_check floor q) old (cut_name floor m)
            (subst (λ (es : List Event). Contains es (Recv (cut_name floor m)))
            (events_cut floor history line above q) (iff.0 h)) in
            let same : l.whole ≡ m = sym (name_back floor l.whole l.is) ∙ ap (whole_name floor)
            (sym l.name) ∙ name_back floor m left in
            subst (λ (v : MsgName). Contains old (Recv v)) same l.among,
        λ c. iff.1 (subst (λ (es : List Event). Contains es (Recv (cut_name floor m)))
            (sym (events_cut floor history line above q))
            (received_stays floor q 0 (floor_check floor q) old m left c)),
      )

  pub received_above : (q : ℕ) (m : MsgName) → IsReceivedBefore history (floor_line floor) q m
      → IsReceivedBefore history line q m
  received_above q m c = Contains-take_more (tape_at history q)
      (place (tape_at history q) (choice_at (floor_line floor) q))
      (place (tape_at history q) (choice_at line q)) (Recv m) (place-mono (tape_at history q)
      (choice_at (floor_line floor) q) (choice_at line q) (above q)) c

  alike : (p : ℕ) (letter : Letter)
      → IsLetterOf p (incarnations_sent (tape_at history p)) (addressees (tape_at history p)) letter
      → IsAlike floor (is_open_letter history line)
      (is_open_letter (cut_history floor history) (cut_line floor line)) letter
  alike p letter of = record {
    gone = λ e.
        let below : letter.message.number < lost_sends floor letter.message.from = leb-false
        (lost_sends floor letter.message.from) letter.message.number e in
        ap not ((has_received-iff (events_before history line letter.to) letter.message).1
        (received_above letter.to letter.message
        (is.received letter.to letter.message (letter_sent history p letter of) below)));
    same = λ e. ap not (received_same letter.to letter.message e);
  }

  All-alike : (p : ℕ) (ls : List Letter)
      → All (IsLetterOf p (incarnations_sent (tape_at history p)) (addressees (tape_at history p)))
      ls → All (IsAlike floor (is_open_letter history line)
      (is_open_letter (cut_history floor history) (cut_line floor line))) ls
  All-alike p ls all = All-weaker
      (IsLetterOf p (incarnations_sent (tape_at history p)) (addressees (tape_at history p)))
      (IsAlike floor (is_open_letter history line)
      (is_open_letter (cut_history floor history) (cut_line floor line))) (alike p) ls all

  -- what is sent there before the line
  letters_left : (p : ℕ)
      → map (cut_letter floor) (filter (is_kept floor) (letters p 0 (events_before history line p)))
      ≡ letters p 0 (events_before (cut_history floor history) (cut_line floor line) p)
  letters_left p =
      let es : List Event = events_before history line p in
      let start : 0 - lost_sends floor p ≡ 0 = omega arith in
      sym (letters_cut floor p 0 (floor_check floor p) es)
      ∙ ap (λ n. letters p n (cut_events floor p 0 (floor_check floor p) es)) start
      ∙ ap (letters p 0) (sym (events_cut floor history line above p))

  -- of one sender
  from_cut : (p : ℕ) → names (open_letters history line p) ≡ map (whole_name floor)
      (names (open_letters (cut_history floor history) (cut_line floor line) p))
  from_cut p =
      let ls : List Letter = letters p 0 (events_before history line p) in
      let opens = is_open_letter history line in
      let after = is_open_letter (cut_history floor history) (cut_line floor line) in
      open_alike floor opens after ls (All-alike p ls (sent_letters p))
      ∙ ap (λ (v : List Letter). map (whole_name floor) (names (filter after v))) (letters_left p)

  gathered : (ps : List ℕ)
      → flat_map (λ p. names (open_letters history line p)) ps ≡ map (whole_name floor)
      (flat_map (λ p. names (open_letters (cut_history floor history) (cut_line floor line) p)) ps)
  gathered [] = refl
  gathered (p ∷ ps) =
      let new : List MsgName = names
      (open_letters (cut_history floor history) (cut_line floor line) p) in
      let rest : List MsgName = flat_map
      (λ q. names (open_letters (cut_history floor history) (cut_line floor line) q)) ps in
      ap (λ (v : List MsgName). v ++ flat_map (λ q. names (open_letters history line q)) ps)
      (from_cut p)
      ∙ ap (λ (v : List MsgName). map (whole_name floor) new ++ v) (gathered ps)
      ∙ sym (map_both (whole_name floor) new rest)
    where
      map_both : (f : MsgName → MsgName) (xs ys : List MsgName)
          → map f (xs ++ ys) ≡ map f xs ++ map f ys
      map_both f [] ys = refl
      map_both f (x ∷ xs) ys = ap (λ (v : List MsgName). f x ∷ v) (map_both f xs ys)

  -- what is in transit at a line from the floor on is the same, with its names brought back
  pub transit_cut : in_transit history line
      ≡ map (whole_name floor) (in_transit (cut_history floor history) (cut_line floor line))
  transit_cut =
      gathered (range_with_len 0 (length history))
      ∙ ap (λ n. map (whole_name floor)
      (flat_map (λ p. names (open_letters (cut_history floor history) (cut_line floor line) p))
      (range_with_len 0 n))) (sym (length_history floor history))
