-- A consistent line of checks is the floor that is found there.
use Rattle.std.proofs.Common.{◌≡◌, ◌≢◌, ℕ, ◌+◌, ◌<◌, ◌≤◌, Bool, true, false, cond, List, [], ◌∷◌}
use Rattle.std.proofs.Common.{length, map, get_or, set, drop, inl, inr, refl, sym, ap, ◌∙◌, subst}
use Rattle.std.proofs.Common.{arith}
use Rattle.std.specs.Prelude.{◌==◌}
use Rattle.std.specs.List.{Contains, range_with_len}
use Rattle.std.proofs.lemmas.Bool.{cases_lt, cases_eq, eq-eqb, ne_eqb}
use Rattle.std.proofs.lemmas.List.{drop_more, get_or_past, get_or-map, get_or-set_same}
use Rattle.std.proofs.lemmas.List.{get_or-set_other, length-map}
use Rattle.std.proofs.lemmas.List.Elements.{All-head, All-tail, Contains-get_or}
use Rattle.std.proofs.lemmas.List.FromFn.{length-map-range_with_len, get_or-map-range_with_len}
use Rattle.std.proofs.lemmas.Option.{slice_get_within}
use Rattle.line_names.specs.declared.choices.Choice.{Choice}
use Rattle.line_names.specs.declared.choices.Choice.TheVariants.{Check as AtCheck, Now}
use Rattle.line_names.specs.declared.messages.MsgName.{MsgName}
use Rattle.line_tape.specs.Event.{sends, incarnations_sent}
use Rattle.line_tape.specs.History.{Process}
use Rattle.line_tape.specs.Line.{events_before, IsLine, IsConsistent}
use Rattle.line_tape.specs.Rounds.{check_line, names_from}
use Rattle.line_tape.specs.Transit.{in_transit}
use Rattle.line_catalogue.specs.Left.{AreSettledUpTo, IsInTransitAt}
use Rattle.line_catalogue.proofs.LeftLemmas.{transit-settled, sender-before}
use Rattle.line_catalogue.proofs.SenderLemmas.{among-messages_of, from-messages_of, in-messages_of}
use Rattle.line_catalogue.proofs.SenderLemmas.{rising-messages_of}
use Rattle.line_cuts.specs.Cuts.{IsFloor, floor_line, lost_sends}
use Rattle.line_cuts.proofs.FoundFloors.{floor_found}
use Rattle.line_cuts.specs.Floors.{check_index_of, floor_of_line, sends_up_to, settled_sends}
use Rattle.line_cuts.specs.Floors.{IsOfChecks}

-- the first message that a process sent is the one before the others, or the first of these
pub first_number : (p : ℕ) (m : MsgName) (ms : List MsgName) (given : ℕ)
    → sends_up_to p (m ∷ ms) given ≡ cond (m.from == p) m.number (sends_up_to p ms given)
first_number p m ms given =
    elim (m.from == p) as
    (λ b. get_or
    (map (λ (x : MsgName). x.number) (cond b (m ∷ names_from p ms) (names_from p ms))) 0 given
    ≡ cond b m.number (get_or (map (λ (x : MsgName). x.number) (names_from p ms)) 0 given))
    [ true ↦ refl | false ↦ refl ]

-- one message more, from the last one on
pub put_first : (counts olds : List ℕ) (ms : List MsgName) (i : ℕ) (m : MsgName) → i < length ms
    → get_or ms i m ≡ m → m.from < length counts
    → ((p : ℕ) → get_or counts p 0 ≡ sends_up_to p (drop (i + 1) ms) (get_or olds p 0))
    → (p : ℕ) → get_or (set counts m.from m.number) p 0
    ≡ sends_up_to p (drop i ms) (get_or olds p 0)
put_first counts olds ms i m within at inside so_far p =
    let rest : List MsgName = drop (i + 1) ms in
    let parted : drop i ms
    ≡ m ∷ rest = drop_more ms i m within ∙ ap (λ (x : MsgName). x ∷ rest) at in
    let first : sends_up_to p (drop i ms) (get_or olds p 0)
    ≡ cond (m.from == p) m.number (sends_up_to p rest (get_or olds p 0)) =
    ap (λ (xs : List MsgName). sends_up_to p xs (get_or olds p 0)) parted ∙ first_number p m rest
    (get_or olds p 0) in
    elim (cases_eq p m.from) [
      | inl here ↦
          ap (λ (q : ℕ). get_or (set counts m.from m.number) q 0) here
          ∙ get_or-set_same counts m.from m.number 0 inside
          ∙ sym (first ∙ ap (λ (b : Bool). cond b m.number (sends_up_to p rest (get_or olds p 0)))
          (eq-eqb m.from p (sym here)))
      | inr apart ↦
          get_or-set_other counts m.from p m.number 0 apart
          ∙ so_far p
          ∙ sym (first ∙ ap (λ (b : Bool). cond b m.number (sends_up_to p rest (get_or olds p 0)))
          (ne_eqb m.from p (λ e. apart (sym e))))
    ]

-- a line of checks is the line of its checks
pub line_of_checks : (line : List Choice) → IsOfChecks line
    → check_line (map check_index_of line) ≡ line
line_of_checks [] are = refl
line_of_checks (AtCheck c ∷ line) are = ap (λ (rest : List Choice). AtCheck c ∷ rest)
    (line_of_checks line (All-tail (λ choice. choice ≢ Now) (AtCheck c) line are))
line_of_checks (Now ∷ line) are = absurd (All-head (λ choice. choice ≢ Now) Now line are refl)

module _ (history : List Process) (line : List Choice) (round : ℕ) where
  -- what is in transit has settled where the line stands
  settled : AreSettledUpTo history line (map (λ p. sends (events_before history line p))
      (range_with_len 0 (length history))) (in_transit history line)
  settled = transit-settled history line
      (map (λ p. sends (events_before history line p)) (range_with_len 0 (length history)))
      (length-map-range_with_len (λ p. sends (events_before history line p)) 0 (length history))
      (λ p. elim (cases_lt p (length history)) [
        | inl within ↦ get_or-map-range_with_len (λ p. sends (events_before history line p)) 0
            (length history) p p 0 within (omega arith)
        | inr past ↦ elim (cases_lt 0 (sends (events_before history line p))) [
          | inl some ↦ absurd (omega (arith, sender-before history line p 0 some))
          | inr none ↦
              let gone : get_or
              (map (λ p. sends (events_before history line p))
              (range_with_len 0 (length history))) p 0
              ≡ 0 = get_or_past
              (map (λ p. sends (events_before history line p))
              (range_with_len 0 (length history))) p 0 (omega (
                arith,
                length-map-range_with_len
                    (λ p. sends (events_before history line p)) 0 (length history),
              )) in
              omega arith
        ]
      ])

  -- a message that is in transit is sent before the line
  pub transit_before : (m : MsgName) → Contains (in_transit history line) m
      → m.number < sends (events_before history line m.from)
  transit_before m among =
      let at : IsInTransitAt history line m = settled.each m among in
      slice_get_within
      (incarnations_sent (events_before history line m.from)) m.number m.inc at.held

  -- by a process that there is
  pub transit_from : (m : MsgName) → Contains (in_transit history line) m → m.from < length history
  transit_from m among = sender-before history line m.from m.number (transit_before m among)

  any : MsgName
  any = record { from = 0; inc = 0; number = 0 }

  -- those of one process
  abbrev own : ℕ → List MsgName
  own p = names_from p (in_transit history line)

  abbrev numbers : ℕ → List ℕ
  numbers p = map (λ (m : MsgName). m.number) (own p)

  number_of : (p k : ℕ) (m : MsgName) → k < length (own p) → get_or (own p) k m ≡ m → (given : ℕ)
      → get_or (numbers p) k given ≡ m.number
  number_of p k m within at given = get_or-map (λ (m : MsgName). m.number)
      (own p) k m given within ∙ ap (λ (m : MsgName). m.number) at

  -- no more sends settle than stand before the line
  pub settled_within : (p : ℕ) → settled_sends history line p ≤ sends (events_before history line p)
  settled_within p = elim (cases_lt 0 (length (own p))) [
    | inl some ↦
        let m : MsgName = get_or (own p) 0 any in
        let among : Contains (in_transit history line) m = among-messages_of p
        (in_transit history line) m (Contains-get_or (own p) 0 any some) in
        let from : m.from ≡ p = from-messages_of p (in_transit history line) 0 any some in
        let number : settled_sends history line p ≡ m.number = get_or-map
        (λ (m : MsgName). m.number) (own p) 0 any (sends (events_before history line p)) some in
        omega (
          arith,
          transit_before m among,
          ap
              (λ (q : ℕ). sends (events_before history line q)) from,
        )
    | inr none ↦
        let given : settled_sends history line p
        ≡ sends (events_before history line p) = get_or_past (numbers p) 0 (sends (events_before
        history line p)) (omega (arith, length-map (own p) (λ (m : MsgName). m.number))) in
        omega arith
  ]

  -- nor a message that is in transit there
  pub settled_first : (m : MsgName) → Contains (in_transit history line) m
      → settled_sends history line m.from ≤ m.number
  settled_first m among =
      let given : ℕ = sends (events_before history line m.from) in
      let (k, within, at) = in-messages_of m.from (in_transit history line) m refl among in
      let number : get_or (numbers m.from) k given
      ≡ m.number = number_of m.from k m within at given in
      elim (cases_lt 0 k) [
        | inl after ↦ omega (
          arith,
          rising-messages_of m.from
              (in_transit history line) settled.order 0 k given after within,
        )
        | inr first ↦
            let same : get_or (numbers m.from) 0 given ≡ get_or (numbers m.from) k given = ap
            (λ (j : ℕ). get_or (numbers m.from) j given) (omega arith) in
            omega arith
      ]

  -- how many sends are let go
  lost_within : (p : ℕ) → p < length history
      → lost_sends (floor_of_line history line round) p ≡ settled_sends history line p
  lost_within p within = get_or-map-range_with_len (settled_sends history line) 0
      (length history) p p 0 within (omega arith)

  lost_past : (p : ℕ) → length history ≤ p → lost_sends (floor_of_line history line round) p ≡ 0
  lost_past p past = get_or_past
      (map (settled_sends history line) (range_with_len 0 (length history))) p 0
      (omega (arith, length-map-range_with_len (settled_sends history line) 0 (length history)))

  -- the line is a floor
  pub line_is_floor : IsLine history line → IsOfChecks line → IsConsistent history line
      → IsFloor history (floor_of_line history line round)
  line_is_floor is checks consistent =
      let same : line
      ≡ floor_line (floor_of_line history line round) = sym (line_of_checks line checks) in
      floor_found history (floor_of_line history line round)
      (subst (λ (l : List Choice). IsLine history l) same is)
      (subst (λ (l : List Choice). IsConsistent history l) same consistent)
      (subst (λ (l : List Choice). (p : ℕ) → lost_sends (floor_of_line history line round) p ≤ sends
      (events_before history l p)) same
      (λ p. elim (cases_lt p (length history)) [
        | inl within ↦ omega (arith, lost_within p within, settled_within p)
        | inr past ↦ omega (arith, lost_past p past)
      ]))
      (subst (λ (l : List Choice). (m : MsgName) → Contains (in_transit history l) m
      → lost_sends (floor_of_line history line round) m.from ≤ m.number) same
      (λ m among. omega (arith, lost_within m.from (transit_from m among), settled_first m among)))
