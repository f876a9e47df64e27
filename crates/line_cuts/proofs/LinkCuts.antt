-- Links that keep their order, in what is left.
use Rattle.std.proofs.Common.{◌≡◌, ℕ, zero, suc, ◌-◌, ◌<◌, ◌≤◌, true, false, cond, List, [], ◌∷◌}
use Rattle.std.proofs.Common.{◌++◌, length, drop, Option, Some, None, refl, sym, ap, ◌∙◌, subst}
use Rattle.std.proofs.Common.{arith}
use Rattle.std.specs.Prelude.{nat_le, nat_lt, ◌==◌}
use Rattle.std.specs.List.{All, filter_map, cons_option}
use Rattle.std.proofs.lemmas.Bool.{leb-true, leb-false, ltb-true}
use Rattle.std.proofs.lemmas.List.Elements.{filter_map-append, All-nil, All-head, All-tail}
use Rattle.line_names.specs.declared.choices.Choice.TheVariants.{Check as AtCheck}
use Rattle.line_names.specs.declared.messages.MsgName.{MsgName}
use Rattle.line_tape.specs.declared.events.Event.{Event}
use Rattle.line_tape.specs.declared.events.Event.TheVariants.{Send, Recv, Check, Mark}
use Rattle.line_tape.specs.declared.items.Item.{Item}
use Rattle.line_tape.specs.declared.items.Item.TheVariants.{Message, Marker}
use Rattle.line_tape.specs.Fit.{items_sent, item_received, sent_between, received_from, link}
use Rattle.line_tape.specs.Fit.{IsPrefix, IsFitFifo}
use Rattle.line_tape.specs.Front.{front}
use Rattle.line_tape.specs.History.{Process, tape_at}
use Rattle.line_tape.specs.Rounds.{rounds_checked}
use Rattle.line_cuts.specs.Cuts.{Floor, lost_sends, floor_check, is_left, cut_name, cut_round}
use Rattle.line_cuts.specs.Cuts.{cut_events, cut_history, cut_item, HasOldRounds}
use Rattle.line_cuts.proofs.ConsistentCuts.{tape_cut, floor_at}

-- what a check puts on a link before others
abbrev with_marker : Option ℕ → List Item → List Item
with_marker None rest = rest
with_marker (Some round) rest = Marker round ∷ rest

module _ (floor : Floor) (p : ℕ) where
  -- the checks that are let go are of old rounds
  abbrev pub AreOld : ℕ → List Event → Type 0
  AreOld skip es = All (λ round. round ≤ floor.round) (rounds_checked (front es (AtCheck skip)))

  marker_gone : (round : ℕ) (rest : List Item) → round ≤ floor.round
      → cons_option (cond (nat_lt floor.round round) (Some (Marker round)) None) rest ≡ rest
  marker_gone round rest h = elim (nat_lt floor.round round) as (λ b. b ≡ nat_lt floor.round round
      → cons_option (cond b (Some (Marker round)) None) rest ≡ rest) [
        | true ↦ λ e. let later : floor.round < round =
            ltb-true floor.round round (sym e) in absurd (omega arith)
        | false ↦ λ e. refl
      ] refl

  sent_check : (q k : ℕ) (state : List ℕ) (round : Option ℕ) (es : List Event) (rest : List Item)
      → items_sent p q k es ≡ filter_map (cut_item floor) rest
      → items_sent p q k (Check state (cut_round floor.round round) ∷ es)
      ≡ filter_map (cut_item floor) (with_marker round rest)
  sent_check q k state None es rest e = e
  sent_check q k state (Some round) es rest e = elim (nat_lt floor.round round) as
      (λ b. items_sent p q k (Check state (cond b (Some round) None) ∷ es)
      ≡ cons_option (cond b (Some (Marker round)) None) (filter_map (cut_item floor) rest)) [
        | true ↦ ap (λ (v : List Item). Marker round ∷ v) e
        | false ↦ e
      ]

  pub old_none : (es : List Event) → AreOld zero es
  old_none es = All-nil (λ round. round ≤ floor.round)

  pub old_send : (to inc : ℕ) (body : List ℕ) (es : List Event) (skip : ℕ)
      → AreOld skip (Send to inc body ∷ es) → AreOld skip es
  old_send to inc body es zero old = All-nil (λ round. round ≤ floor.round)
  old_send to inc body es (suc skip) old = old

  pub old_recv : (m : MsgName) (es : List Event) (skip : ℕ) → AreOld skip (Recv m ∷ es)
      → AreOld skip es
  old_recv m es zero old = All-nil (λ round. round ≤ floor.round)
  old_recv m es (suc skip) old = old

  pub old_mark : (from round : ℕ) (es : List Event) (skip : ℕ) → AreOld skip (Mark from round ∷ es)
      → AreOld skip es
  old_mark from round es zero old = All-nil (λ round. round ≤ floor.round)
  old_mark from round es (suc skip) old = old

  check_sent : (q k : ℕ) (state : List ℕ) (round : Option ℕ) (es : List Event)
      → items_sent p q k (Check state round ∷ es) ≡ with_marker round (items_sent p q k es)
  check_sent q k state None es = refl
  check_sent q k state (Some round) es = refl

  -- what is sent of what is left is what is left of what is sent
  pub sent_cut : (q k skip : ℕ) (es : List Event) → AreOld skip es → items_sent p q (k - lost_sends
      floor p) (cut_events floor p k skip es) ≡ filter_map (cut_item floor) (items_sent p q k es)
  sent_cut q k skip [] old = refl
  sent_cut q k skip (Send to inc body ∷ es) old =
      let rest = sent_cut q (suc k) skip es (old_send to inc body es skip old) in
      elim (nat_le (lost_sends floor p) k) as (λ b. b ≡ nat_le (lost_sends floor p) k
      → items_sent p q (k - lost_sends floor p) (cond b (Send to inc body
      ∷ cut_events floor p (suc k) skip es) (cut_events floor p (suc k) skip es))
      ≡ filter_map (cut_item floor) (cond (to == q) (Message (record {
        from = p;
        inc = inc;
        number =
            k;
      }) ∷ items_sent p q (suc k) es) (items_sent p q (suc k) es))) [
        | true ↦ λ e.
            let h : lost_sends floor p ≤ k = leb-true (lost_sends floor p) k (sym e) in
            let next : suc (k - lost_sends floor p) ≡ suc k - lost_sends floor p = omega arith in
            let ih : items_sent p q (suc (k - lost_sends floor p))
            (cut_events floor p (suc k) skip es)
            ≡ filter_map (cut_item floor) (items_sent p q (suc k) es) =
            ap (λ n. items_sent p q n (cut_events floor p (suc k) skip es)) next ∙ rest in
            elim (to == q) as
            (λ t. cond t
            (Message (record { from = p; inc = inc; number = k - lost_sends floor p })
            ∷ items_sent p q (suc (k - lost_sends floor p))
            (cut_events floor p (suc k) skip es))
            (items_sent p q (suc (k - lost_sends floor p)) (cut_events floor p (suc k) skip es))
            ≡ filter_map (cut_item floor) (cond t (Message (record {
              from = p;
              inc = inc;
              number =
                  k;
            }) ∷ items_sent p q (suc k) es) (items_sent p q (suc k) es))) [
              | true ↦
                  ap (λ (v : List Item). Message
                  (record { from = p; inc = inc; number = k - lost_sends floor p }) ∷ v) ih
                  ∙ ap (λ b. cons_option
                  (cond b (Some
                  (Message (record { from = p; inc = inc; number = k - lost_sends floor p })))
                  None) (filter_map (cut_item floor) (items_sent p q (suc k) es))) e
              | false ↦ ih
            ]
        | false ↦ λ e.
            let h : k < lost_sends floor p = leb-false (lost_sends floor p) k (sym e) in
            let next : k - lost_sends floor p ≡ suc k - lost_sends floor p = omega arith in
            let ih : items_sent p q (k - lost_sends floor p) (cut_events floor p (suc k) skip es)
            ≡ filter_map (cut_item floor) (items_sent p q (suc k) es) =
            ap (λ n. items_sent p q n (cut_events floor p (suc k) skip es)) next ∙ rest in
            elim (to == q) as
            (λ t. items_sent p q (k - lost_sends floor p) (cut_events floor p (suc k) skip es)
            ≡ filter_map (cut_item floor) (cond t (Message (record {
              from = p;
              inc = inc;
              number =
                  k;
            }) ∷ items_sent p q (suc k) es) (items_sent p q (suc k) es))) [
              | true ↦
                  ih ∙ ap (λ b. cons_option
                  (cond b (Some
                  (Message (record { from = p; inc = inc; number = k - lost_sends floor p })))
                  None) (filter_map (cut_item floor) (items_sent p q (suc k) es))) e
              | false ↦ ih
            ]
      ] refl
  sent_cut q k skip (Recv m ∷ es) old =
      elim (is_left floor m) as
      (λ b. items_sent p q (k - lost_sends floor p)
      (cond b (Recv (cut_name floor m) ∷ cut_events floor p k skip es)
      (cut_events floor p k skip es)) ≡ filter_map (cut_item floor) (items_sent p q k es)) [
        | true ↦ sent_cut q k skip es (old_recv m es skip old)
        | false ↦ sent_cut q k skip es (old_recv m es skip old)
      ]
  sent_cut q k zero (Check state round ∷ es) old = sent_check q (k - lost_sends floor p) state round
      (cut_events floor p k zero es) (items_sent p q k es) (sent_cut q k zero es (old_none es)) ∙ ap
      (filter_map (cut_item floor)) (sym (check_sent q k state round es))
  sent_cut q k (suc zero) (Check state round ∷ es) old = sent_check q
      (k - lost_sends floor p) state round (cut_events floor p k zero es) (items_sent p q k es)
      (sent_cut q k zero es (old_none es)) ∙ ap (filter_map (cut_item floor))
      (sym (check_sent q k state round es))
  sent_cut q k (suc (suc skip)) (Check state None ∷ es) old = sent_cut q k (suc skip) es old
  sent_cut q k (suc (suc skip)) (Check state (Some round) ∷ es) old =
      let older = λ (r : ℕ). r ≤ floor.round in
      let rounds : List ℕ = rounds_checked (front es (AtCheck (suc skip))) in
      sent_cut q k (suc skip) es (All-tail older round rounds old)
      ∙ sym (marker_gone round (filter_map (cut_item floor) (items_sent p q k es))
      (All-head older round rounds old))
  sent_cut q k skip (Mark from round ∷ es) old =
      elim (nat_lt floor.round round) as
      (λ b. items_sent p q (k - lost_sends floor p)
      (cond b (Mark from round ∷ cut_events floor p k skip es) (cut_events floor p k skip es))
      ≡ filter_map (cut_item floor) (items_sent p q k es)) [
        | true ↦ sent_cut q k skip es (old_mark from round es skip old)
        | false ↦ sent_cut q k skip es (old_mark from round es skip old)
      ]

-- what is received, in what is left, is what is left of what is received
module _ (floor : Floor) (q p : ℕ) where
  pub received_cut : (k skip : ℕ) (es : List Event) → filter_map (item_received p)
      (cut_events floor q k skip es) ≡ filter_map (cut_item floor) (filter_map (item_received p) es)
  received_cut k skip [] = refl
  received_cut k skip (Send to inc body ∷ es) =
      elim (nat_le (lost_sends floor q) k) as
      (λ b. filter_map (item_received p)
      (cond b (Send to inc body ∷ cut_events floor q (suc k) skip es) (cut_events floor q
      (suc k) skip es)) ≡ filter_map (cut_item floor) (filter_map (item_received p) es)) [
        | true ↦ received_cut (suc k) skip es
        | false ↦ received_cut (suc k) skip es
      ]
  received_cut k skip (Recv m ∷ es) =
      let ih = received_cut k skip es in
      elim (is_left floor m) as (λ b. b ≡ is_left floor m
      → filter_map (item_received p) (cond b
      (Recv (cut_name floor m) ∷ cut_events floor q k skip es) (cut_events floor q k skip es))
      ≡ filter_map (cut_item floor) (cons_option (cond (m.from == p) (Some (Message m)) None)
      (filter_map (item_received p) es))) [
        | true ↦ λ e. elim (m.from == p) as
            (λ t. cons_option (cond t (Some (Message (cut_name floor m))) None)
            (filter_map (item_received p) (cut_events floor q k skip es))
            ≡ filter_map (cut_item floor)
            (cons_option (cond t (Some (Message m)) None) (filter_map (item_received p) es))) [
              | true ↦ ap (λ (v : List Item). Message (cut_name floor m) ∷ v) ih ∙ ap
                  (λ b. cons_option (cond b (Some (Message (cut_name floor m))) None)
                  (filter_map (cut_item floor) (filter_map (item_received p) es))) e
              | false ↦ ih
            ]
        | false ↦ λ e. elim (m.from == p) as
            (λ t. filter_map (item_received p) (cut_events floor q k skip es)
            ≡ filter_map (cut_item floor)
            (cons_option (cond t (Some (Message m)) None) (filter_map (item_received p) es))) [
              | true ↦ ih ∙ ap (λ b. cons_option (cond b (Some (Message (cut_name floor m))) None)
                  (filter_map (cut_item floor) (filter_map (item_received p) es))) e
              | false ↦ ih
            ]
      ] refl
  received_cut k zero (Check state round ∷ es) = received_cut k zero es
  received_cut k (suc zero) (Check state round ∷ es) = received_cut k zero es
  received_cut k (suc (suc skip)) (Check state round ∷ es) = received_cut k (suc skip) es
  received_cut k skip (Mark from round ∷ es) =
      let ih = received_cut k skip es in
      elim (nat_lt floor.round round) as (λ b. b ≡ nat_lt floor.round round
      → filter_map (item_received p)
      (cond b (Mark from round ∷ cut_events floor q k skip es) (cut_events floor q k skip es))
      ≡ filter_map (cut_item floor) (cons_option (cond (from == p) (Some (Marker round)) None)
      (filter_map (item_received p) es))) [
        | true ↦ λ e. elim (from == p) as
            (λ t. cons_option (cond t (Some (Marker round)) None)
            (filter_map (item_received p) (cut_events floor q k skip es))
            ≡ filter_map (cut_item floor)
            (cons_option (cond t (Some (Marker round)) None) (filter_map (item_received p) es))) [
              | true ↦ ap (λ (v : List Item). Marker round ∷ v) ih ∙ ap
                  (λ b. cons_option (cond b (Some (Marker round)) None)
                  (filter_map (cut_item floor) (filter_map (item_received p) es))) e
              | false ↦ ih
            ]
        | false ↦ λ e. elim (from == p) as
            (λ t. filter_map (item_received p) (cut_events floor q k skip es)
            ≡ filter_map (cut_item floor)
            (cons_option (cond t (Some (Marker round)) None) (filter_map (item_received p) es))) [
              | true ↦ ih ∙ ap (λ b. cons_option (cond b (Some (Marker round)) None)
                  (filter_map (cut_item floor) (filter_map (item_received p) es))) e
              | false ↦ ih
            ]
      ] refl

-- what follows what is received
drop_after : (xs ys : List Item) → drop (length xs) (xs ++ ys) ≡ ys
drop_after [] ys = refl
drop_after (x ∷ xs) ys = drop_after xs ys

module _ (floor : Floor) (history : List Process) (old : HasOldRounds history floor) where
  pub sent_between_cut : (p q : ℕ) → sent_between (cut_history floor history) p q
      ≡ filter_map (cut_item floor) (sent_between history p q)
  sent_between_cut p q =
      let start : 0 ≡ 0 - lost_sends floor p = omega arith in
      let early : AreOld floor p (floor_check floor p) (tape_at history p) = subst
      (λ c. All (λ round. round ≤ floor.round) (rounds_checked (front (tape_at history p) c)))
      (floor_at floor p) (old p) in
      ap (items_sent p q 0) (tape_cut floor history p)
      ∙ ap (λ n. items_sent p q n (cut_events floor p 0 (floor_check floor p) (tape_at history p)))
      start
      ∙ sent_cut floor p q 0 (floor_check floor p) (tape_at history p) early

  pub received_from_cut : (q p : ℕ) → received_from (cut_history floor history) q p
      ≡ filter_map (cut_item floor) (received_from history q p)
  received_from_cut q p = ap (filter_map (item_received p)) (tape_cut floor history q) ∙
      received_cut floor q p 0 (floor_check floor q) (tape_at history q)

  module _ (fit : IsFitFifo history) (p q : ℕ) where
    abbrev left : List Item → List Item
    left items = filter_map (cut_item floor) items

    parted : left (sent_between history p q)
        ≡ left (received_from history q p) ++ left (link history p q)
    parted = ap left (sym (fit.order p q)) ∙ filter_map-append (cut_item floor)
        (received_from history q p) (link history p q)

    -- what a link holds of what is left is what is left of what it holds
    pub link_cut : link (cut_history floor history) p q
        ≡ filter_map (cut_item floor) (link history p q)
    link_cut =
        ap (λ (xs : List Item). drop (length xs) (sent_between (cut_history floor history) p q))
        (received_from_cut q p)
        ∙ ap (drop (length (left (received_from history q p)))) (sent_between_cut p q ∙ parted)
        ∙ drop_after (left (received_from history q p)) (left (link history p q))

    -- and what is received there begins what is sent there
    pub order_cut : IsPrefix (received_from (cut_history floor history) q p)
        (sent_between (cut_history floor history) p q)
    order_cut =
        ap (λ (xs : List Item). xs ++ link (cut_history floor history) p q) (received_from_cut q p)
        ∙ ap (λ (xs : List Item). left (received_from history q p) ++ xs) link_cut
        ∙ sym parted ∙ sym (sent_between_cut p q)
