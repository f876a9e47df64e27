-- What is in transit comes in order, and each message of it is sent and not received.
use Rattle.std.proofs.Common.{◌≡◌, ℕ, zero, suc, ◌+◌, ◌-◌, ◌<◌, ◌≤◌, Bool, true, false, cond, List}
use Rattle.std.proofs.Common.{[], ◌∷◌, ◌++◌, length, get_or, map, Some, refl, sym, ap, ◌∙◌, subst}
use Rattle.std.proofs.Common.{append-nil, arith, inl, inr}
use Rattle.std.specs.List.{Contains, slice_get, flat_map, range_with_len}
use Rattle.std.proofs.lemmas.List.{append_assoc, flat_map_more, get_or_default}
use Rattle.std.proofs.lemmas.List.Elements.{Contains-push_cases}
use Rattle.std.proofs.lemmas.List.Quantifiers.{all_pairs_push}
use Rattle.std.proofs.lemmas.List.Sorted.{IsNonDecreasingBy-push}
use Rattle.std.proofs.lemmas.Option.{slice_get-get_or}
use Rattle.line_names.specs.declared.choices.Choice.{Choice}
use Rattle.line_names.specs.declared.messages.MsgName.{MsgName}
use Rattle.line_tape.specs.declared.events.Event.{Event}
use Rattle.line_tape.specs.Event.{incarnations_sent, sends}
use Rattle.line_tape.specs.History.{Process}
use Rattle.line_tape.specs.Line.{events_before}
use Rattle.line_tape.specs.Transit.{Letter, open_letters, has_received, addressees}
use Rattle.line_tape.proofs.CutLemmas.{contains_nothing}
use Rattle.line_tape.proofs.EventLemmas.{length_addressees, name_of}
use Rattle.line_tape.proofs.TransitLemmas.{range-push}
use Rattle.line_catalogue.specs.Left.{open_first, ComeInOrder, IsInTransitAt}
use Rattle.line_catalogue.proofs.OpenLemmas.{open-all, open-step}

-- what stands at a place of a list is an element of it
pub at_place : {X : Type 0} (xs : List X) (k : ℕ) (d : X) → k < length xs
    → Contains xs (get_or xs k d)
at_place xs k d within = (k, within, get_or_default xs k (get_or xs k d) d within)

-- no messages are in order
pub order-none : ComeInOrder []
order-none = record {
  senders = λ i j d l within. absurd (omega (arith, within));
  numbers = λ i j d l within. absurd (omega (arith, within));
}

-- the messages are in transit, in order, of the processes before p and of the first k sends of p
pub record AreOpenBelow (history : List Process) (line : List Choice) (messages : List MsgName)
    (p k : ℕ) : Type 0 where
  pub order : ComeInOrder messages
  pub below : (m : MsgName) → Contains messages m → (m.from ≤ p) × (m.from ≡ p → m.number < k)
  pub each : (m : MsgName) → Contains messages m → IsInTransitAt history line m

module _ (history : List Process) (line : List Choice) where
  pub below-none : AreOpenBelow history line [] 0 0
  below-none = record {
    order = order-none;
    below = λ m c. absurd (contains_nothing m c);
    each = λ m c. absurd (contains_nothing m c);
  }

  -- the next process
  pub below-next : (messages : List MsgName) (p k : ℕ) → AreOpenBelow history line messages p k
      → AreOpenBelow history line messages (p + 1) 0
  below-next messages p k are = record {
    order = are.order;
    below = λ m c.
        (omega (arith, (are.below m c).0), λ same. absurd (omega (arith, same, (are.below m c).0)));
    each = are.each;
  }

  -- a send that adds nothing
  pub below-more : (messages : List MsgName) (p k : ℕ) → AreOpenBelow history line messages p k
      → AreOpenBelow history line messages p (k + 1)
  below-more messages p k are = record {
    order = are.order;
    below = λ m c. ((are.below m c).0, λ same. omega (arith, (are.below m c).1 same));
    each = are.each;
  }

  -- a send that is in transit
  pub below-push : (messages : List MsgName) (p k inc to : ℕ)
      → AreOpenBelow history line messages p k → slice_get (incarnations_sent (events_before history
      line p)) k ≡ Some inc → slice_get (addressees (events_before history line p)) k ≡ Some to
      → has_received (events_before history line to) (name_of p inc k) ≡ false
      → AreOpenBelow history line (messages ++ name_of p inc k ∷ []) p (k + 1)
  below-push messages p k inc to are i a unseen =
      let name : MsgName = name_of p inc k in
      record {
        order = record {
          senders = IsNonDecreasingBy-push (λ (m : MsgName). m.from) messages name are.order.senders
              (λ d some. (are.below (get_or messages (length messages - 1) d)
              (at_place messages (length messages - 1) d (omega (arith, some)))).0);
          numbers = all_pairs_push
              (λ (x y : MsgName). x.from ≡ y.from → x.number < y.number) messages name
              are.order.numbers (λ j d within same.
              (are.below (get_or messages j d) (at_place messages j d within)).1 same);
        };
        below = λ m c. elim (Contains-push_cases messages name m c) [
          | inl earlier ↦
              ((are.below m earlier).0, λ same. omega (arith, (are.below m earlier).1 same))
          | inr e ↦ (
            omega (arith, ap (λ (v : MsgName). v.from) e),
            λ _. omega
                (arith, ap (λ (v : MsgName). v.number) e),
          )
        ];
        each = λ m c. elim (Contains-push_cases messages name m c) [
          | inl earlier ↦ are.each m earlier
          | inr e ↦ subst (IsInTransitAt history line) e
              (record { to = to; held = i; to_is = a; unread = unseen })
        ];
      }

  -- one send more
  pub below-step : (messages : List MsgName) (p k : ℕ) → k < sends (events_before history line p)
      → AreOpenBelow history line (messages ++ open_first history line p k) p k
      → AreOpenBelow history line (messages ++ open_first history line p (k + 1)) p (k + 1)
  below-step messages p k within are =
      let before : List Event = events_before history line p in
      let inc : ℕ = get_or (incarnations_sent before) k 0 in
      let to : ℕ = get_or (addressees before) k 0 in
      let i : slice_get (incarnations_sent before) k
      ≡ Some inc = slice_get-get_or (incarnations_sent before) k 0 within in
      let a : slice_get (addressees before) k ≡ Some to = slice_get-get_or (addressees before) k 0
      (omega (arith, within, length_addressees before)) in
      let name : MsgName = name_of p inc k in
      let so_far : List MsgName = open_first history line p k in
      let step : open_first history line p (k + 1) ≡ so_far ++ cond (has_received (events_before
      history line to) name) [] (name ∷ []) = open-step history line p k inc to i a in
      elim (has_received (events_before history line to) name) as
      (λ (b : Bool). has_received (events_before history line to) name ≡ b
      → AreOpenBelow history line (messages ++ open_first history line p (k + 1)) p (k + 1)) [
        | true ↦ λ e.
            let same : open_first history line p (k + 1)
            ≡ so_far = step ∙ ap (λ b. so_far ++ cond b [] (name ∷ [])) e ∙ append-nil so_far in
            subst (λ (xs : List MsgName). AreOpenBelow history line (messages ++ xs) p (k + 1))
            (sym same) (below-more (messages ++ so_far) p k are)
        | false ↦ λ e.
            let more : open_first history line p (k + 1)
            ≡ so_far ++ name ∷ [] = step ∙ ap (λ b. so_far ++ cond b [] (name ∷ [])) e in
            subst (λ (xs : List MsgName). AreOpenBelow history line xs p (k + 1))
            (append_assoc messages so_far (name ∷ []) ∙ ap (λ (xs : List MsgName). messages
            ++ xs) (sym more)) (below-push (messages ++ so_far) p k inc to are i a e)
      ] refl

  -- as many sends of a process
  pub below-first : (messages : List MsgName) (p k : ℕ) → k ≤ sends (events_before history line p)
      → AreOpenBelow history line messages p 0
      → AreOpenBelow history line (messages ++ open_first history line p k) p k
  below-first messages p zero few are = subst
      (λ (xs : List MsgName). AreOpenBelow history line xs p 0) (sym (append-nil messages)) are
  below-first messages p (suc k) few are =
      let next : k + 1 ≡ suc k = omega arith in
      subst (λ (j : ℕ). AreOpenBelow history line (messages ++ open_first history line p j) p j)
      next (below-step messages p k (omega (arith, few))
      (below-first messages p k (omega (arith, few)) are))

  -- all processes below n
  pub below-all : (n : ℕ) → AreOpenBelow history line (flat_map (λ p. map
      (λ (letter : Letter). letter.message) (open_letters history line p)) (range_with_len 0 n)) n 0
  below-all zero = below-none
  below-all (suc n) =
      let of : ℕ → List MsgName = λ p. map (λ (letter : Letter). letter.message)
      (open_letters history line p) in
      let so_far : List MsgName = flat_map of (range_with_len 0 n) in
      let last : 0 + n ≡ n = omega arith in
      let up : n + 1 ≡ suc n = omega arith in
      let next : range_with_len 0 (suc n) ≡ range_with_len 0 n
      ++ n ∷ [] = range-push n 0 ∙ ap (λ x. range_with_len 0 n ++ x ∷ []) last in
      let grown : so_far ++ of n ≡ flat_map of (range_with_len 0 (suc n)) = flat_map_more of []
      (range_with_len 0 n) n ∙ ap (flat_map of) (sym next) in
      let k : ℕ = sends (events_before history line n) in
      let are : AreOpenBelow history line (so_far ++ open_first history line n k) n k = below-first
      so_far n k (omega arith) (below-all n) in
      let own : AreOpenBelow history line (so_far ++ of n) n k = subst (λ (xs : List MsgName).
      AreOpenBelow history line (so_far ++ xs) n k) (open-all history line n) are in
      subst (λ (j : ℕ). AreOpenBelow history line (flat_map of (range_with_len 0 (suc n))) j 0) up
      (subst (λ (xs : List MsgName). AreOpenBelow history line xs (n + 1) 0) grown
      (below-next (so_far ++ of n) n k own))
