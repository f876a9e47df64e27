-- Each kind of step keeps what a world keeps true of links in order.
use Rattle.std.proofs.Common.{◌≡◌, ◌≢◌, ℕ, ◌<◌, Bool, true, false, cond, List, [], ◌∷◌, ◌++◌}
use Rattle.std.proofs.Common.{length, get_or, drop, Some, None, refl, sym, ap, ◌∙◌, subst, arith}
use Rattle.std.proofs.Common.{inl, inr}
use Rattle.std.specs.List.{slice_get, cons_option}
use Rattle.std.proofs.lemmas.Bool.{cases_eq, eq-eqb, ne_eqb}
use Rattle.std.proofs.lemmas.List.{append-nil, length-set, get_or-set_same, get_or-set_other}
use Rattle.std.proofs.lemmas.List.FromFn.{get_or-map-range_with_len}
use Rattle.std.specs.Prelude.{◌==◌, if◌then◌else◌}
use Rattle.line_names.specs.declared.messages.MsgName.{MsgName}
use Rattle.line_tape.specs.declared.events.Event.{Event}
use Rattle.line_tape.specs.declared.events.Event.TheVariants.{Send, Recv, Check, Mark}
use Rattle.line_tape.specs.declared.items.Item.{Item}
use Rattle.line_tape.specs.declared.items.Item.TheVariants.{Message, Marker}
use Rattle.line_tape.specs.Event.{sends}
use Rattle.line_tape.specs.Fit.{link, IsNextFifo, items_put, items_got}
use Rattle.line_tape.specs.History.{Process, process_at, tape_at, with_event}
use Rattle.line_laws.proofs.NextLemmas.{stays_fit, link_after}
use Rattle.line_tape.specs.Rounds.{has_check_of}
use Rattle.line_laws.proofs.CompletionLemmas.{contains_round}
use Rattle.line_moves.specs.Queues.{with_on_each, with_on_others}
use Rattle.line_rounds.specs.Tables.{between, with_list}
use Rattle.line_moves.specs.Worlds.{AreQueues, IsOrderedWorld}
use Rattle.line_rounds.proofs.TableLemmas.{between-other, between-same}

-- nothing either way
same_nil : (b : Bool) → cond b [] [] ≡ (let none : List Item = [] in none)
same_nil true = refl
same_nil false = refl

-- there are as many processes as before
pub length-with_event : (history : List Process) (at : ℕ) (event : Event)
    → length (with_event history at event) ≡ length history
length-with_event history at event = length-set history at
    (record (process_at history at) { tape = tape_at history at ++ event ∷ [] })

-- the first of a list, and the rest
pub first_rest : (xs : List Item) (x : Item) → slice_get xs 0 ≡ Some x → xs ≡ x ∷ drop 1 xs
first_rest [] x e = absurd (cc)
first_rest (y ∷ xs) x e = let same : y ≡ x = cc in ap (λ (v : Item). v ∷ xs) same

module _ (history : List Process) (queues : List (List (List Item)))
    (are : AreQueues history queues) (world : IsOrderedWorld history queues) where
  -- a row and a column of queues
  pub row_within : (p : ℕ) → p < length history → p < length queues
  row_within p within = omega (arith, are.shape.rows)

  pub column_within : (p q : ℕ) → p < length history → q < length history
      → q < length (get_or queues p [])
  column_within p q p_within q_within = omega (arith, are.shape.columns p p_within)

  -- a link that an event neither takes from nor puts on
  link_same : (at : ℕ) (event : Event) → at < length history → (p q : ℕ)
      → p < length (with_event history at event) → q < length (with_event history at event) → p ≢ q
      → items_got at event p q ≡ [] → items_put history at event p q ≡ []
      → between queues p q ≡ link (with_event history at event) p q
  link_same at event within p q p_within q_within other got put =
      world.links p q (omega (arith, p_within, length-with_event history at event))
      (omega (arith, q_within, length-with_event history at event)) other
      ∙ sym (append-nil (link history p q))
      ∙ ap (λ (xs : List Item). link history p q ++ xs) (sym put)
      ∙ sym (link_after history at event world.fit within p q (link history p q)
      (ap (λ (xs : List Item). xs ++ link history p q) (sym got)))

  -- a check without a round
  pub IsOrdered-check : (at : ℕ) (state : List ℕ) → at < length history
      → IsOrderedWorld (with_event history at (Check state None)) queues
  IsOrdered-check at state within =
      let event : Event = Check state None in
      record {
        fit = stays_fit history at event world.fit within tt;
        links = λ p q p_within q_within other. link_same at event within p q p_within q_within other
            (same_nil (q == at)) (same_nil (p == at));
      }

  module _ (from to : ℕ) (from_within : from < length history)
      (to_within : to < length history) where
    -- a message sent
    module _ (inc : ℕ) (body : List ℕ) where
      sent_there : items_put history from (Send to inc body) from to
          ≡ Message (record { from = from; inc = inc; number = sends (tape_at history from) }) ∷ []
      sent_there =
          ap (λ b. cond b (cond (to == to) (Message (record {
            from = from;
            inc = inc;
            number = sends
                (tape_at history from);
          }) ∷ []) []) []) (eq-eqb from from refl)
          ∙ ap (λ b. cond b (Message (record {
            from = from;
            inc = inc;
            number = sends
                (tape_at history from);
          }) ∷ []) []) (eq-eqb to to refl)

      sent_elsewhere : (p q : ℕ) → ((p ≡ from) × (q ≡ to) → ⊥)
          → items_put history from (Send to inc body) p q ≡ []
      sent_elsewhere p q apart = elim (cases_eq p from) [
        | inl same ↦ ap
            (λ b. cond (p == from) (cond b (Message (record {
              from = p;
              inc = inc;
              number = sends
                  (tape_at history p);
            }) ∷ []) []) []) (ne_eqb to q (λ e. apart (same, sym e)))
            ∙ same_nil (p == from)
        | inr other ↦ ap (λ b. cond b (cond (to == q) (Message (record {
          from = p;
          inc = inc;
          number
              = sends (tape_at history p);
        }) ∷ []) []) []) (ne_eqb p from other)
      ]

      pub IsOrdered-send : IsOrderedWorld (with_event history from (Send to inc body))
          (with_list queues from to (between queues from to ++ Message
          (record { from = from; inc = inc; number = sends (tape_at history from) }) ∷ []))
      IsOrdered-send =
          let event : Event = Send to inc body in
          let item : Item = Message
          (record { from = from; inc = inc; number = sends (tape_at history from) }) in
          let items : List Item = between queues from to ++ item ∷ [] in
          let row = row_within from from_within in
          let there : between (with_list queues from to items) from to ≡ items = between-same queues
          from to items row (column_within from to from_within to_within) in
          let after : link (with_event history from event) from to
          ≡ link history from to ++ items_put history from event from to =
          link_after history from event world.fit from_within from to (link history from to)
          (ap (λ (xs : List Item). xs ++ link history from to) (sym (same_nil (to == from)))) in
          record {
            fit = stays_fit history from event world.fit from_within tt;
            links = λ p q p_within q_within other. elim (cases_eq p from) [
              | inl p_same ↦ elim (cases_eq q to) [
                | inl q_same ↦ subst (λ (v : ℕ). between (with_list queues from to items) v q
                    ≡ link (with_event history from event) v q) (sym p_same)
                    (subst (λ (v : ℕ). between (with_list queues from to items) from v
                    ≡ link (with_event history from event) from v) (sym q_same)
                    (there ∙ ap (λ (xs : List Item). xs ++ item ∷ [])
                    (world.links from to from_within to_within
                    (λ e. other (p_same ∙ e ∙ sym q_same))) ∙ ap (λ
                    (xs : List Item). link history from to ++ xs) (sym sent_there) ∙ sym after))
                | inr q_other ↦ between-other queues from to items row p q (λ e. q_other e.1)
                    ∙ link_same from event from_within p q p_within q_within other
                    (same_nil (q == from)) (sent_elsewhere p q (λ e. q_other e.1))
              ]
              | inr p_other ↦ between-other queues from to items row p q (λ e. p_other e.0)
                  ∙ link_same from event from_within p q p_within q_within other
                  (same_nil (q == from)) (sent_elsewhere p q (λ e. p_other e.0))
            ];
          }

    -- the first item of a link taken off
    module _ (apart : from ≢ to) (e : Event) (item : Item)
        (first : slice_get (between queues from to) 0 ≡ Some item) (got : (p q : ℕ) → items_got to e
        p q ≡ cond (q == to) (cons_option (cond (from == p) (Some item) None) []) [])
        (puts : (p q : ℕ) → items_put history to e p q ≡ []) where
      taken_elsewhere : (p q : ℕ) → ((p ≡ from) × (q ≡ to) → ⊥) → items_got to e p q ≡ []
      taken_elsewhere p q apart = got p q ∙ elim (cases_eq q to) [
        | inl same ↦ ap (λ b. cond (q == to) (cons_option (cond b (Some item) None) []) [])
            (ne_eqb from p (λ e. apart (sym e, same)))
            ∙ same_nil (q == to)
        | inr other ↦ ap (λ b. cond b (cons_option (cond (from == p) (Some item) None) []) [])
            (ne_eqb q to other)
      ]

      taken_there : items_got to e from to ≡ item ∷ []
      taken_there =
          got from to ∙ ap (λ b. cond b (cons_option (cond (from == from) (Some item) None) []) [])
          (eq-eqb to to refl)
          ∙ ap (λ b. cons_option (cond b (Some item) None) []) (eq-eqb from from refl)

      pub held : link history from to ≡ item ∷ drop 1 (between queues from to)
      held = sym (world.links from to from_within to_within apart) ∙ first_rest
          (between queues from to) item first

      pub IsOrdered-off : IsNextFifo history to e → IsOrderedWorld (with_event history to e)
          (with_list queues from to (drop 1 (between queues from to)))
      IsOrdered-off next =
          let items : List Item = drop 1 (between queues from to) in
          let row = row_within from from_within in
          let there : between (with_list queues from to items) from to ≡ items = between-same queues
          from to items row (column_within from to from_within to_within) in
          let after : link (with_event history to e) from to
          ≡ items ++ items_put history to e from to =
          link_after history to e world.fit to_within from to items
          (held ∙ ap (λ (xs : List Item). xs ++ items) (sym taken_there)) in
          record {
            fit = stays_fit history to e world.fit to_within next;
            links = λ p q p_within q_within other. elim (cases_eq p from) [
              | inl p_same ↦ elim (cases_eq q to) [
                | inl q_same ↦ subst (λ (v : ℕ). between (with_list queues from to items) v q
                    ≡ link (with_event history to e) v q) (sym p_same)
                    (subst (λ (v : ℕ). between (with_list queues from to items) from v
                    ≡ link (with_event history to e) from v) (sym q_same)
                    (there ∙ sym (append-nil items) ∙ ap (λ (xs : List Item). items ++ xs)
                    (sym (puts from to)) ∙ sym after))
                | inr q_other ↦ between-other queues from to items row p q (λ e. q_other e.1)
                    ∙ link_same to e to_within p q p_within q_within other
                    (taken_elsewhere p q (λ e. q_other e.1)) (puts p q)
              ]
              | inr p_other ↦ between-other queues from to items row p q (λ e. p_other e.0)
                  ∙ link_same to e to_within p q p_within q_within other
                  (taken_elsewhere p q (λ e. p_other e.0)) (puts p q)
            ];
          }

    -- a message delivered
    pub IsOrdered-take : from ≢ to → (message : MsgName)
        → slice_get (between queues from to) 0 ≡ Some (Message message) → message.from ≡ from
        → IsOrderedWorld (with_event history to (Recv message))
        (with_list queues from to (drop 1 (between queues from to)))
    IsOrdered-take apart message first named =
        let e : Event = Recv message in
        let item : Item = Message message in
        let got : (p q : ℕ) → items_got to e p q
        ≡ cond (q == to) (cons_option (cond (from == p) (Some item) None) []) [] =
        λ p q. ap (λ (v : ℕ). cond (q == to) (cons_option (cond (v == p) (Some item) None) []) [])
        named in
        let puts : (p q : ℕ) → items_put history to e p q ≡ [] = λ p q. same_nil (p == to) in
        IsOrdered-off apart e item first got puts (
          drop 1 (between queues from to),
          ap
              (λ (v : ℕ). link history v to) named ∙ held apart e item first got puts,
        )

    -- a marker delivered
    pub IsOrdered-mark : from ≢ to → (r : ℕ) → slice_get (between queues from to) 0
        ≡ Some (Marker r) → has_check_of r (tape_at history to) ≡ true
        → IsOrderedWorld (with_event history to (Mark from r))
        (with_list queues from to (drop 1 (between queues from to)))
    IsOrdered-mark apart r first begun =
        let e : Event = Mark from r in
        let item : Item = Marker r in
        let got : (p q : ℕ) → items_got to e p q ≡ cond (q == to)
        (cons_option (cond (from == p) (Some item) None) []) [] = λ p q. refl in
        let puts : (p q : ℕ) → items_put history to e p q ≡ [] = λ p q. same_nil (p == to) in
        IsOrdered-off apart e item first got puts (
          (
            drop 1 (between queues from to),
            held apart e
                item first got puts,
          ),
          contains_round (tape_at history to) r begun,
        )

  -- a check of a round puts its marker on the link to each other process
  module _ (at : ℕ) (within : at < length history) (state : List ℕ) (r : ℕ) where
    pub each-same : (q : ℕ) → q < length history → between (with_on_each queues at (Marker r)) at q
        ≡ between queues at q ++ (if at == q then [] else Marker r ∷ [])
    each-same q q_within =
        let row : List (List Item) = get_or queues at [] in
        ap (λ (xs : List (List Item)). get_or xs q [])
        (get_or-set_same queues at (with_on_others row at (Marker r)) [] (row_within at within))
        ∙ get_or-map-range_with_len (λ k. get_or row k [] ++ (if at == k then [] else Marker r
        ∷ [])) 0 (length row) q q [] (column_within at q within q_within) (omega arith)

    pub each-other : (p q : ℕ) → p ≢ at
        → between (with_on_each queues at (Marker r)) p q ≡ between queues p q
    each-other p q other = ap (λ (xs : List (List Item)). get_or xs q [])
        (get_or-set_other queues at p (with_on_others (get_or queues at []) at (Marker r)) [] other)

    pub IsOrdered-round : has_check_of r (tape_at history at) ≡ false → IsOrderedWorld
        (with_event history at (Check state (Some r))) (with_on_each queues at (Marker r))
    IsOrdered-round none =
        let e : Event = Check state (Some r) in
        let size = length-with_event history at e in
        record {
          fit = stays_fit history at e world.fit within none;
          links = λ p q p_within q_within apart.
              let p_in : p < length history = omega (arith, p_within, size) in
              let q_in : q < length history = omega (arith, q_within, size) in
              let after : link (with_event history at e) p q
              ≡ link history p q ++ items_put history at e p q =
              link_after history at e world.fit within p q (link history p q)
              (ap (λ (xs : List Item). xs ++ link history p q) (sym (same_nil (q == at)))) in
              elim (cases_eq p at) [
                | inl same ↦ ap (λ (v : ℕ). between (with_on_each queues at (Marker r)) v q) same ∙
                    each-same q q_in
                    ∙ ap (λ b. between queues at q ++ cond b [] (Marker r ∷ []))
                    (ne_eqb at q (λ e. apart (same ∙ e)))
                    ∙ ap (λ (v : ℕ). between queues v q ++ Marker r ∷ []) (sym same)
                    ∙ ap (λ (xs : List Item). xs ++ Marker r ∷ []) (world.links p q p_in q_in apart)
                    ∙ ap (λ b. link history p q ++ cond b (Marker r ∷ []) [])
                    (sym (eq-eqb p at same)) ∙ sym after
                | inr other ↦ each-other p q other ∙ world.links p q p_in q_in apart ∙ sym
                    (append-nil (link history p q))
                    ∙ ap (λ b. link history p q ++ cond b (Marker r ∷ []) [])
                    (sym (ne_eqb p at other)) ∙ sym after
              ];
        }
