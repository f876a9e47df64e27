-- What links without an order can lead to stays so, by events and by restarts.
use Rattle.std.proofs.Common.{◌≡◌, ℕ, zero, suc, ◌<◌, Bool, true, false, cond, List, [], ◌∷◌, ◌++◌}
use Rattle.std.proofs.Common.{length, take, drop, replicate, get_or, Option, Some, None, refl, sym}
use Rattle.std.proofs.Common.{ap, ◌∙◌, subst, arith, inl, inr}
use Rattle.std.specs.Prelude.{◌==◌, ◌&&◌}
use Rattle.std.specs.List.{filter, cons_option, list_any, slice_get, All, AllPairs, Contains}
use Rattle.std.proofs.lemmas.List.{append-nil, take-append-drop, length-set, length-append}
use Rattle.std.proofs.lemmas.List.{get_or_append_left}
use Rattle.std.proofs.lemmas.List.Elements.{filter_map-append, filter_passes, All-nil, All-cons}
use Rattle.std.proofs.lemmas.List.Elements.{All-append, All-filter, All-map, All-weaker}
use Rattle.std.proofs.lemmas.List.Elements.{All-contains, Contains-append_left, Contains-push_cases}
use Rattle.std.proofs.lemmas.List.Quantifiers.{all_pairs_push}
use Rattle.std.proofs.lemmas.Bool.{cases_eq, both_ways, or_left, or_right, and_parts, eqb-true}
use Rattle.std.proofs.lemmas.Option.{slice_get_within}
use Rattle.line_names.specs.declared.messages.MsgName.{MsgName}
use Rattle.line_names.specs.declared.choices.Choice.{Choice}
use Rattle.line_names.specs.Lines.{choice_at}
use Rattle.line_names.specs.Names.{is_name}
use Rattle.line_names.proofs.NameLemmas.{is_name-same}
use Rattle.line_tape.specs.declared.events.Event.{Event}
use Rattle.line_tape.specs.declared.events.Event.TheVariants.{Send, Recv, Check, Mark}
use Rattle.line_tape.specs.Copies.{IsCopy, IsUnordered, copies_put}
use Rattle.line_tape.specs.Event.{incarnation_of, incarnations_sent, Holds}
use Rattle.line_tape.specs.Fit.{AreDistinct, IsSentTo, IsFitUnordered, IsNextUnordered}
use Rattle.line_tape.specs.Front.{place}
use Rattle.line_tape.specs.History.{Process, fresh, tape_at, incarnation_at, with_event}
use Rattle.line_tape.specs.Line.{events_before, IsConsistent}
use Rattle.line_tape.specs.Restart.{restarted_history}
use Rattle.line_tape.specs.Spent.{next_name, IsSpentName, HasNoLaterSend}
use Rattle.line_tape.specs.Transit.{Letter, open_letters, received_name, names_received}
use Rattle.line_tape.specs.Transit.{has_received, in_transit_between, addressee_of, addressees}
use Rattle.line_tape.specs.Transit.{addressee}
use Rattle.line_tape.proofs.FrontLemmas.{slice_get-append_left}
use Rattle.line_laws.proofs.LetterLemmas.{IsLetterOf, restarted_held, open_restarted, letter_sent}
use Rattle.line_tape.proofs.StayLemmas.{addressees_restarted, tape_restarted, holds_whole}
use Rattle.line_tape.proofs.StayLemmas.{incs_restarted, length_restarted, names_restarted}
use Rattle.line_tape.proofs.EventLemmas.{tape_same, tape_other, tape_grows, tape_start}
use Rattle.line_tape.proofs.EventLemmas.{length_addressees}
use Rattle.line_tape.proofs.ListLemmas.{slice_get_push, slice_get_front}
use Rattle.line_laws.proofs.SpentLemmas.{slice_get-push, holds_event, sent_spent, spent_event}
use Rattle.line_laws.proofs.SpentLemmas.{spent_restarted, no_later_event, no_later_restarted}
use Rattle.line_laws.proofs.SpentLemmas.{no_later_start}
use Rattle.line_tape.proofs.CutLemmas.{received_left}

-- the first part of what is apart is apart
pub AllPairs_front : {X : Type 0} (R : X → X → Type 0) (xs ys : List X) → AllPairs R (xs ++ ys)
    → AllPairs R xs
AllPairs_front R xs ys all i j d l within =
    subst (λ v. R v (get_or xs j d)) (get_or_append_left xs ys d i (omega arith))
    (subst (λ v. R (get_or (xs ++ ys) i d) v) (get_or_append_left xs ys d j within)
    (all i j d l (omega (arith, length-append xs ys))))

-- a message keeps its addressee by an event
pub addressee_event : (history : List Process) (at : ℕ) (e : Event) (m : MsgName) (q : ℕ) → at <
    length history → addressee history m ≡ Some q → addressee (with_event history at e) m ≡ Some q
addressee_event history at e m q h is =
    let grows = tape_grows history at e m.from h in
    ap (λ (tape : List Event). slice_get (addressees tape) m.number) grows.1
    ∙ ap (λ (v : List ℕ). slice_get v m.number)
    (filter_map-append addressee_of (tape_at history m.from) grows.0)
    ∙ slice_get-append_left (addressees (tape_at history m.from)) (addressees grows.0) m.number q is

pub sent_to_event : (history : List Process) (at : ℕ) (e : Event) (q : ℕ) (m : MsgName)
    → at < length history → IsSentTo history q m → IsSentTo (with_event history at e) q m
sent_to_event history at e q m h is = record {
  held = holds_event history at e m.from m.inc m.number h is.held;
  to_is = addressee_event history at e m q h is.to_is;
}

-- and by a restart that keeps its send
pub addressee_restarted : (history : List Process) (line : List Choice) (m : MsgName) (q : ℕ)
    → length line ≡ length history
    → Holds (tape_at (restarted_history history line) m.from) m.inc m.number
    → addressee history m ≡ Some q → addressee (restarted_history history line) m ≡ Some q
addressee_restarted history line m q e held is =
    let tape : List Event = tape_at history m.from in
    let n : ℕ = place tape (choice_at line m.from) in
    let es : List Event = events_before history line m.from in
    let within : m.number < length (incarnations_sent es) = slice_get_within
    (incarnations_sent es) m.number m.inc (ap (λ (v : List ℕ). slice_get v m.number)
    (sym (incs_restarted history line m.from e)) ∙ held) in
    let tos : addressees tape ≡ addressees es ++ addressees (drop n tape) = ap addressees (sym
    (take-append-drop n tape)) ∙ filter_map-append addressee_of (take n tape) (drop n tape) in
    let there : slice_get (addressees es) m.number
    ≡ Some q = slice_get_front (addressees es) (addressees (drop n tape)) m.number q
    (omega (arith, within, length_addressees es))
    (ap (λ (v : List ℕ). slice_get v m.number) (sym tos) ∙ is) in
    ap (λ (v : List ℕ). slice_get v m.number)
    (ap addressees (tape_restarted history line m.from e) ∙ addressees_restarted es) ∙ there

-- what a restarted tape holds, it held before
pub held_before : (history : List Process) (line : List Choice) (p inc k : ℕ)
    → length line ≡ length history → Holds (tape_at (restarted_history history line) p) inc k
    → Holds (tape_at history p) inc k
held_before history line p inc k e held = holds_whole history line p inc k
    (ap (λ (v : List ℕ). slice_get v k) (sym (incs_restarted history line p e)) ∙ held)

-- a name that stands among names is found there
pub any_at : (m : MsgName) (xs : List MsgName) (k : ℕ) (d : MsgName) → k < length xs
    → get_or xs k d ≡ m → list_any (is_name m) xs ≡ true
any_at m [] k d l same = absurd (omega arith)
any_at m (x ∷ xs) zero d l same = or_left _ _ (is_name-same m x (sym same))
any_at m (x ∷ xs) (suc k) d l same = or_right _ _ (any_at m xs k d (omega arith) same)

-- one name more that is not among them
pub names_push : (tape : List Event) (e : Event) → AreDistinct (names_received tape)
    → ((m : MsgName) → received_name e ≡ Some m → has_received tape m ≡ false)
    → AreDistinct (names_received (tape ++ e ∷ []))
names_push tape e a new = subst (λ (ms : List MsgName). AreDistinct ms)
    (sym (filter_map-append received_name tape (e ∷ []))) (added (received_name e) new)
  where
    added : (o : Option MsgName) → ((m : MsgName) → o ≡ Some m → has_received tape m ≡ false)
        → AreDistinct (names_received tape ++ cons_option o [])
    added None f =
        subst (λ (ms : List MsgName). AreDistinct ms) (sym (append-nil (names_received tape))) a
    added (Some m) f = all_pairs_push (λ (x y : MsgName). x ≡ y → ⊥) (names_received tape) m a
        (λ k d l same. both_ways (has_received tape m) (f m refl)
        (any_at m (names_received tape) k d l same))

-- what may come next
pub next_received : (history : List Process) (p : ℕ) (e : Event) → IsNextUnordered history p e
    → (m : MsgName) → e ≡ Recv m → IsSentTo history p m
next_received history p (Send to inc body) n m is = absurd (cc)
next_received history p (Recv c) n m is =
    let same : c ≡ m = cc in subst (IsSentTo history p) same n.0
next_received history p (Check state round) n m is = absurd (cc)
next_received history p (Mark from round) n m is = absurd (cc)

pub next_new : (history : List Process) (p : ℕ) (e : Event) → IsNextUnordered history p e
    → (m : MsgName) → received_name e ≡ Some m → has_received (tape_at history p) m ≡ false
next_new history p (Send to inc body) n m is = absurd (cc)
next_new history p (Recv c) n m is = let same : c
    ≡ m = cc in subst (λ (v : MsgName). has_received (tape_at history p) v ≡ false) same n.1
next_new history p (Check state round) n m is = absurd (cc)
next_new history p (Mark from round) n m is = absurd (cc)

pub next_present : (history : List Process) (p : ℕ) (e : Event) → IsNextUnordered history p e
    → (inc : ℕ) → incarnation_of e ≡ Some inc → inc ≡ incarnation_at history p
next_present history p (Send to i body) n inc is = let same : i ≡ inc = cc in sym same ∙ n
next_present history p (Recv c) n inc is = absurd (cc)
next_present history p (Check state round) n inc is = absurd (cc)
next_present history p (Mark from round) n inc is = absurd (cc)

module _ (history : List Process) (at : ℕ) (e : Event) (h : at < length history)
    (next : IsNextUnordered history at e) where
  -- the history still fits
  pub fit_event : IsFitUnordered history → IsFitUnordered (with_event history at e)
  fit_event fit = record {
    held = λ q m received. elim (cases_eq q at) [
      | inl same ↦ elim (Contains-push_cases (tape_at history q) e (Recv m) (subst
          (λ (es : List Event). Contains es (Recv m)) (tape_same history at e q h same) received)) [
            | inl earlier ↦ sent_to_event history at e q m h (fit.held q m earlier)
            | inr now ↦ sent_to_event history at e q m h (subst (λ (v : ℕ). IsSentTo history v m)
                (sym same) (next_received history at e next m now))
          ]
      | inr other ↦ sent_to_event history at e q m h (fit.held q m (subst
          (λ (es : List Event). Contains es (Recv m)) (tape_other history at e q other) received))
    ];
    once = λ q. elim (cases_eq q at) [
      | inl same ↦ subst (λ (es : List Event). AreDistinct (names_received es))
          (sym (tape_same history at e q h same))
          (names_push (tape_at history q) e (fit.once q)
          (subst (λ (v : ℕ). (m : MsgName) → received_name e ≡ Some m → has_received
          (tape_at history v) m ≡ false) (sym same) (next_new history at e next)))
      | inr other ↦ subst (λ (es : List Event). AreDistinct (names_received es))
          (sym (tape_other history at e q other)) (fit.once q)
    ];
  }

  -- a spent name that is held afterwards was held before
  pub held_back : (m : MsgName) → IsSpentName history m → Holds (tape_at (with_event history at e)
      m.from) m.inc m.number → Holds (tape_at history m.from) m.inc m.number
  held_back m spent held = elim (cases_eq m.from at) [
    | inl same ↦ back same (incarnation_of e) (next_present history at e next)
        (ap (λ (v : List ℕ). slice_get v m.number)
        (sym (ap incarnations_sent (tape_same history at e m.from h same) ∙ filter_map-append
        incarnation_of (tape_at history m.from) (e ∷ []))) ∙ held)
    | inr other ↦ subst (λ (es : List Event). Holds es m.inc m.number)
        (tape_other history at e m.from other) held
  ]
    where
      incs : List ℕ
      incs = incarnations_sent (tape_at history m.from)

      fresh_one : m.from ≡ at → (inc : ℕ) → inc ≡ incarnation_at history at → m.number ≡ length incs
          → inc ≡ m.inc → IsSpentName history m → ⊥
      fresh_one same inc present last is (inl before) =
          omega (arith, last, slice_get_within incs m.number m.inc before)
      fresh_one same inc present last is (inr below) =
          omega (arith, below, present, is, ap (incarnation_at history) same)

      back : m.from ≡ at → (o : Option ℕ)
          → ((inc : ℕ) → o ≡ Some inc → inc ≡ incarnation_at history at) → slice_get
          (incs ++ cons_option o []) m.number ≡ Some m.inc → slice_get incs m.number ≡ Some m.inc
      back same None f there =
          ap (λ (v : List ℕ). slice_get v m.number) (sym (append-nil incs)) ∙ there
      back same (Some inc) f there = elim (slice_get_push incs inc m.inc m.number there) [
        | inl a ↦ a.1
        | inr b ↦ absurd (fresh_one same inc (f inc refl) b.0 b.1 spent)
      ]

  -- a copy stays one
  pub copy_event : (p q : ℕ) (m : MsgName) → IsCopy history p q m
      → IsCopy (with_event history at e) p q m
  copy_event p q m is = record {
    from_is = is.from_is;
    spent = spent_event history at e m h is.spent;
    to_is = λ held. addressee_event history at e m q h (is.to_is (held_back m is.spent held));
  }

-- a send's message goes to its addressee
pub sent_addressee : (history : List Process) (at to inc : ℕ) (body : List ℕ) → at < length history
    → addressee (with_event history at (Send to inc body)) (next_name history at) ≡ Some to
sent_addressee history at to inc body h =
    let tape : List Event = tape_at history at in
    let e : Event = Send to inc body in
    let tos : addressees (tape_at (with_event history at e) at)
    ≡ addressees tape ++ to ∷ [] = ap addressees
    (tape_same history at e at h refl) ∙ filter_map-append addressee_of tape (e ∷ []) in
    ap (λ (v : List ℕ). slice_get v (length (incarnations_sent tape))) tos ∙ ap
    (slice_get (addressees tape ++ to ∷ [])) (sym (length_addressees tape)) ∙ slice_get-push
    (addressees tape) to

-- what an event puts on a link is a copy there
pub copies_added : (history : List Process) (at : ℕ) (e : Event) (p q : ℕ) → at < length history
    → IsNextUnordered history at e
    → All (IsCopy (with_event history at e) p q) (copies_put history at e p q)
copies_added history at (Send to inc body) p q h n = put ((p == at) && (q == to)) refl
  where
    new : List Process
    new = with_event history at (Send to inc body)

    put : (b : Bool) → ((p == at) && (q == to)) ≡ b
        → All (IsCopy new p q) (cond b (next_name history at ∷ []) [])
    put false t = All-nil (IsCopy new p q)
    put true t =
        let parts = and_parts (p == at) (q == to) t in
        let from : p ≡ at = eqb-true p at parts.0 in
        let for : q ≡ to = eqb-true q to parts.1 in
        All-cons (IsCopy new p q) (next_name history at) [] (record {
          from_is = sym from;
          spent = subst (λ (i : ℕ). IsSpentName (with_event history at (Send to i body))
              (next_name history at)) (sym n) (sent_spent history at to body h);
          to_is = λ held. sent_addressee history at to inc body h ∙ ap Some (sym for);
        }) (All-nil (IsCopy new p q))
copies_added history at (Recv m) p q h n = All-nil (IsCopy (with_event history at (Recv m)) p q)
copies_added history at (Check state round) p q h n =
    All-nil (IsCopy (with_event history at (Check state round)) p q)
copies_added history at (Mark from round) p q h n =
    All-nil (IsCopy (with_event history at (Mark from round)) p q)

-- by an event that may come next all of it stays so
pub unordered_event : (history : List Process) (at : ℕ) (e : Event) (old new : ℕ → ℕ → List MsgName)
    → IsUnordered history old → at < length history → IsNextUnordered history at e
    → ((p q : ℕ) → p < length history → q < length history → new p q
    ≡ old p q ++ copies_put history at e p q) → IsUnordered (with_event history at e) new
unordered_event history at e old new is h next grows = record {
  fit = fit_event history at e h next is.fit;
  links = λ p q lp lq.
      let long : length (with_event history at e) ≡ length history = length-set history at _ in
      let wp : p < length history = omega (arith, lp, long) in
      let wq : q < length history = omega (arith, lq, long) in
      subst (All (IsCopy (with_event history at e) p q)) (sym (grows p q wp wq))
      (All-append (IsCopy (with_event history at e) p q) (old p q) (copies_put history at e p q)
      (All-weaker (IsCopy history p q) (IsCopy (with_event history at e) p q)
      (copy_event history at e h next p q) (old p q) (is.links p q wp wq))
      (copies_added history at e p q h next));
  sends = no_later_event history at e is.sends h
      (λ inc send. omega (arith, next_present history at e next inc send));
}

module _ (history : List Process) (line : List Choice) (consistent : IsConsistent history line)
    (same : length line ≡ length history) where
  -- after a restart at a consistent line the history still fits
  pub fit_restarted : IsFitUnordered history → IsFitUnordered (restarted_history history line)
  fit_restarted fit = record {
    held = λ q m received.
        let held : Holds (tape_at (restarted_history history line) m.from) m.inc m.number =
        restarted_held history line consistent same q m received in
        let n : ℕ = place (tape_at history q) (choice_at line q) in
        let before : Contains (events_before history line q) (Recv m) = received_left
        (events_before history line q) m (subst (λ (es : List Event). Contains es (Recv m))
        (tape_restarted history line q same) received) in
        let whole : Contains (tape_at history q) (Recv m) = subst
        (λ (es : List Event). Contains es (Recv m)) (take-append-drop n (tape_at history q))
        (Contains-append_left (take n (tape_at history q)) (drop n (tape_at history q))
        (Recv m) before) in
        record {
          held = held;
          to_is = addressee_restarted history line m q same held
              ((fit.held q m whole).to_is);
        };
    once = λ q.
        let tape : List Event = tape_at history q in
        let n : ℕ = place tape (choice_at line q) in
        let split : names_received tape
        ≡ names_received (take n tape)
        ++ names_received (drop n tape) = ap names_received (sym (take-append-drop n tape)) ∙
        filter_map-append received_name (take n tape) (drop n tape) in
        subst (λ (ms : List MsgName). AreDistinct ms) (sym (ap names_received
        (tape_restarted history line q same) ∙ names_restarted (events_before history line q)))
        (AllPairs_front (λ (x y : MsgName). x ≡ y → ⊥) (names_received (take n tape))
        (names_received (drop n tape))
        (subst (λ (ms : List MsgName). AreDistinct ms) split (fit.once q)));
  }

  -- a copy stays one
  pub copy_restarted : HasNoLaterSend history → (p q : ℕ) (m : MsgName) → IsCopy history p q m
      → IsCopy (restarted_history history line) p q m
  copy_restarted no_later p q m is = record {
    from_is = is.from_is;
    spent = spent_restarted history line m no_later same is.spent;
    to_is = λ held. addressee_restarted history line m q same held
        (is.to_is (held_before history line m.from m.inc m.number same held));
  }

  -- what was in transit on a link is a copy there
  pub transit_copies : (p q : ℕ)
      → All (IsCopy (restarted_history history line) p q) (in_transit_between history line p q)
  transit_copies p q =
      let held : List Process = restarted_history history line in
      let is : Letter → Type 0 = IsLetterOf p (incarnations_sent (tape_at held p))
      (addressees (tape_at held p)) in
      let ours : Letter → Bool = λ (letter : Letter). letter.to == q in
      let are : All is (filter ours (open_letters history line p)) = All-filter ours is
      (open_letters history line p) (open_restarted history line same p) in
      let go : All (λ (letter : Letter). ours letter ≡ true) (filter ours
      (open_letters history line p)) = filter_passes ours (open_letters history line p) in
      All-map (IsCopy held p q) (λ (letter : Letter). letter.message)
      (filter ours (open_letters history line p)) (λ k d l. one _ (are k d l) (go k d l))
    where
      one : (letter : Letter)
          → IsLetterOf p (incarnations_sent (tape_at (restarted_history history line) p))
          (addressees (tape_at (restarted_history history line) p)) letter → (letter.to == q) ≡ true
          → IsCopy (restarted_history history line) p q letter.message
      one letter is to =
          let sent = letter_sent (restarted_history history line) p letter is in
          record {
            from_is = is.from_is;
            spent = inl sent.held;
            to_is = λ held. sent.to_is ∙ ap Some
                (eqb-true letter.to q to);
          }

-- by a restart at a consistent line all of it stays so
pub unordered_restarted : (history : List Process) (line : List Choice) (old new : ℕ → ℕ → List
    MsgName) → IsUnordered history old → IsConsistent history line → length line ≡ length history
    → ((p q : ℕ) → p < length history → q < length history → new p q ≡ old p q
    ++ in_transit_between history line p q) → IsUnordered (restarted_history history line) new
unordered_restarted history line old new is consistent same grows = record {
  fit = fit_restarted history line consistent same is.fit;
  links = λ p q lp lq.
      let wp : p < length history = omega (arith, lp, length_restarted history line same) in
      let wq : q < length history = omega (arith, lq, length_restarted history line same) in
      subst (All (IsCopy (restarted_history history line) p q)) (sym (grows p q wp wq))
      (All-append (IsCopy (restarted_history history line) p q) (old p q)
      (in_transit_between history line p q)
      (All-weaker (IsCopy history p q) (IsCopy (restarted_history history line) p q)
      (copy_restarted history line consistent same is.sends p q) (old p q) (is.links p q wp wq))
      (transit_copies history line consistent same p q));
  sends = no_later_restarted history line is.sends same;
}

-- before anything is done
pub unordered_start : (n : ℕ) (copies : ℕ → ℕ → List MsgName) → ((p q : ℕ) → copies p q ≡ [])
    → IsUnordered (replicate n fresh) copies
unordered_start n copies none = record {
  fit = record {
    held = λ q m received. absurd
        (nothing m (subst (λ (es : List Event). Contains es (Recv m)) (tape_start n q) received));
    once = λ q. subst (λ (es : List Event). AreDistinct (names_received es)) (sym (tape_start n q))
        (λ i j d l within. absurd (omega arith));
  };
  links = λ p q lp lq. subst (All (IsCopy (replicate n fresh) p q)) (sym (none p q))
      (All-nil (IsCopy (replicate n fresh) p q));
  sends = no_later_start n;
}
  where
    nothing : (m : MsgName) → Contains [] (Recv m) → ⊥
    nothing m (k, l, at) = omega (arith, l)

-- a copy that is held is for the process that it goes to
pub copy_addressed : (history : List Process) (copies : ℕ → ℕ → List MsgName) (p q : ℕ)
    (m : MsgName) → IsUnordered history copies → p < length history → q < length history
    → Contains (copies p q) m
    → Holds (tape_at history m.from) m.inc m.number → IsSentTo history q m
copy_addressed history copies p q m is lp lq on held =
    let copy : IsCopy history p q m = All-contains (IsCopy history p q) (copies p q) m
    (is.links p q lp lq) on in
    record { held = held; to_is = copy.to_is held }
