-- A restart at a consistent line keeps the order of links, and leaves on them what is in transit.
use Rattle.std.proofs.Common.{◌≡◌, ℕ, zero, suc, ◌<◌, Bool, true, false, cond, not, List, [], ◌∷◌}
use Rattle.std.proofs.Common.{◌++◌, length, take, drop, map, Some, None, refl, sym, ap, ◌∙◌, subst}
use Rattle.std.proofs.Common.{arith, inl, inr}
use Rattle.std.specs.Prelude.{◌==◌}
use Rattle.std.specs.List.{filter_map, filter, list_any, Contains, slice_get}
use Rattle.std.proofs.lemmas.List.{append_assoc, map-append, take-append-drop}
use Rattle.std.proofs.lemmas.List.Elements.{filter_map-append, Contains-append_right}
use Rattle.std.proofs.lemmas.Bool.{eqb-true, or_cases, or_left, or_right, false_from_ne_true}
use Rattle.std.proofs.lemmas.Option.{slice_get_within}
use Rattle.line_names.specs.declared.messages.MsgName.{MsgName}
use Rattle.line_names.specs.declared.choices.Choice.{Choice}
use Rattle.line_tape.specs.declared.events.Event.{Event}
use Rattle.line_tape.specs.declared.events.Event.TheVariants.{Send, Recv, Check, Mark}
use Rattle.line_tape.specs.declared.items.Item.{Item}
use Rattle.line_tape.specs.declared.items.Item.TheVariants.{Message}
use Rattle.line_names.specs.Lines.{choice_at}
use Rattle.line_names.specs.Names.{is_name}
use Rattle.line_names.proofs.NameLemmas.{is_name-true, is_name-same}
use Rattle.line_tape.specs.Event.{incarnations_sent}
use Rattle.line_tape.specs.Front.{place}
use Rattle.line_tape.specs.History.{Process, tape_at}
use Rattle.line_tape.specs.Line.{events_before, IsConsistent}
use Rattle.line_tape.specs.Restart.{restarted_history, restarted_event}
use Rattle.line_tape.specs.Transit.{Letter, letters, is_open_letter, has_received, names_received}
use Rattle.line_tape.specs.Transit.{in_transit_between}
use Rattle.line_tape.specs.Rounds.{rounds_checked}
use Rattle.line_tape.specs.Fit.{items_sent, item_received, sent_between, received_from, link}
use Rattle.line_tape.specs.Fit.{AreDistinct, IsFitFifo}
use Rattle.line_laws.proofs.SentLemmas.{messages, item_message, In, Ascends, Ascends-in}
use Rattle.line_laws.proofs.SentLemmas.{In-append_left, begins, sent_restarted, received_restarted}
use Rattle.line_laws.proofs.SentLemmas.{sent_append, sent_ascends, sent_in_front, sent_from}
use Rattle.line_laws.proofs.SentLemmas.{received_in, in_received}
use Rattle.line_tape.proofs.EventLemmas.{name_of}
use Rattle.line_laws.proofs.NextLemmas.{prefix_from, rest_from}
use Rattle.line_tape.proofs.StayLemmas.{tape_restarted}

pub contains_receipt : (es : List Event) (m : MsgName) → In m (names_received es)
    → Contains es (Recv m)
contains_receipt [] m i = absurd i
contains_receipt (Send to inc body ∷ es) m i =
    Contains-append_right (Send to inc body ∷ []) es (Recv m) (contains_receipt es m i)
contains_receipt (Recv c ∷ es) m (inl e) = (0, omega arith, ap (λ (v : MsgName). Recv v) e)
contains_receipt (Recv c ∷ es) m (inr i) =
    Contains-append_right (Recv c ∷ []) es (Recv m) (contains_receipt es m i)
contains_receipt (Check state round ∷ es) m i =
    Contains-append_right (Check state round ∷ []) es (Recv m) (contains_receipt es m i)
contains_receipt (Mark from round ∷ es) m i =
    Contains-append_right (Mark from round ∷ []) es (Recv m) (contains_receipt es m i)

pub In-append_right : (m : MsgName) (xs ys : List MsgName) → In m ys → In m (xs ++ ys)
In-append_right m [] ys i = i
In-append_right m (x ∷ xs) ys i = inr (In-append_right m xs ys i)

-- what is received before a consistent line begins what is sent before it, but for markers
pub behind : (history : List Process) (line : List Choice) → IsFitFifo history
    → IsConsistent history line → (p q : ℕ)
    → (z : List MsgName) × (messages (items_sent p q 0 (events_before history line p))
    ≡ messages (filter_map (item_received p) (events_before history line q)) ++ z)
behind history line fit consistent p q =
    let i : ℕ = place (tape_at history p) (choice_at line p) in
    let j : ℕ = place (tape_at history q) (choice_at line q) in
    let tape : List Event = tape_at history p in
    let other : List Event = tape_at history q in
    let more = sent_append p q 0 (take i tape) (drop i tape) in
    let split : take i tape ++ drop i tape ≡ tape = take-append-drop i tape in
    let by_sent : messages (items_sent p q 0 tape)
    ≡ messages (items_sent p q 0 (take i tape)) ++ messages more.0 =
    ap (λ (es : List Event). messages (items_sent p q 0 es)) (sym split) ∙ ap messages more.1 ∙
    filter_map-append item_message (items_sent p q 0 (take i tape)) more.0 in
    let got : List Item = filter_map (item_received p) (take j other) in
    let later : List Item = filter_map (item_received p) (drop j other) in
    let parts : filter_map (item_received p) other ≡ got ++ later =
    ap (filter_map (item_received p)) (sym (take-append-drop j other)) ∙ filter_map-append
    (item_received p) (take j other) (drop j other) in
    let held : List Item = link history p q in
    let by_received : messages (items_sent p q 0 tape)
    ≡ messages got ++ (messages later ++ messages held) =
    ap messages (sym (fit.order p q)) ∙ filter_map-append item_message
    (received_from history q p) held
    ∙ ap (λ (v : List MsgName). v ++ messages held)
    (ap messages parts ∙ filter_map-append item_message got later)
    ∙ append_assoc (messages got) (messages later) (messages held) in
    let within : (m : MsgName) → In m (messages got)
    → In m (messages (items_sent p q 0 (take i tape))) = λ m k.
    let from_p = received_in p (take j other) m k in
    let before = consistent q m (contains_receipt (take j other) m from_p.0) in
    let number : m.number < length
    (incarnations_sent (events_before history line m.from)) = slice_get_within
    (incarnations_sent (events_before history line m.from)) m.number m.inc before in
    let number_p : m.number < length (incarnations_sent (take i tape)) = subst (λ (x : ℕ). m.number
    < length (incarnations_sent (events_before history line x))) from_p.1 number in
    let among : In m (messages (items_sent p q 0 tape)) = subst (In m) (sym by_received)
    (In-append_left m (messages got) (messages later ++ messages held) k) in
    let among_parts : In m (messages (items_sent p q 0 (take i tape ++ drop i tape))) = subst
    (λ (es : List Event). In m (messages (items_sent p q 0 es))) (sym split) among in
    sent_in_front p q 0 (take i tape) (drop i tape) m among_parts (omega (arith, number_p)) in
    begins 0 (messages (items_sent p q 0 (take i tape))) (messages got) (messages more.0)
    (messages later ++ messages held)
    (subst (Ascends 0) by_sent (sent_ascends p q 0 tape)) (sym by_sent ∙ by_received) within

-- what is sent after the restart is what is received after it, and then these messages
pub sent_after : (history : List Process) (line : List Choice) → length line ≡ length history
    → (p q : ℕ) (z : List MsgName)
    → messages (items_sent p q 0 (events_before history line p))
    ≡ messages (filter_map (item_received p) (events_before history line q)) ++ z
    → sent_between (restarted_history history line) p q
    ≡ received_from (restarted_history history line) q p ++ map (λ m. Message m) z
sent_after history line e p q z b =
    let mr : List MsgName = messages
    (filter_map (item_received p) (events_before history line q)) in
    let got : received_from (restarted_history history line) q p ≡ map (λ m. Message m) mr =
    ap (filter_map (item_received p)) (tape_restarted history line q e) ∙ received_restarted p
    (events_before history line q) in
    ap (items_sent p q 0) (tape_restarted history line p e) ∙ sent_restarted p q 0
    (events_before history line p) ∙ ap (map (λ m. Message m)) b
    ∙ map-append (λ m. Message m) mr z ∙ ap (λ (v : List Item). v ++ map (λ m. Message m) z)
    (sym got)

pub no_rounds : (es : List Event) → rounds_checked (filter_map restarted_event es) ≡ []
no_rounds [] = refl
no_rounds (Send to inc body ∷ es) = no_rounds es
no_rounds (Recv m ∷ es) = no_rounds es
no_rounds (Check state round ∷ es) = no_rounds es
no_rounds (Mark from round ∷ es) = no_rounds es

pub no_mark : (es : List Event) (i from round : ℕ)
    → slice_get (filter_map restarted_event es) i ≡ Some (Mark from round) → ⊥
no_mark [] i from round e = cc
no_mark (Send to inc body ∷ es) zero from round e = cc
no_mark (Send to inc body ∷ es) (suc i) from round e = no_mark es i from round e
no_mark (Recv m ∷ es) zero from round e = cc
no_mark (Recv m ∷ es) (suc i) from round e = no_mark es i from round e
no_mark (Check state r ∷ es) zero from round e = cc
no_mark (Check state r ∷ es) (suc i) from round e = no_mark es i from round e
no_mark (Mark f r ∷ es) i from round e = no_mark es i from round e

pub has_in : (m : MsgName) (xs : List MsgName) → In m xs → list_any (is_name m) xs ≡ true
has_in m [] i = absurd i
has_in m (x ∷ xs) (inl e) =
    or_left _ _ (subst (λ (v : MsgName). is_name m v ≡ true) (sym e) (is_name-same m m refl))
has_in m (x ∷ xs) (inr i) = or_right _ _ (has_in m xs i)

pub in_has : (m : MsgName) (xs : List MsgName) → list_any (is_name m) xs ≡ true → In m xs
in_has m [] t = absurd (cc)
in_has m (x ∷ xs) t = elim (or_cases _ _ t) [
  | inl a ↦ inl (sym (is_name-true m x a))
  | inr b ↦ inr (in_has m xs b)
]

pub not_in_both : (k : ℕ) (r z : List MsgName) (m : MsgName) → Ascends k (r ++ z) → In m r → In m z
    → ⊥
not_in_both k [] z m a i j = absurd i
not_in_both k (c ∷ r) z m (l, a) (inl e) j = omega (
  arith,
  ap
      (λ (v : MsgName). v.number) e,
  Ascends-in (suc c.number) (r ++ z) m a (In-append_right m r z j),
)
not_in_both k (c ∷ r) z m (l, a) (inr i) j = not_in_both (suc c.number) r z m a i j

pub all_pass : (f : MsgName → Bool) (z : List MsgName) → ((m : MsgName) → In m z → f m ≡ true)
    → filter f z ≡ z
all_pass f [] h = refl
all_pass f (x ∷ xs) h = ap (λ b. cond b (x ∷ filter f xs) (filter f xs)) (h x (inl refl)) ∙ ap
    (λ (v : List MsgName). x ∷ v) (all_pass f xs (λ m i. h m (inr i)))

pub only_rest : (f : MsgName → Bool) (r z : List MsgName) → ((m : MsgName) → In m r → f m ≡ false)
    → ((m : MsgName) → In m z → f m ≡ true) → filter f (r ++ z) ≡ z
only_rest f [] z g h = all_pass f z h
only_rest f (x ∷ r) z g h = ap (λ b. cond b (x ∷ filter f (r ++ z)) (filter f (r ++ z)))
    (g x (inl refl)) ∙ only_rest f r z (λ m i. g m (inr i)) h

-- what is in transit from p to q is what p sends to q and q has not received
pub between_is : (history : List Process) (line : List Choice) (p q k : ℕ) (es : List Event)
    → map (λ (letter : Letter). letter.message) (filter (λ (letter : Letter). letter.to == q)
    (filter (is_open_letter history line) (letters p k es)))
    ≡ filter (λ (m : MsgName). not (has_received (events_before history line q) m))
    (messages (items_sent p q k es))
between_is history line p q k [] = refl
between_is history line p q k (Send to inc body ∷ es) =
    let ih = between_is history line p q (suc k) es in
    let n : MsgName = name_of p inc k in
    let l : Letter = record { message = n; to = to } in
    let rest : List Letter = filter (is_open_letter history line) (letters p (suc k) es) in
    let ours : List Letter → List Letter = filter (λ (letter : Letter). letter.to == q) in
    let names : List Letter → List MsgName = map (λ (letter : Letter). letter.message) in
    let g : MsgName → Bool = λ m. not (has_received (events_before history line q) m) in
    let items : List Item = items_sent p q (suc k) es in
    elim (to == q) as (λ b. (to == q) ≡ b → names (ours (cond (is_open_letter history line l)
    (l ∷ rest) rest)) ≡ filter g (messages (cond b (Message n ∷ items) items))) [
      | true ↦ λ t.
          let open_is : is_open_letter history line l ≡ g n = ap
          (λ (x : ℕ). not (has_received (events_before history line x) n)) (eqb-true to q t) in
          ap (λ v. names (ours (cond v (l ∷ rest) rest))) open_is
          ∙ elim (g n) as (λ v. names (ours (cond v (l ∷ rest) rest))
          ≡ cond v (n ∷ filter g (messages items)) (filter g (messages items))) [
            | true ↦ ap (λ w. names (cond w (l ∷ ours rest) (ours rest))) t ∙ ap
                (λ (v : List MsgName). n ∷ v) ih
            | false ↦ ih
          ]
      | false ↦ λ t. elim (is_open_letter history line l) as
          (λ v. names (ours (cond v (l ∷ rest) rest)) ≡ filter g (messages items)) [
            | true ↦ ap (λ w. names (cond w (l ∷ ours rest) (ours rest))) t ∙ ih
            | false ↦ ih
          ]
    ] refl
between_is history line p q k (Recv m ∷ es) = between_is history line p q k es
between_is history line p q k (Check state None ∷ es) = between_is history line p q k es
between_is history line p q k (Check state (Some round) ∷ es) = between_is history line p q k es
between_is history line p q k (Mark from round ∷ es) = between_is history line p q k es

-- so it is the rest of what is sent before the line after what is received before it
pub transit_is : (history : List Process) (line : List Choice) (p q : ℕ) (z : List MsgName)
    → messages (items_sent p q 0 (events_before history line p))
    ≡ messages (filter_map (item_received p) (events_before history line q)) ++ z
    → in_transit_between history line p q ≡ z
transit_is history line p q z b =
    let ours : List Event = events_before history line q in
    let mr : List MsgName = messages (filter_map (item_received p) ours) in
    let g : MsgName → Bool = λ m. not (has_received ours m) in
    let ascends : Ascends 0 (mr ++ z) = subst (Ascends 0) b
    (sent_ascends p q 0 (events_before history line p)) in
    let gone : (m : MsgName) → In m mr
    → g m ≡ false = λ m i. ap not (has_in m (names_received ours) (received_in p ours m i).0) in
    let stays : (m : MsgName) → In m z → g m ≡ true = λ m i.
    let from_p : m.from ≡ p = sent_from p q 0 (events_before history line p) m
    (subst (In m) (sym b) (In-append_right m mr z i)) in
    let unseen : has_received ours m
    ≡ false = false_from_ne_true (has_received ours m) (λ t. not_in_both 0 mr z m ascends
    (in_received p ours m (in_has m (names_received ours) t) from_p) i) in
    ap not unseen in
    between_is history line p q 0 (events_before history line p) ∙ ap
    (filter g) b ∙ only_rest g mr z gone stays

-- a restart at a consistent line keeps a history fit
pub restart_fit : (history : List Process) (line : List Choice) → IsFitFifo history → IsConsistent
    history line → length line ≡ length history → IsFitFifo (restarted_history history line)
restart_fit history line fit consistent e = record {
  order = λ p q.
      let b = behind history line fit consistent p q in
      prefix_from (received_from (restarted_history history line) q p)
      (sent_between (restarted_history history line) p q) (map (λ m. Message m) b.0)
      (sent_after history line e p q b.0 b.1);
  rounds = λ p.
      let none : rounds_checked (tape_at (restarted_history history line) p)
      ≡ [] = ap rounds_checked (tape_restarted history line p e) ∙ no_rounds
      (events_before history line p) in
      subst (λ (rs : List ℕ). AreDistinct rs) (sym none) (λ i j d l k. absurd (omega arith));
  marks = λ p i from round h.
      absurd (no_mark (events_before history line p) i from round
      (ap (λ (es : List Event). slice_get es i) (sym (tape_restarted history line p e)) ∙ h));
}

-- and then each link holds what was in transit on it
pub restart_link : (history : List Process) (line : List Choice) → IsFitFifo history
    → IsConsistent history line → length line ≡ length history → (p q : ℕ)
    → link (restarted_history history line) p q
    ≡ map (λ m. Message m) (in_transit_between history line p q)
restart_link history line fit consistent e p q =
    let b = behind history line fit consistent p q in
    rest_from (received_from (restarted_history history line) q p) (sent_between (restarted_history
    history line) p q) (map (λ m. Message m) b.0) (sent_after history line e p q b.0 b.1)
    ∙ ap (map (λ m. Message m)) (sym (transit_is history line p q b.0 b.1))
