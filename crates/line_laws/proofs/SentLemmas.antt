-- The messages on a link: their numbers ascend, and a restart keeps them alone.
use Rattle.std.proofs.Common.{◌≡◌, ℕ, suc, ◌+◌, ◌<◌, ◌≤◌, true, false, cond, List, [], ◌∷◌, ◌++◌}
use Rattle.std.proofs.Common.{length, map, Option, Some, None, refl, sym, ap, ◌∙◌, subst, arith}
use Rattle.std.proofs.Common.{inl, inr, ◌⊎◌}
use Rattle.std.specs.Prelude.{◌==◌}
use Rattle.std.specs.List.{filter_map, cons_option}
use Rattle.std.proofs.lemmas.Bool.{eqb-true, eq-eqb}
use Rattle.line_names.specs.declared.messages.MsgName.{MsgName}
use Rattle.line_tape.specs.declared.events.Event.{Event}
use Rattle.line_tape.specs.declared.events.Event.TheVariants.{Send, Recv, Check, Mark}
use Rattle.line_tape.specs.declared.items.Item.{Item}
use Rattle.line_tape.specs.declared.items.Item.TheVariants.{Message, Marker}
use Rattle.line_tape.specs.Event.{incarnations_sent}
use Rattle.line_tape.specs.Restart.{restarted_event}
use Rattle.line_tape.specs.Transit.{names_received}
use Rattle.line_tape.specs.Fit.{items_sent, item_received}
use Rattle.line_tape.proofs.EventLemmas.{name_of}

abbrev pub item_message : Item → Option MsgName
item_message (Message m) = Some m
item_message (Marker r) = None

-- the messages among some items
abbrev pub messages : List Item → List MsgName
messages items = filter_map item_message items

abbrev pub In : MsgName → List MsgName → Type 0
In m [] = ⊥
In m (x ∷ xs) = (x ≡ m) ⊎ In m xs

-- the numbers ascend from k on
abbrev pub Ascends : ℕ → List MsgName → Type 0
Ascends k [] = Unit {0}
Ascends k (m ∷ ms) = (k ≤ m.number) × Ascends (suc m.number) ms

-- a restart leaves the messages on what was sent
pub sent_restarted : (p q k : ℕ) (es : List Event) → items_sent p q k
    (filter_map restarted_event es) ≡ map (λ m. Message m) (messages (items_sent p q k es))
sent_restarted p q k [] = refl
sent_restarted p q k (Send to inc body ∷ es) =
    let ih = sent_restarted p q (suc k) es in
    elim (to == q) as
    (λ b. cond b
    (Message (name_of p inc k) ∷ items_sent p q (suc k) (filter_map restarted_event es))
    (items_sent p q (suc k) (filter_map restarted_event es))
    ≡ map (λ m. Message m)
    (messages (cond b (Message (name_of p inc k) ∷ items_sent p q (suc k) es)
    (items_sent p q (suc k) es))))
    [ true ↦ ap (λ (xs : List Item). Message (name_of p inc k) ∷ xs) ih | false ↦ ih ]
sent_restarted p q k (Recv message ∷ es) = sent_restarted p q k es
sent_restarted p q k (Check state None ∷ es) = sent_restarted p q k es
sent_restarted p q k (Check state (Some round) ∷ es) = sent_restarted p q k es
sent_restarted p q k (Mark from round ∷ es) = sent_restarted p q k es

-- and on what was received
pub received_restarted : (p : ℕ) (es : List Event) → filter_map (item_received p) (filter_map
    restarted_event es) ≡ map (λ m. Message m) (messages (filter_map (item_received p) es))
received_restarted p [] = refl
received_restarted p (Send to inc body ∷ es) = received_restarted p es
received_restarted p (Recv m ∷ es) =
    let ih = received_restarted p es in
    elim (m.from == p) as
    (λ b. cons_option (cond b (Some (Message m)) None)
    (filter_map (item_received p) (filter_map restarted_event es))
    ≡ map (λ m. Message m) (messages (cons_option (cond b (Some (Message m)) None) (filter_map
    (item_received p) es)))) [ true ↦ ap (λ (xs : List Item). Message m ∷ xs) ih | false ↦ ih ]
received_restarted p (Check state round ∷ es) = received_restarted p es
received_restarted p (Mark from round ∷ es) =
    let ih = received_restarted p es in
    elim (from == p) as
    (λ b. filter_map (item_received p) (filter_map restarted_event es)
    ≡ map (λ m. Message m) (messages (cons_option (cond b (Some (Marker round)) None)
    (filter_map (item_received p) es)))) [ true ↦ ih | false ↦ ih ]

-- what is sent by some events begins what is sent by them and more
pub sent_append : (p q k : ℕ) (xs ys : List Event)
    → (rest : List Item) × (items_sent p q k (xs ++ ys) ≡ items_sent p q k xs ++ rest)
sent_append p q k [] ys = (items_sent p q k ys, refl)
sent_append p q k (Send to inc body ∷ es) ys =
    let ih = sent_append p q (suc k) es ys in (
      ih.0,
      elim (to == q) as
          (λ b. cond b (Message (name_of p inc k) ∷ items_sent p q (suc k) (es ++ ys))
          (items_sent p q (suc k) (es ++ ys))
          ≡ cond b (Message (name_of p inc k) ∷ items_sent p q (suc k) es)
          (items_sent p q (suc k) es)
          ++ ih.0) [
            | true ↦ ap
                (λ (xs : List Item). Message (name_of p inc k) ∷ xs) ih.1
            | false ↦ ih.1
          ],
    )
sent_append p q k (Recv message ∷ es) ys = sent_append p q k es ys
sent_append p q k (Check state None ∷ es) ys = sent_append p q k es ys
sent_append p q k (Check state (Some round) ∷ es) ys =
    let ih = sent_append p q k es ys in (ih.0, ap (λ (xs : List Item). Marker round ∷ xs) ih.1)
sent_append p q k (Mark from round ∷ es) ys = sent_append p q k es ys

pub Ascends-weaken : (j k : ℕ) (ms : List MsgName) → j ≤ k → Ascends k ms → Ascends j ms
Ascends-weaken j k [] h a = tt
Ascends-weaken j k (m ∷ ms) h (l, a) = (omega arith, a)

pub sent_ascends : (p q k : ℕ) (es : List Event) → Ascends k (messages (items_sent p q k es))
sent_ascends p q k [] = tt
sent_ascends p q k (Send to inc body ∷ es) =
    let ih = sent_ascends p q (suc k) es in
    elim (to == q) as (λ b. Ascends k (messages (cond b
    (Message (name_of p inc k) ∷ items_sent p q (suc k) es) (items_sent p q (suc k) es)))) [
      | true ↦ (omega arith, ih)
      | false ↦ Ascends-weaken k (suc k) (messages (items_sent p q (suc k) es)) (omega arith) ih
    ]
sent_ascends p q k (Recv message ∷ es) = sent_ascends p q k es
sent_ascends p q k (Check state None ∷ es) = sent_ascends p q k es
sent_ascends p q k (Check state (Some round) ∷ es) = sent_ascends p q k es
sent_ascends p q k (Mark from round ∷ es) = sent_ascends p q k es

pub Ascends-in : (k : ℕ) (ms : List MsgName) (m : MsgName) → Ascends k ms → In m ms → k ≤ m.number
Ascends-in k [] m a i = absurd i
Ascends-in k (x ∷ xs) m (l, a) (inl e) = omega (arith, ap (λ (v : MsgName). v.number) e)
Ascends-in k (x ∷ xs) m (l, a) (inr i) = omega (arith, Ascends-in (suc x.number) xs m a i)

pub In-append_left : (m : MsgName) (xs ys : List MsgName) → In m xs → In m (xs ++ ys)
In-append_left m [] ys i = absurd i
In-append_left m (x ∷ xs) ys (inl e) = inl e
In-append_left m (x ∷ xs) ys (inr i) = inr (In-append_left m xs ys i)

-- of two beginnings of an ascending list, the one whose members are in the other begins that
pub begins : (k : ℕ) (s r x y : List MsgName) → Ascends k (s ++ x) → s ++ x ≡ r ++ y
    → ((m : MsgName) → In m r → In m s) → (z : List MsgName) × (s ≡ r ++ z)
begins k s [] x y a e within = (s, refl)
begins k [] (m ∷ r) x y a e within = absurd (within m (inl refl))
begins k (c ∷ s) (m ∷ r) x y (l, a) e within =
    let same : c ≡ m = cc in
    let rest : s ++ x ≡ r ++ y = cc in
    let above : Ascends (suc c.number) (r ++ y) = subst (Ascends (suc c.number)) rest a in
    let others : (n : MsgName) → In n r → In n s = λ n i. elim (within n (inr i)) [
      | inl e' ↦ absurd (omega (
        arith,
        ap (λ (v : MsgName). v.number) e',
        Ascends-in (suc c.number)
            (r ++ y) n above (In-append_left n r y i),
      ))
      | inr j ↦ j
    ] in
    let ih = begins (suc c.number) s r x y a rest others in
    (ih.0, ap (λ (v : MsgName). v ∷ s) same ∙ ap (λ (v : List MsgName). m ∷ v) ih.1)

-- a message among all that is sent, whose number is one of the first events' Sends, is among what
-- those send
pub sent_in_front : (p q k : ℕ) (xs ys : List Event) (m : MsgName)
    → In m (messages (items_sent p q k (xs ++ ys))) → m.number < k + length (incarnations_sent xs)
    → In m (messages (items_sent p q k xs))
sent_in_front p q k [] ys m i l = absurd
    (omega (arith, Ascends-in k (messages (items_sent p q k ys)) m (sent_ascends p q k ys) i))
sent_in_front p q k (Send to inc body ∷ es) ys m i l =
    elim (to == q) as
    (λ b. In m (messages
    (cond b (Message (name_of p inc k) ∷ items_sent p q (suc k) (es ++ ys))
    (items_sent p q (suc k) (es ++ ys)))) → In m (messages (cond b
    (Message (name_of p inc k) ∷ items_sent p q (suc k) es) (items_sent p q (suc k) es)))) [
      | true ↦ λ j. elim j [
        | inl e ↦ inl e
        | inr j' ↦ inr (sent_in_front p q (suc k) es ys m j' (omega arith))
      ]
      | false ↦ λ j. sent_in_front p q (suc k) es ys m j (omega arith)
    ] i
sent_in_front p q k (Recv message ∷ es) ys m i l = sent_in_front p q k es ys m i l
sent_in_front p q k (Check state None ∷ es) ys m i l = sent_in_front p q k es ys m i l
sent_in_front p q k (Check state (Some round) ∷ es) ys m i l = sent_in_front p q k es ys m i l
sent_in_front p q k (Mark from round ∷ es) ys m i l = sent_in_front p q k es ys m i l

pub sent_from : (p q k : ℕ) (es : List Event) (m : MsgName) → In m (messages (items_sent p q k es))
    → m.from ≡ p
sent_from p q k [] m i = absurd i
sent_from p q k (Send to inc body ∷ es) m i =
    elim (to == q) as (λ b. In m (messages (cond b (Message (name_of p inc k)
    ∷ items_sent p q (suc k) es) (items_sent p q (suc k) es))) → m.from ≡ p) [
      | true ↦ λ j. elim j [
        | inl e ↦ sym (ap (λ (v : MsgName). v.from) e)
        | inr j' ↦ sent_from p q (suc k) es m j'
      ]
      | false ↦ λ j. sent_from p q (suc k) es m j
    ] i
sent_from p q k (Recv message ∷ es) m i = sent_from p q k es m i
sent_from p q k (Check state None ∷ es) m i = sent_from p q k es m i
sent_from p q k (Check state (Some round) ∷ es) m i = sent_from p q k es m i
sent_from p q k (Mark from round ∷ es) m i = sent_from p q k es m i

-- what is received from p, as names, is what is received of names from p
pub received_in : (p : ℕ) (es : List Event) (m : MsgName)
    → In m (messages (filter_map (item_received p) es)) → In m (names_received es) × (m.from ≡ p)
received_in p [] m i = absurd i
received_in p (Send to inc body ∷ es) m i = received_in p es m i
received_in p (Recv c ∷ es) m i =
    elim (c.from == p) as
    (λ b. (c.from == p) ≡ b → In m (messages (cons_option (cond b (Some (Message c)) None)
    (filter_map (item_received p) es))) → In m (names_received (Recv c ∷ es)) × (m.from ≡ p)) [
      | true ↦ λ t j. elim j [
        | inl e ↦ (inl e, sym (ap (λ (v : MsgName). v.from) e) ∙ eqb-true c.from p t)
        | inr j' ↦ let ih = received_in p es m j' in (inr ih.0, ih.1)
      ]
      | false ↦ λ t j. let ih = received_in p es m j in (inr ih.0, ih.1)
    ] refl i
received_in p (Check state round ∷ es) m i = received_in p es m i
received_in p (Mark from round ∷ es) m i =
    elim (from == p) as (λ b. In m (messages (cons_option (cond b (Some (Marker round)) None)
    (filter_map (item_received p) es))) → In m (names_received es) × (m.from ≡ p)) [
      | true ↦ λ j. received_in p es m j
      | false ↦ λ j. received_in p es m j
    ] i

pub in_received : (p : ℕ) (es : List Event) (m : MsgName) → In m (names_received es) → m.from ≡ p
    → In m (messages (filter_map (item_received p) es))
in_received p [] m i f = absurd i
in_received p (Send to inc body ∷ es) m i f = in_received p es m i f
in_received p (Recv c ∷ es) m i f =
    elim (c.from == p) as (λ b. (c.from == p) ≡ b → In m (messages
    (cons_option (cond b (Some (Message c)) None) (filter_map (item_received p) es)))) [
      | true ↦ λ t. elim i [
        | inl e ↦ inl e
        | inr j ↦ inr (in_received p es m j f)
      ]
      | false ↦ λ t. elim i [
        | inl e ↦ absurd (cc (t, eq-eqb c.from p (ap (λ (v : MsgName). v.from) e ∙ f)))
        | inr j ↦ in_received p es m j f
      ]
    ] refl
in_received p (Check state round ∷ es) m i f = in_received p es m i f
in_received p (Mark from round ∷ es) m i f =
    elim (from == p) as (λ b. In m (messages
    (cons_option (cond b (Some (Marker round)) None) (filter_map (item_received p) es)))) [
      | true ↦ in_received p es m i f
      | false ↦ in_received p es m i f
    ]
