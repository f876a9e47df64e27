-- What links that keep their order can lead to, links without an order can lead to as well.
use Rattle.std.proofs.Common.{◌≡◌, ℕ, zero, suc, ◌<◌, true, false, cond, List, [], ◌∷◌, ◌++◌}
use Rattle.std.proofs.Common.{length, drop, get_or, Some, None, refl, sym, ap, ◌∙◌, subst, arith}
use Rattle.std.proofs.Common.{inl, inr}
use Rattle.std.specs.Prelude.{◌==◌}
use Rattle.std.specs.List.{filter_map, cons_option, slice_get, Contains}
use Rattle.std.proofs.lemmas.List.{append-nil}
use Rattle.std.proofs.lemmas.List.Elements.{filter_map-append}
use Rattle.std.proofs.lemmas.List.Kept.{AllPairs-cons}
use Rattle.std.proofs.lemmas.Bool.{eqb-true, eq-eqb}
use Rattle.line_names.specs.declared.messages.MsgName.{MsgName}
use Rattle.line_tape.specs.declared.events.Event.{Event}
use Rattle.line_tape.specs.declared.events.Event.TheVariants.{Send, Recv, Check, Mark}
use Rattle.line_tape.specs.declared.items.Item.TheVariants.{Message, Marker}
use Rattle.line_tape.specs.Event.{incarnations_sent}
use Rattle.line_tape.specs.Fit.{items_sent, item_received, received_from, link, AreDistinct}
use Rattle.line_tape.specs.Fit.{IsFitFifo, IsFitUnordered}
use Rattle.line_tape.specs.History.{Process, tape_at}
use Rattle.line_tape.specs.Transit.{names_received, addressees}
use Rattle.line_laws.proofs.LetterLemmas.{drop_next}
use Rattle.line_laws.proofs.SentLemmas.{messages, item_message, In, Ascends, Ascends-in}
use Rattle.line_laws.proofs.SentLemmas.{Ascends-weaken, In-append_left, sent_ascends, in_received}
use Rattle.line_tape.proofs.EventLemmas.{name_of}

-- what is sent to q is held, and is addressed to q
pub sent_is : (p q k : ℕ) (es : List Event) (incarnations tos more others : List ℕ) (m : MsgName)
    → drop k incarnations ≡ incarnations_sent es ++ more → drop k tos ≡ addressees es ++ others
    → In m (messages (items_sent p q k es))
    → (slice_get incarnations m.number ≡ Some m.inc) × (slice_get tos m.number ≡ Some q)
sent_is p q k [] incarnations tos more others m a b i = absurd i
sent_is p q k (Send to inc body ∷ es) incarnations tos more others m a b i =
    let here = drop_next incarnations k inc (incarnations_sent es ++ more) a in
    let there = drop_next tos k to (addressees es ++ others) b in
    elim (to == q) as
    (λ t. (to == q) ≡ t
    → In m (messages
    (cond t (Message (name_of p inc k) ∷ items_sent p q (suc k) es)
    (items_sent p q (suc k) es)))
    → (slice_get incarnations m.number ≡ Some m.inc) × (slice_get tos m.number ≡ Some q)) [
      | true ↦ λ t j. elim j [
        | inl e ↦ (
          subst
              (λ (v : MsgName). slice_get incarnations v.number ≡ Some v.inc) e here.0,
          subst (λ
              (v : MsgName). slice_get tos v.number ≡ Some q) e
              (there.0 ∙ ap Some (eqb-true to q t)),
        )
        | inr j' ↦ sent_is p q (suc k) es incarnations tos more others m here.1 there.1 j'
      ]
      | false ↦ λ t j. sent_is p q (suc k) es incarnations tos more others m here.1 there.1 j
    ] refl i
sent_is p q k (Recv c ∷ es) incarnations tos more others m a b i =
    sent_is p q k es incarnations tos more others m a b i
sent_is p q k (Check state None ∷ es) incarnations tos more others m a b i =
    sent_is p q k es incarnations tos more others m a b i
sent_is p q k (Check state (Some round) ∷ es) incarnations tos more others m a b i =
    sent_is p q k es incarnations tos more others m a b i
sent_is p q k (Mark from round ∷ es) incarnations tos more others m a b i =
    sent_is p q k es incarnations tos more others m a b i

-- what is received is among the names received
pub receipt_in : (es : List Event) (m : MsgName) → Contains es (Recv m) → In m (names_received es)
receipt_in [] m (k, l, e) = absurd (omega arith)
receipt_in (Send to inc body ∷ es) m (zero, l, e) = absurd (cc)
receipt_in (Send to inc body ∷ es) m (suc k, l, e) = receipt_in es m (k, omega arith, e)
receipt_in (Recv c ∷ es) m (zero, l, e) = inl cc
receipt_in (Recv c ∷ es) m (suc k, l, e) = inr (receipt_in es m (k, omega arith, e))
receipt_in (Check state round ∷ es) m (zero, l, e) = absurd (cc)
receipt_in (Check state round ∷ es) m (suc k, l, e) = receipt_in es m (k, omega arith, e)
receipt_in (Mark from round ∷ es) m (zero, l, e) = absurd (cc)
receipt_in (Mark from round ∷ es) m (suc k, l, e) = receipt_in es m (k, omega arith, e)

pub in_at : (xs : List MsgName) (k : ℕ) (d : MsgName) → k < length xs → In (get_or xs k d) xs
in_at [] k d l = absurd (omega arith)
in_at (x ∷ xs) zero d l = inl refl
in_at (x ∷ xs) (suc k) d l = inr (in_at xs k d (omega arith))

pub Ascends-front : (k : ℕ) (xs ys : List MsgName) → Ascends k (xs ++ ys) → Ascends k xs
Ascends-front k [] ys a = tt
Ascends-front k (m ∷ ms) ys (l, a) = (l, Ascends-front (suc m.number) ms ys a)

-- the numbers of what is received from each sender ascend
abbrev AreAscending : List Event → Type 0
AreAscending es = (p : ℕ) → Ascends 0 (messages (filter_map (item_received p) es))

ascending_rest : (c : MsgName) (es : List Event) → AreAscending (Recv c ∷ es) → AreAscending es
ascending_rest c es up p = elim (c.from == p) as
    (λ b. Ascends 0 (messages (cons_option (cond b (Some (Message c)) None)
    (filter_map (item_received p) es))) → Ascends 0 (messages (filter_map (item_received p) es))) [
      | true ↦ λ a. Ascends-weaken 0 (suc c.number) (messages (filter_map (item_received p) es))
          (omega arith) a.1
      | false ↦ λ a. a
    ] (up p)

ascending_mark : (from round : ℕ) (es : List Event) → AreAscending (Mark from round ∷ es)
    → AreAscending es
ascending_mark from round es up p = elim (from == p) as
    (λ b. Ascends 0 (messages (cons_option (cond b (Some (Marker round)) None)
    (filter_map (item_received p) es))) → Ascends 0 (messages (filter_map (item_received p) es))) [
      | true ↦ λ a. a
      | false ↦ λ a. a
    ] (up p)

-- so nothing is received twice
pub once_from : (es : List Event) → AreAscending es → AreDistinct (names_received es)
once_from [] up = λ i j d l within. absurd (omega arith)
once_from (Send to inc body ∷ es) up = once_from es up
once_from (Recv c ∷ es) up =
    let rest : AreAscending es = ascending_rest c es up in
    let ours : Ascends 0 (c ∷ messages (filter_map (item_received c.from) es)) = subst
    (λ b. Ascends 0 (messages (cons_option (cond b (Some (Message c)) None)
    (filter_map (item_received c.from) es)))) (eq-eqb c.from c.from refl) (up c.from) in
    AllPairs-cons (λ (x y : MsgName). x ≡ y → ⊥) c (names_received es) (λ k d l same.
    let again : In c (names_received es) = subst (λ (v : MsgName). In v (names_received es))
    (sym same) (in_at (names_received es) k d l) in
    omega (
      arith,
      Ascends-in (suc c.number) (messages (filter_map (item_received c.from) es)) c
          ours.1 (in_received c.from es c again refl),
    ))
    (once_from es rest)
once_from (Check state round ∷ es) up = once_from es up
once_from (Mark from round ∷ es) up = once_from es (ascending_mark from round es up)

-- the messages sent on a link are those received of it, and then those that it holds
pub messages_sent : (history : List Process) → IsFitFifo history → (p q : ℕ) → messages (items_sent
    p q 0 (tape_at history p)) ≡ messages (received_from history q p) ++ messages (link history p q)
messages_sent history fit p q = ap messages (sym (fit.order p q)) ∙ filter_map-append item_message
    (received_from history q p) (link history p q)

pub ordered_fit : (history : List Process) → IsFitFifo history → IsFitUnordered history
ordered_fit history fit = record {
  held = λ q m got.
      let p : ℕ = m.from in
      let tape : List Event = tape_at history p in
      let among : In m (messages (received_from history q p)) = in_received p (tape_at history q) m
      (receipt_in (tape_at history q) m got) refl in
      let put : In m (messages (items_sent p q 0 tape)) = subst (In m)
      (sym (messages_sent history fit p q)) (In-append_left m
      (messages (received_from history q p)) (messages (link history p q)) among) in
      let is = sent_is p q 0 tape (incarnations_sent tape) (addressees tape) [] [] m
      (sym (append-nil (incarnations_sent tape))) (sym (append-nil (addressees tape))) put in
      record { held = is.0; to_is = is.1 };
  once = λ q. once_from (tape_at history q) (λ p.
      Ascends-front 0 (messages (received_from history q p)) (messages (link history p q))
      (subst (Ascends 0) (messages_sent history fit p q) (sent_ascends p q 0 (tape_at history p))));
}
