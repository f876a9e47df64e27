-- What links hold where a generation begins, read off the tapes.
use Rattle.std.proofs.Common.{add-one, cond, zero, suc, ◌≡◌, ◌∙◌, ◌+◌, ◌++◌, ◌∷◌, [], ℕ, List}
use Rattle.std.proofs.Common.{Option, Some, None, length, take, drop, refl, sym, ap, subst, inl}
use Rattle.std.proofs.Common.{inr, arith}
use Rattle.std.specs.Prelude.{slice_get}
use Rattle.std.specs.List.{cons_option}
use Rattle.std.proofs.lemmas.Bool.{cases_lt, eq-eqb, ne_eqb}
use Rattle.std.proofs.lemmas.List.{length-append, get_or_past}
use Rattle.std.proofs.lemmas.List.Elements.{filter_map-append}
use Rattle.std.proofs.lemmas.Option.{get_or_from_slice_get, slice_get_within}
use Rattle.line_tape.specs.declared.events.Event.{Event}
use Rattle.line_tape.specs.declared.events.Event.TheVariants.{Send}
use Rattle.line_tape.specs.Event.{sends, incarnation_of, incarnations_sent, IsShort}
use Rattle.line_tape.specs.Fit.{received_from}
use Rattle.line_tape.specs.History.{Process, IsTape}
use Rattle.line_tape.specs.Rounds.{checked_round, rounds_checked}
use Rattle.line_tape.proofs.LineLemmas.{tape_at-past}
use Rattle.line_posts.specs.declared.parcels.Packet.{Packet}
use Rattle.line_posts.specs.declared.parcels.Parcel.TheVariants.{Message}
use Rattle.line_posts.specs.Parcels.{parcels_of, parcels_sent}
use Rattle.line_posts.specs.Fleets.{AreReplays, AreReplaysBelow}

pub take_next : {X : Type 0} (xs : List X) (i : ℕ) (x : X) → slice_get xs i ≡ Some x
    → take (i + 1) xs ≡ take i xs ++ x ∷ []
take_next xs i x e = rw (add-one i) (go xs i x e)
  where
    go : {X : Type 0} (xs : List X) (i : ℕ) (x : X) → slice_get xs i ≡ Some x
        → take (suc i) xs ≡ take i xs ++ x ∷ []
    go [] i x e = cc e
    go (y ∷ ys) zero x e = ap (λ t. t ∷ []) (cc e)
    go (y ∷ ys) (suc i) x e = ap (λ t. y ∷ t) (go ys i x e)

pub drop_next : {X : Type 0} (xs : List X) (j i : ℕ) (x : X) → slice_get xs j ≡ Some x → i ≡ j + 1
    → drop j xs ≡ x ∷ drop i xs
drop_next xs j i x e is = (let s : i ≡ suc j = omega (arith, is) in rw s (go xs j x e))
  where
    go : {X : Type 0} (xs : List X) (j : ℕ) (x : X) → slice_get xs j ≡ Some x
        → drop j xs ≡ x ∷ drop (suc j) xs
    go [] j x e = cc e
    go (y ∷ ys) zero x e = ap (λ t. t ∷ ys) (cc e)
    go (y ∷ ys) (suc j) x e = go ys j x e

-- what an event puts on the ring to q, where it is no round's check
pub sent_to : (q k to inc : ℕ) (body : List ℕ) → to ≡ q → parcels_sent q k (Send to inc body ∷ [])
    ≡ Message (record { inc = inc; number = k; body = body }) ∷ []
sent_to q k to inc body e = ap
    (λ b. cond b (Message (record { inc = inc; number = k; body = body }) ∷ []) []) (eq-eqb to q e)

pub sent_past : (q k to inc : ℕ) (body : List ℕ) → (to ≡ q → ⊥)
    → parcels_sent q k (Send to inc body ∷ []) ≡ []
sent_past q k to inc body ne = ap
    (λ b. cond b (Message (record { inc = inc; number = k; body = body }) ∷ []) []) (ne_eqb to q ne)

pub sends_push : (tape : List Event) (event : Event)
    → sends (tape ++ event ∷ []) ≡ sends tape + sends (event ∷ [])
sends_push tape event = ap length (filter_map-append incarnation_of tape (event ∷ [])) ∙
    length-append (incarnations_sent tape) (incarnations_sent (event ∷ []))

-- each event of a tape is short
pub short_at : (tape : List Event) (i : ℕ) (event : Event) → IsTape tape
    → slice_get tape i ≡ Some event → IsShort event
short_at tape i event h at = subst IsShort (get_or_from_slice_get tape i event event at)
    (h.short i event (slice_get_within tape i event at))

pub drop_none : {X : Type 0} (n : ℕ) → drop {A = X} n [] ≡ []
drop_none zero = refl
drop_none (suc n) = refl

pub replays_all : (history : List Process) (q n : ℕ) (kept : List (List Packet))
    → n ≡ length history → AreReplaysBelow n history q kept → AreReplays history q kept
replays_all history q n kept long h = record {
  count = h.count ∙ long;
  each = λ p. elim (cases_lt p n) [
    | inl lt ↦ h.each p lt
    | inr past ↦
        let c = h.count in
        ap parcels_of (get_or_past kept p [] (omega (arith, past, c)))
        ∙ (sym (drop_none (length (received_from history q p))) ∙ ap
        (λ t. drop (length (received_from history q p)) (parcels_sent q 0 t))
        (sym (tape_at-past history p (omega (arith, past, long)))))
  ];
}

some_same : {X : Type 0} (x y : X) → Some x ≡ Some y → x ≡ y
some_same x y e = cc e

first_none : {X : Type 0} (o : Option X) (xs : List X) → cons_option o xs ≡ [] → o ≡ None
first_none None xs e = refl
first_none (Some x) xs e = cc e

rest_none : {X : Type 0} (o : Option X) (xs : List X) → cons_option o xs ≡ [] → xs ≡ []
rest_none None xs e = e
rest_none (Some x) xs e = cc e

-- each event of a tape without rounds is no round's check
pub plain_at : (tape : List Event) (i : ℕ) (event : Event) → rounds_checked tape ≡ []
    → slice_get tape i ≡ Some event → checked_round event ≡ None
plain_at [] i event e at = cc at
plain_at (x ∷ xs) zero event e at = ap checked_round (sym (some_same x event at)) ∙ first_none
    (checked_round x) (rounds_checked xs) e
plain_at (x ∷ xs) (suc i) event e at =
    plain_at xs i event (rest_none (checked_round x) (rounds_checked xs) e) at
