-- What a world keeps true holds where nothing was done yet.
use Rattle.std.proofs.Common.{◌≡◌, ℕ, ◌<◌, List, [], length, drop, get_or, replicate, None, refl}
use Rattle.std.proofs.Common.{sym, ap, ◌∙◌, subst, arith, inl, inr}
use Rattle.std.specs.List.{All, filter_map}
use Rattle.std.proofs.lemmas.Bool.{both_ways, cases_lt}
use Rattle.std.proofs.lemmas.List.Elements.{All-nil}
use Rattle.std.proofs.lemmas.List.{get_or-replicate, get_or_past, length-replicate}
use Rattle.line_names.specs.declared.messages.MsgName.{MsgName}
use Rattle.line_tape.specs.declared.events.Event.{Event}
use Rattle.line_tape.specs.declared.items.Item.{Item}
use Rattle.line_tape.specs.Fit.{items_sent, item_received, IsPrefix, AreDistinct, MarksFollow}
use Rattle.line_tape.specs.History.{Process, fresh, tape_at}
use Rattle.line_laws.proofs.CopyLemmas.{unordered_start}
use Rattle.line_tape.specs.Rounds.{has_check_of, rounds_checked}
use Rattle.line_tape.specs.declared.modes.Mode.{Mode}
use Rattle.line_tape.specs.declared.modes.Mode.TheVariants.{Fifo, Unordered}
use Rattle.line_rounds.specs.Tables.{between, IsTable}
use Rattle.line_moves.specs.Modes.{copies_in}
use Rattle.line_moves.proofs.WorldLemmas.{names-at, names-shape}
use Rattle.line_rounds.proofs.TableLemmas.{between-none, table_of-all, IsTable-none}
use Rattle.line_moves.specs.Worlds.{IsItemOf, message_of, messages_at, names_on, AreQueues}
use Rattle.line_moves.specs.Worlds.{AreRounds, HoldMessages, IsOrderedWorld, IsLinked, IsMessage}
use Rattle.line_moves.specs.Worlds.{IsWorld}
use Rattle.line_moves.specs.Listed.{ListedRound, IsSnapshotOf}

get_or-replicate_self : {X : Type 0} (n i : ℕ) (x : X) → get_or (replicate n x) i x ≡ x
get_or-replicate_self n i x = elim (cases_lt i n) [
  | inl below ↦ get_or-replicate n i x x below
  | inr past ↦ get_or_past (replicate n x) i x (omega (arith, past, length-replicate n x))
]

module _ (n : ℕ) where
  pub tape-start : (p : ℕ) → tape_at (replicate n fresh) p ≡ []
  tape-start p = ap (λ (v : Process). v.tape) (get_or-replicate_self n p fresh)

  queue-start : (p q : ℕ) → between {A = Item} (replicate n (replicate n [])) p q ≡ []
  queue-start = between-none n

  order-start : (p q : ℕ) → (s t : List Event) → [] ≡ s → [] ≡ t
      → IsPrefix (filter_map (item_received p) t) (items_sent p q 0 s)
  order-start p q s t e f =
      let P : List Event → List Event
      → Type 0 = λ s t. IsPrefix (filter_map (item_received p) t) (items_sent p q 0 s) in
      subst (λ (v : List Event). P v t) e (subst (λ (v : List Event). P [] v) f refl)

  link-start : (p q : ℕ) → (s t : List Event) → [] ≡ s → [] ≡ t
      → drop (length (filter_map (item_received p) t)) (items_sent p q 0 s) ≡ []
  link-start p q s t e f =
      let P : List Event → List Event → Type 0 = λ s t. drop
      (length (filter_map (item_received p) t)) (items_sent p q 0 s) ≡ [] in
      subst (λ (v : List Event). P v t) e (subst (λ (v : List Event). P [] v) f refl)

  shape-start : IsTable {A = Item} (length (replicate n fresh)) (replicate n (replicate n []))
  shape-start = subst (λ (v : ℕ). IsTable {A = Item} v (replicate n (replicate n [])))
      (sym (length-replicate n fresh)) (IsTable-none n)

  AreQueues-start : AreQueues (replicate n fresh) (replicate n (replicate n []))
  AreQueues-start = record {
    shape = shape-start;
    messages = λ p q. subst (λ (xs : List Item). All (IsItemOf p) xs) (sym (queue-start p q))
        (λ k d within. absurd (omega (arith, within)));
  }

  IsOrdered-start : IsOrderedWorld (replicate n fresh) (replicate n (replicate n []))
  IsOrdered-start = record {
    fit = record {
      order = λ p q. order-start p q (tape_at (replicate n fresh) p) (tape_at (replicate n fresh) q)
          (sym (tape-start p)) (sym (tape-start q));
      rounds = λ p. subst (λ (v : List Event). AreDistinct (rounds_checked v)) (sym (tape-start p))
          (λ i j d near far. absurd (omega (arith, far)));
      marks = λ p. subst MarksFollow (sym (tape-start p)) (λ i from round e. absurd (cc));
    };
    links = λ p q p_within q_within apart. queue-start p q ∙ sym (link-start p q (tape_at (replicate
        n fresh) p) (tape_at (replicate n fresh) q) (sym (tape-start p)) (sym (tape-start q)));
  }

  pub IsWorld-start : (mode : Mode)
      → IsWorld mode (replicate n fresh) (replicate n (replicate n []))
  IsWorld-start mode = record { queued = AreQueues-start; linked = linked mode; only = only mode }
    where
      only : (m : Mode) → HoldMessages m (replicate n (replicate n []))
      only Fifo = tt
      only Unordered = λ p q. subst (λ (xs : List Item). All IsMessage xs) (sym (queue-start p q))
          (All-nil IsMessage)

      linked : (m : Mode) → IsLinked m (replicate n fresh) (replicate n (replicate n []))
      linked Fifo = IsOrdered-start
      linked Unordered = unordered_start n (messages_at (replicate n (replicate n [])))
          (λ p q. ap (filter_map message_of) (queue-start p q))

  -- there are no copies
  pub copies-start : (mode : Mode) → names_on (copies_in mode (replicate n (replicate n [])))
      ≡ copies_in mode (replicate n (replicate n []))
  copies-start Fifo = refl
  copies-start Unordered =
      let none : List MsgName = [] in
      table_of-all n (λ p q. none) (names_on (replicate n (replicate n [])))
      (names-shape n (replicate n (replicate n [])) (IsTable-none n))
      (λ p q p_within q_within. names-at (replicate n (replicate n [])) p q ∙ ap
      (filter_map message_of) (queue-start p q))
      ∙ sym (table_of-all n (λ p q. none) (replicate n (replicate n [])) (IsTable-none n)
      (λ p q p_within q_within. between-none n p q))

  -- no round was begun
  pub AreRounds-start : (mode : Mode) → AreRounds mode (replicate n fresh) 0 None []
  AreRounds-start mode = record {
    numbers = λ p r has. absurd (both_ways (has_check_of r (tape_at (replicate n fresh) p))
        (ap (has_check_of r) (tape-start p)) has);
    opening = λ p r has. absurd (both_ways (has_check_of r (tape_at (replicate n fresh) p))
        (ap (has_check_of r) (tape-start p)) has);
    unfinished = tt;
    snapshots = All-nil (IsSnapshotOf (replicate n fresh));
    numbered = record {
      earlier = All-nil (λ (round : ListedRound). round.number < 1);
      ascending = λ
          i j d near far. absurd (omega (arith, far));
    };
  }
