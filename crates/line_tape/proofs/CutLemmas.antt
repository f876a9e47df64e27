-- What a restart leaves of the events of one tape, and that it is no more than there was.
use Rattle.std.proofs.Common.{◌≡◌, ℕ, zero, suc, ◌≤◌, true, false, cond, List, [], ◌∷◌, length}
use Rattle.std.proofs.Common.{take, Option, Some, None, refl, ap, ◌∙◌, subst, arith, ◌⊎◌, inl, inr}
use Rattle.std.specs.List.{All, Contains, filter_map, cons_option}
use Rattle.std.proofs.lemmas.List.{length-take}
use Rattle.std.proofs.lemmas.List.Elements.{All-take, All-contains, All-contains_itself, All-weaker}
use Rattle.std.proofs.lemmas.List.Elements.{Contains-append_cases, Contains-append_left}
use Rattle.std.proofs.lemmas.List.Elements.{Contains-append_right, Contains-push}
use Rattle.std.proofs.lemmas.List.Elements.{Contains-push_cases}
use Rattle.line_names.specs.declared.messages.MsgName.{MsgName}
use Rattle.line_tape.specs.declared.events.Event.{Event}
use Rattle.line_tape.specs.declared.events.Event.TheVariants.{Send, Recv, Check, Mark}
use Rattle.line_tape.specs.Event.{is_check, checks, incarnations_sent, sends, IsShort, NamesBelow}
use Rattle.line_tape.specs.History.{IsTape}
use Rattle.line_tape.specs.Restart.{restarted_event}
use Rattle.line_tape.proofs.RowLemmas.{sent_front}

pub contains_nothing : {X : Type 0} (x : X) → Contains [] x → ⊥
contains_nothing x (k, within, at) = absurd (omega arith)

pub cons_cases : {X : Type 0} (x : X) (xs : List X) (y : X) → Contains (x ∷ xs) y
    → (x ≡ y) ⊎ Contains xs y
cons_cases x xs y c = elim (Contains-append_cases (x ∷ []) xs y c) [
  | inl first ↦ elim (Contains-push_cases [] x y first)
      [ inl none ↦ absurd (contains_nothing y none) | inr e ↦ inl e ]
  | inr later ↦ inr later
]

-- where an element of the list comes from
pub record ComesFrom {X Y : Type 0} (h : X → Option Y) (xs : List X) (y : Y) : Type 0 where
  pub source : X
  pub among : Contains xs source
  pub gives : h source ≡ Some y

comes_later : {X Y : Type 0} (h : X → Option Y) (x : X) (xs : List X) (y : Y) → ComesFrom h xs y
    → ComesFrom h (x ∷ xs) y
comes_later h x xs y c = record {
  source = c.source;
  among = Contains-append_right
      (x ∷ []) xs c.source c.among;
  gives = c.gives;
}

comes_at : {X Y : Type 0} (h : X → Option Y) (x : X) (xs : List X) (y : Y) (o : Option Y) → h x ≡ o
    → (Contains (filter_map h xs) y → ComesFrom h xs y)
    → Contains (cons_option o (filter_map h xs)) y → ComesFrom h (x ∷ xs) y
comes_at h x xs y None e rest c = comes_later h x xs y (rest c)
comes_at h x xs y (Some z) e rest c = elim (cons_cases z (filter_map h xs) y c) [
  | inl same ↦ record {
    source = x;
    among = Contains-append_left (x ∷ []) xs x
        (Contains-push [] x);
    gives = e ∙ ap Some same;
  }
  | inr later ↦ comes_later h x xs y (rest later)
]

pub comes_from : {X Y : Type 0} (h : X → Option Y) (xs : List X) (y : Y)
    → Contains (filter_map h xs) y → ComesFrom h xs y
comes_from h [] y c = absurd (contains_nothing y c)
comes_from h (x ∷ xs) y c = comes_at h x xs y (h x) refl (comes_from h xs y) c

-- what holds of events whatever a restart leaves of them
pub All-restarted : (P : Event → Type 0) → ((x y : Event) → restarted_event x ≡ Some y → P x → P y)
    → (events : List Event) → All P events → All P (filter_map restarted_event events)
All-restarted P keeps events all =
    let left : List Event = filter_map restarted_event events in
    All-weaker (Contains left) P (λ y c.
    let from = comes_from restarted_event events y c in
    keeps from.source y from.gives (All-contains P events from.source all from.among)) left
    (All-contains_itself left)

pub short_left : (x y : Event) → restarted_event x ≡ Some y → IsShort x → IsShort y
short_left (Send to inc body) y e h = let same : Send to inc body ≡ y = cc e in subst IsShort same h
short_left (Recv message) y e h = let same : Recv message ≡ y = cc e in subst IsShort same h
short_left (Check state round) y e h =
    let same : Check state None ≡ y = cc e in subst IsShort same h
short_left (Mark from round) y e h = absurd (cc e)

pub named_left : (n : ℕ) (x y : Event) → restarted_event x ≡ Some y → NamesBelow n x
    → NamesBelow n y
named_left n (Send to inc body) y e h =
    let same : Send to inc body ≡ y = cc e in subst (NamesBelow n) same h
named_left n (Recv message) y e h =
    let same : Recv message ≡ y = cc e in subst (NamesBelow n) same h
named_left n (Check state round) y e h =
    let same : Check state None ≡ y = cc e in subst (NamesBelow n) same h
named_left n (Mark from round) y e h = absurd (cc e)

received_at : (x : Event) (m : MsgName) → restarted_event x ≡ Some (Recv m) → x ≡ Recv m
received_at (Send to inc body) m e = absurd (cc e)
received_at (Recv message) m e = cc e
received_at (Check state round) m e = absurd (cc e)
received_at (Mark from round) m e = absurd (cc e)

-- what is received there was received before
pub received_left : (events : List Event) (m : MsgName)
    → Contains (filter_map restarted_event events) (Recv m) → Contains events (Recv m)
received_left events m c =
    let from = comes_from restarted_event events (Recv m) c in
    subst (Contains events) (received_at from.source m from.gives) from.among

-- no more events, checks and sends are left than there were
pub length_left : (events : List Event) → length (filter_map restarted_event events) ≤ length events
length_left [] = omega arith
length_left (Send to inc body ∷ es) = omega (arith, length_left es)
length_left (Recv message ∷ es) = omega (arith, length_left es)
length_left (Check state round ∷ es) = omega (arith, length_left es)
length_left (Mark from round ∷ es) = omega (arith, length_left es)

pub checks_left : (events : List Event) → checks (filter_map restarted_event events) ≡ checks events
checks_left [] = refl
checks_left (Send to inc body ∷ es) = checks_left es
checks_left (Recv message ∷ es) = checks_left es
checks_left (Check state round ∷ es) = ap suc (checks_left es)
checks_left (Mark from round ∷ es) = checks_left es

pub sent_left : (events : List Event)
    → incarnations_sent (filter_map restarted_event events) ≡ incarnations_sent events
sent_left [] = refl
sent_left (Send to inc body ∷ es) = ap (λ xs. inc ∷ xs) (sent_left es)
sent_left (Recv message ∷ es) = sent_left es
sent_left (Check state round ∷ es) = sent_left es
sent_left (Mark from round ∷ es) = sent_left es

pub checks_take : (tape : List Event) (n : ℕ) → checks (take n tape) ≤ checks tape
checks_take tape zero = omega arith
checks_take [] (suc n) = omega arith
checks_take (x ∷ xs) (suc n) =
    let ih = checks_take xs n in
    elim (is_check x) as (λ v. cond v (suc (checks (take n xs))) (checks (take n xs)) ≤ cond v
    (suc (checks xs)) (checks xs)) [ true ↦ omega (arith, ih) | false ↦ omega (arith, ih) ]

pub sends_take : (tape : List Event) (n : ℕ) → sends (take n tape) ≤ sends tape
sends_take tape n = omega (
  arith,
  ap length (sent_front tape n),
  length-take (sends (take n tape))
      (incarnations_sent tape),
)

-- a tape keeps within the limits where it is cut and restarted
pub IsTape-restarted : (events : List Event) → IsTape events
    → IsTape (filter_map restarted_event events)
IsTape-restarted events t = record {
  few = omega
      (arith, t.few, length_left events);
  short = All-restarted IsShort short_left events t.short;
}

-- so does its front
pub IsTape-take : (events : List Event) (n : ℕ) → IsTape events → IsTape (take n events)
IsTape-take events n t = record
    { few = omega (arith, t.few, length-take n events); short = All-take IsShort n events t.short }
