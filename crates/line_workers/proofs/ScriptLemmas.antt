-- Workers that each follow their script, and whose tapes fit, have the tapes that the scripts make.
use Rattle.std.proofs.Common.{cond, zero, suc, true, false, ◌≡◌, ◌∙◌, ◌++◌, ◌∷◌, [], ℕ, List}
use Rattle.std.proofs.Common.{Option, Some, None, length, map, take, drop, refl, sym, ap, arith}
use Rattle.std.proofs.Common.{subst}
use Rattle.std.proofs.lemmas.Option.{same_Some}
use Rattle.std.specs.Prelude.{◌==◌, slice_get, option_map}
use Rattle.std.specs.List.{filter, filter_map, cons_option}
use Rattle.std.proofs.lemmas.Bool.{eq-eqb}
use Rattle.std.proofs.lemmas.List.{append_assoc, append-nil, length-append}
use Rattle.std.proofs.lemmas.List.Elements.{filter-append, filter_map-append}
use Rattle.std.proofs.lemmas.Option.{slice_get-map}
use Rattle.line_names.specs.declared.messages.MsgName.{MsgName}
use Rattle.line_tape.specs.declared.events.Event.{Event}
use Rattle.line_tape.specs.declared.events.Event.TheVariants.{Recv}
use Rattle.line_tape.specs.declared.items.Item.{Item}
use Rattle.line_tape.specs.declared.items.Item.TheVariants.{Message}
use Rattle.line_tape.specs.Fit.{IsFitFifo, items_sent, item_received, sent_between, received_from}
use Rattle.line_tape.specs.History.{Process, tape_at}
use Rattle.line_workers.specs.declared.orders.Order.{Order}
use Rattle.line_workers.specs.declared.orders.Order.TheVariants.{Send, Receive, Check}
use Rattle.line_workers.specs.Scripts.{script_at, names_ordered, is_received_from, receives}
use Rattle.line_workers.specs.Scripts.{IsEventOf, IsScripted}
use Rattle.line_workers.specs.Followed.{DoesOrder, Follows}

abbrev items_of : List MsgName → List Item
items_of names = map (λ m. Message m) names

-- what a worker that follows its script sends
sent_ordered : (p q k : ℕ) (script : List Order) (tape : List Event) → Follows 0 script tape
    → items_sent p q k tape ≡ items_of (names_ordered p q k script)
sent_ordered p q k [] [] h = refl
sent_ordered p q k [] (e ∷ es) h = absurd h
sent_ordered p q k (o ∷ os) [] h = absurd h
sent_ordered p q k (Send to body ∷ os) (e ∷ es) h =
    let ih = sent_ordered p q (suc k) os es h.1 in
    ap (λ x. items_sent p q k (x ∷ es)) h.0
    ∙ elim (to == q) as
    (λ b. cond b
    (Message (record { from = p; inc = 0; number = k }) ∷ items_sent p q (suc k) es)
    (items_sent p q (suc k) es)
    ≡ items_of (cond b (record { from = p; inc = 0; number = k } ∷ names_ordered p q (suc k) os)
    (names_ordered p q (suc k) os))) [
      | true ↦ ap (λ (xs : List Item). Message
          (record { from = p; inc = 0; number = k }) ∷ xs) ih
      | false ↦ ih
    ]
sent_ordered p q k (Receive from ∷ os) (e ∷ es) h =
    ap (λ x. items_sent p q k (x ∷ es)) h.0.2 ∙ sent_ordered p q k os es h.1
sent_ordered p q k (Check state ∷ os) (e ∷ es) h =
    ap (λ x. items_sent p q k (x ∷ es)) h.0 ∙ sent_ordered p q k os es h.1

-- as many receipts as orders to receive
one_each : (p : ℕ) (o : Order) (e : Event) → DoesOrder 0 o e
    → length (filter_map (item_received p) (e ∷ [])) ≡ receives p (o ∷ [])
one_each p (Send to body) e h = ap (λ x. length (filter_map (item_received p) (x ∷ []))) h
one_each p (Receive from) e (m, f, h) =
    ap (λ x. length (filter_map (item_received p) (x ∷ []))) h
    ∙ (ap (λ v. length
    (filter_map (λ (o : Option Item). o) (cond (v == p) (Some (Message m)) None ∷ []))) f
    ∙ elim (from == p) as
    (λ b. length (filter_map (λ (o : Option Item). o) (cond b (Some (Message m)) None ∷ []))
    ≡ length (filter (λ (o : Order). b) (Receive from ∷ []))) [ true ↦ refl | false ↦ refl ])
one_each p (Check state) e h = ap (λ x. length (filter_map (item_received p) (x ∷ []))) h

more_each : (p : ℕ) (before : List Order) (done : List Event) (o : Order) (e : Event)
    → DoesOrder 0 o e → length (filter_map (item_received p) done) ≡ receives p before
    → length (filter_map (item_received p) (done ++ e ∷ [])) ≡ receives p (before ++ o ∷ [])
more_each p before done o e h same =
    let f = item_received p in
    let g = is_received_from p in
    let a = ap length (filter_map-append f done (e ∷ [])) ∙ length-append (filter_map f done)
    (filter_map f (e ∷ [])) in
    let b = ap length (filter-append g before (o ∷ [])) ∙ length-append (filter g before)
    (filter g (o ∷ [])) in
    let c = one_each p o e h in
    omega (arith, a, b, c, same)

get_at : {X : Type 0} (xs : List X) (y : X) (ys : List X)
    → slice_get (xs ++ y ∷ ys) (length xs) ≡ Some y
get_at [] y ys = refl
get_at (x ∷ xs) y ys = get_at xs y ys

unmapped : (o : Option MsgName) (m : MsgName) → option_map (λ x. Message x) o ≡ Some (Message m)
    → o ≡ Some m
unmapped None m e = cc e
unmapped (Some x) m e = cc e

-- the message that a Receive took is the one that the scripts say
taken : (from : ℕ) (names : List MsgName) (done tape : List Event) (rest : List Item) (m : MsgName)
    → m.from ≡ from
    → items_of names ≡ filter_map (item_received from) (done ++ Recv m ∷ tape) ++ rest
    → slice_get names (length (filter_map (item_received from) done)) ≡ Some m
taken from names done tape rest m f is =
    let r = filter_map (item_received from) done in
    let t = filter_map (item_received from) tape in
    let here : filter_map (item_received from) (Recv m ∷ tape) ≡ Message m
    ∷ t = ap (λ b. cons_option (cond b (Some (Message m)) None) t) (eq-eqb m.from from f) in
    let all : items_of names ≡ r ++ Message m ∷ (t ++ rest) =
    is ∙ (ap (λ v. v ++ rest) (filter_map-append (item_received from) done (Recv m ∷ tape) ∙ ap
    (λ v. r ++ v) here) ∙ append_assoc r (Message m ∷ t) rest) in
    unmapped (slice_get names (length r)) m (sym (slice_get-map (λ x. Message x) names (length r)) ∙
    (ap (λ v. slice_get v (length r)) all ∙ get_at r (Message m) (t ++ rest)))

event_is : (scripts : List (List Order)) (q : ℕ) (before : List Order) (done : List Event)
    (o : Order) (e : Event) (es : List Event)
    → ((p : ℕ) → length (filter_map (item_received p) done) ≡ receives p before) → DoesOrder 0 o e
    → ((p : ℕ) → (rest : List Item) × (items_of (names_ordered p q 0 (script_at scripts p))
    ≡ filter_map (item_received p) (done ++ e ∷ es) ++ rest))
    → IsEventOf scripts q before o e
event_is scripts q before done (Send to body) e es count h all = h
event_is scripts q before done (Receive from) e es count (m, f, h) all =
    let names = names_ordered from q 0 (script_at scripts from) in
    let (rest, is) = all from in (
      m,
      ap (slice_get names) (sym (count from)) ∙ taken from names done es rest m f
          (is ∙ ap (λ x. filter_map (item_received from) (done ++ x ∷ es) ++ rest) h),
      h,
    )
event_is scripts q before done (Check state) e es count h all = h

-- one event for each further order
abbrev AreEventsOf : List (List Order) → ℕ → List Order → List Order → List Event → Type 0
AreEventsOf scripts q before [] [] = Unit {0}
AreEventsOf scripts q before (order ∷ rest) (event ∷ tape) =
    IsEventOf scripts q before order event × AreEventsOf scripts q (before ++ order ∷ []) rest tape
AreEventsOf scripts q before [] (event ∷ tape) = ⊥
AreEventsOf scripts q before (order ∷ rest) [] = ⊥

follow : (scripts : List (List Order)) (q : ℕ) (before : List Order) (done : List Event)
    (script : List Order) (tape : List Event)
    → ((p : ℕ) → length (filter_map (item_received p) done) ≡ receives p before)
    → Follows 0 script tape
    → ((p : ℕ) → (rest : List Item) × (items_of (names_ordered p q 0 (script_at scripts p))
    ≡ filter_map (item_received p) (done ++ tape) ++ rest))
    → AreEventsOf scripts q before script tape
follow scripts q before done [] [] count h all = tt
follow scripts q before done [] (e ∷ es) count h all = absurd h
follow scripts q before done (o ∷ os) [] count h all = absurd h
follow scripts q before done (o ∷ os) (e ∷ es) count h all = (
  event_is scripts q before done o e es count h.0 all,
  follow scripts q (before ++ o ∷ []) (done ++ e ∷ []) os es
      (λ p. more_each p before done o e h.0 (count p)) h.1
      (λ p. (
        (all p).0,
        (all p).1 ∙ ap (λ t. filter_map (item_received p) t ++ (all p).0)
            (sym (append_assoc done (e ∷ []) es)),
      )),
)

-- the event at each place
at_place : (scripts : List (List Order)) (q : ℕ) (before : List Order) (script : List Order)
    (tape : List Event) (k : ℕ) (order : Order) (event : Event)
    → AreEventsOf scripts q before script tape → slice_get script k ≡ Some order
    → slice_get tape k ≡ Some event → IsEventOf scripts q (before ++ take k script) order event
at_place scripts q before [] tape k order event h at here = cc at
at_place scripts q before (o ∷ os) [] k order event h at here = absurd h
at_place scripts q before (o ∷ os) (e ∷ es) zero order event h at here =
    subst (λ (x : Order). IsEventOf scripts q (before ++ []) x event) (same_Some o order at)
    (subst (λ (x : Event). IsEventOf scripts q (before ++ []) o x) (same_Some e event here)
    (subst (λ (b : List Order). IsEventOf scripts q b o e) (sym (append-nil before)) h.0))
at_place scripts q before (o ∷ os) (e ∷ es) (suc k) order event h at here =
    subst (λ (b : List Order). IsEventOf scripts q b order event)
    (append_assoc before (o ∷ []) (take k os))
    (at_place scripts q (before ++ o ∷ []) os es k order event h.1 at here)

all_of : (scripts : List (List Order)) (q : ℕ) (before : List Order) (script : List Order)
    (tape : List Event) → AreEventsOf scripts q before script tape → length tape ≡ length script
all_of scripts q before [] [] h = refl
all_of scripts q before [] (e ∷ es) h = absurd h
all_of scripts q before (o ∷ os) [] h = absurd h
all_of scripts q before (o ∷ os) (e ∷ es) h = ap suc (all_of scripts q (before ++ o ∷ []) os es h.1)

pub scripted : (scripts : List (List Order)) (history : List Process) → IsFitFifo history
    → ((p : ℕ) → Follows 0 (script_at scripts p) (tape_at history p)) → (q : ℕ)
    → IsScripted scripts q (tape_at history q)
scripted scripts history fit follows q =
    let events : AreEventsOf scripts q [] (script_at scripts q) (tape_at history q) = follow scripts
    q [] [] (script_at scripts q) (tape_at history q) (λ p. refl) (follows q)
    (λ p. (
      drop (length (received_from history q p)) (sent_between history p q),
      sym (sent_ordered p
          q 0 (script_at scripts p) (tape_at history p) (follows p)) ∙ sym (fit.order p q),
    )) in
    record {
      count = all_of scripts q [] (script_at scripts q) (tape_at history q) events;
      each = λ k order event at here. at_place scripts q [] (script_at scripts q)
          (tape_at history q) k order event events at here;
    }
