-- A history that stands in memory: its records are those of no other, and it keeps to the ranges of
-- their fields where its rounds do.
use Rattle.std.proofs.Common.{◌≡◌, ◌≤◌, ◌<◌, ℕ, suc, ◌+◌, ◌^◌, true, false, List, [], ◌∷◌, ◌++◌}
use Rattle.std.proofs.Common.{Some, None, length, get_or, take, Result, Ok, refl, sym, ap, ap₂, ◌∙◌}
use Rattle.std.proofs.Common.{arith}
use Rattle.std.specs.Prelude.{All, codes, decimal, map}
use Rattle.std.specs.List.{AllByRecursion}
use Rattle.std.specs.Str.{all_ascii_digits, bytes_eq}
use Rattle.std.proofs.lemmas.Fmt.{decimal_injective}
use Rattle.std.proofs.lemmas.List.{take_more}
use Rattle.line_names.specs.declared.limits.TheConstants.{MOST_PROCESSES}
use Rattle.line_names.specs.declared.messages.MsgName.{MsgName}
use Rattle.line_fields.specs.declared.faults.Fault.{Fault}
use Rattle.line_fields.specs.Fields.{hex}
use Rattle.line_fields.specs.Records.{Record, field}
use Rattle.line_fields.specs.Texts.{hex_text}
use Rattle.line_fields.proofs.RoundLemmas.{all_ascii_digits-decimal, hex_hex_text}
use Rattle.line_tape.specs.declared.events.Event.{Event}
use Rattle.line_tape.specs.declared.events.Event.TheVariants.{Send, Recv, Check, Mark}
use Rattle.line_tape.specs.declared.limits.TheConstants.{LAST_INCARNATION, LAST_ROUND}
use Rattle.line_tape.specs.Event.{IsShort, NamesBelow}
use Rattle.line_tape.specs.History.{IsHistory, IsProcess, Process}
use Rattle.line_claims.specs.declared.numbers.TheConstants.{MOST_NUMBER}
use Rattle.line_claims.specs.Ranges.{AreRoundsInRange, FitsMemory, FitsProcess, FitsWords}
use Rattle.line_claims.specs.Ranges.{IsHistoryInRange, IsEventInRange, IsRoundInRange}
use Rattle.line_claims.specs.Ranges.{IsTapeInRange}
use Rattle.line_claims.specs.Records.{event_record, floor_record, floors_records, front_records}
use Rattle.line_claims.specs.Records.{history_record, number_text, tape_record, tapes_records}

-- what holds of each place holds of each element
pub all_by : {X : Type 0} (P : X → Type 0) (xs : List X) → All P xs → AllByRecursion P xs
all_by P [] each = tt
all_by P (x ∷ xs) each =
    (each 0 x (omega arith), all_by P xs (λ i d lt. each (suc i) d (omega (arith, lt))))

-- and of one element more
pub all_more : {X : Type 0} (P : X → Type 0) (xs : List X) (x : X) → AllByRecursion P xs → P x
    → AllByRecursion P (xs ++ x ∷ [])
all_more P [] x all one = (one, tt)
all_more P (y ∷ ys) x all one = (all.0, all_more P ys x all.1 one)

-- one element more of those in front
pub front_fits : {X : Type 0} (P : X → Type 0) (xs : List X) (i : ℕ) (x : X) → i < length xs
    → x ≡ get_or xs i x → AllByRecursion P (take i xs) → P x → AllByRecursion P (take (i + 1) xs)
front_fits {X} P xs i x lt is all one =
    let more : take (i + 1) xs ≡ take i xs
    ++ x ∷ [] = take_more xs i x lt ∙ ap (λ (y : X). take i xs ++ y ∷ []) (sym is) in
    rw more (all_more P (take i xs) x all one)

-- ---- in range

event_in_range : (n : ℕ) (event : Event) → IsShort event → NamesBelow n event → FitsWords event
    → IsRoundInRange event → IsEventInRange n event
event_in_range n (Send to inc body) short named fits round =
    let small : inc < 2 ^ 16 = fits.1 in (named, omega arith, record { few = short; fit = fits.2 })
event_in_range n (Recv m) short named fits round =
    let small : m.inc < 2 ^ 16 = fits.1 in
    let word : m.number < 2 ^ 32 = fits.2 in
    (named, omega (arith, small), omega (arith, word))
event_in_range n (Check state None) short named fits round =
    (record { few = short; fit = fits }, round)
event_in_range n (Check state (Some r)) short named fits round =
    (record { few = short; fit = fits.0 }, round)
event_in_range n (Mark from r) short named fits round = (named, round)

events_in_range : (n : ℕ) (events : List Event) → AllByRecursion IsShort events
    → AllByRecursion (NamesBelow n) events → AllByRecursion FitsWords events
    → AllByRecursion IsRoundInRange events → AllByRecursion (IsEventInRange n) events
events_in_range n [] short named fits rounds = tt
events_in_range n (event ∷ others) short named fits rounds = (
  event_in_range n event short.0 named.0 fits.0 rounds.0,
  events_in_range n others short.1
      named.1 fits.1 rounds.1,
)

tapes_in_range : (n : ℕ) (processes : List Process) → AllByRecursion (IsProcess n) processes
    → AllByRecursion FitsProcess processes → AreRoundsInRange processes
    → AllByRecursion (IsTapeInRange n) processes
tapes_in_range n [] kept fits rounds = tt
tapes_in_range n (process ∷ others) kept fits rounds =
    let small : process.incarnation < 2 ^ 16 = fits.0.0 in
    let tape : List Event = process.tape in
    let one : IsTapeInRange n process = record {
      incarnation = omega arith;
      few = kept.0.tape.few;
      events = events_in_range n tape (all_by IsShort tape kept.0.tape.short)
          (all_by (NamesBelow n) tape kept.0.named) fits.0.1 rounds.0;
    } in
    (one, tapes_in_range n others kept.1 fits.1 rounds.1)

pub history_in_range : (history : List Process) → IsHistory history → FitsMemory history
    → AreRoundsInRange history → IsHistoryInRange history
history_in_range history kept fits rounds = record {
  some = kept.some;
  few = kept.few;
  tapes = tapes_in_range (length history) history
      (all_by (IsProcess (length history)) history kept.processes) fits.processes rounds;
}

-- ---- the other way round

event_fits : (n : ℕ) (event : Event) → n ≤ MOST_PROCESSES → IsEventInRange n event → FitsWords event
event_fits n (Send to inc body) few h =
    let there : to < n = h.0 in
    let small : inc ≤ LAST_INCARNATION = h.1 in
    (omega (arith, there, few), omega (arith, small), h.2.fit)
event_fits n (Recv m) few h =
    let there : m.from < n = h.0 in
    let small : m.inc ≤ LAST_INCARNATION = h.1 in
    let wide : m.number ≤ MOST_NUMBER = h.2 in
    (omega (arith, there, few), omega (arith, small), omega (arith, wide))
event_fits n (Check state None) few h = h.0.fit
event_fits n (Check state (Some r)) few h =
    let high : r ≤ LAST_ROUND = h.1.1 in (h.0.fit, omega (arith, high))
event_fits n (Mark from r) few h =
    let there : from < n = h.0 in
    let high : r ≤ LAST_ROUND = h.1.1 in
    (omega (arith, there, few), omega (arith, high))

events_fit : (n : ℕ) (events : List Event) → n ≤ MOST_PROCESSES
    → AllByRecursion (IsEventInRange n) events → AllByRecursion FitsWords events
events_fit n [] few fit = tt
events_fit n (event ∷ others) few fit =
    (event_fits n event few fit.0, events_fit n others few fit.1)

tapes_fit : (n : ℕ) (processes : List Process) → n ≤ MOST_PROCESSES
    → AllByRecursion (IsTapeInRange n) processes → AllByRecursion FitsProcess processes
tapes_fit n [] few fit = tt
tapes_fit n (process ∷ others) few fit =
    let small : process.incarnation ≤ LAST_INCARNATION = fit.0.incarnation in (
      (omega (arith, small), events_fit n process.tape few fit.0.events),
      tapes_fit n others few
          fit.1,
    )

pub history_fits : (history : List Process) → IsHistoryInRange history → FitsMemory history
history_fits history fit =
    let few = fit.few in
    record {
      few = omega (arith, few);
      processes = tapes_fit
          (length history) history few fit.tapes;
    }

-- ---- records of one history alone

decoded : List ℕ → Result (List ℕ) Fault
decoded bytes = Ok bytes

hex_apart : (a b : List ℕ) → AllByRecursion (λ byte. byte < 2 ^ 8) a
    → AllByRecursion (λ byte. byte < 2 ^ 8) b → hex_text a ≡ hex_text b → a ≡ b
unfolding decoded
hex_apart a b fit good same =
    let both : decoded a
    ≡ decoded b = sym (hex_hex_text a fit) ∙ ap hex same ∙ hex_hex_text b good in
    cc

-- a field of two records that are one
at_field : (a b : Record) (k : ℕ) → a ≡ b → field a k ≡ field b k
at_field a b k same = ap (λ (r : Record). field r k) same

-- two records of different names are two
apart_names : (a b : Record) (name : List ℕ) → bytes_eq (field a 0) name ≡ true
    → bytes_eq (field b 0) name ≡ false → a ≡ b → ⊥
apart_names a b name is other same =
    let bad : true ≡ false = sym is ∙ ap (λ (r : Record). bytes_eq (field r 0) name) same ∙ other in
    cc

word_apart : (m n : ℕ) → m < 2 ^ 32 → n < 2 ^ 32 → decimal m ≡ decimal n → m ≡ n
word_apart m n low high same = decimal_injective m n (omega arith) (omega arith) same

half_apart : (m n : ℕ) → m < 2 ^ 16 → n < 2 ^ 16 → decimal m ≡ decimal n → m ≡ n
half_apart m n low high same = decimal_injective m n (omega arith) (omega arith) same

-- a number is not `-`
number_is_there : (n : ℕ) → n < 2 ^ 32 → number_text None ≡ decimal n → ⊥
number_is_there n fits same =
    let bad : false ≡ true = ap all_ascii_digits same ∙ all_ascii_digits-decimal n (omega arith) in
    cc

message_apart : (m o : MsgName) → m.from ≡ o.from → m.inc ≡ o.inc → m.number ≡ o.number → m ≡ o
message_apart m o a b c = rw (a, b, c) refl

event_apart : (e f : Event) → FitsWords e → FitsWords f → event_record e ≡ event_record f → e ≡ f
event_apart (Send to inc body) (Send to' inc' body') fit good same =
    let a = word_apart to to' fit.0 good.0 (at_field _ _ 1 same) in
    let b = half_apart inc inc' fit.1 good.1 (at_field _ _ 2 same) in
    let c = hex_apart body body' fit.2 good.2 (at_field _ _ 3 same) in
    rw (a, b, c) refl
event_apart (Recv m) (Recv o) fit good same =
    let a = word_apart m.from o.from fit.0 good.0 (at_field _ _ 1 same) in
    let b = half_apart m.inc o.inc fit.1 good.1 (at_field _ _ 2 same) in
    let c = word_apart m.number o.number fit.2 good.2 (at_field _ _ 3 same) in
    ap Recv (message_apart m o a b c)
event_apart (Check s None) (Check t None) fit good same =
    rw (hex_apart s t fit good (at_field _ _ 1 same)) refl
event_apart (Check s (Some r)) (Check t (Some q)) fit good same =
    let a = hex_apart s t fit.0 good.0 (at_field _ _ 1 same) in
    let b = word_apart r q fit.1 good.1 (at_field _ _ 2 same) in
    rw (a, b) refl
event_apart (Check s None) (Check t (Some q)) fit good same =
    absurd (number_is_there q good.1 (at_field _ _ 2 same))
event_apart (Check s (Some r)) (Check t None) fit good same =
    absurd (number_is_there r fit.1 (sym (at_field _ _ 2 same)))
event_apart (Mark from r) (Mark from' r') fit good same =
    let a = word_apart from from' fit.0 good.0 (at_field _ _ 1 same) in
    let b = word_apart r r' fit.1 good.1 (at_field _ _ 2 same) in
    rw (a, b) refl
event_apart (Send to inc body) (Recv o) fit good same =
    absurd (apart_names _ _ (codes "send") refl refl same)
event_apart (Send to inc body) (Check t q) fit good same =
    absurd (apart_names _ _ (codes "send") refl refl same)
event_apart (Send to inc body) (Mark from r) fit good same =
    absurd (apart_names _ _ (codes "send") refl refl same)
event_apart (Recv m) (Send to inc body) fit good same =
    absurd (apart_names _ _ (codes "recv") refl refl same)
event_apart (Recv m) (Check t q) fit good same =
    absurd (apart_names _ _ (codes "recv") refl refl same)
event_apart (Recv m) (Mark from r) fit good same =
    absurd (apart_names _ _ (codes "recv") refl refl same)
event_apart (Check s r) (Send to inc body) fit good same =
    absurd (apart_names _ _ (codes "check") refl refl same)
event_apart (Check s r) (Recv o) fit good same =
    absurd (apart_names _ _ (codes "check") refl refl same)
event_apart (Check s r) (Mark from q) fit good same =
    absurd (apart_names _ _ (codes "check") refl refl same)
event_apart (Mark from r) (Send to inc body) fit good same =
    absurd (apart_names _ _ (codes "mark") refl refl same)
event_apart (Mark from r) (Recv o) fit good same =
    absurd (apart_names _ _ (codes "mark") refl refl same)
event_apart (Mark from r) (Check t q) fit good same =
    absurd (apart_names _ _ (codes "mark") refl refl same)

event_is_no_tape : (event : Event) → bytes_eq (field (event_record event) 0) (codes "tape") ≡ false
event_is_no_tape (Send to inc body) = refl
event_is_no_tape (Recv m) = refl
event_is_no_tape (Check state r) = refl
event_is_no_tape (Mark from r) = refl

first_same : (a b : Record) (xs ys : List Record) → a ∷ xs ≡ b ∷ ys → a ≡ b
first_same a b xs ys same = cc

rest_same : (a b : Record) (xs ys : List Record) → a ∷ xs ≡ b ∷ ys → xs ≡ ys
rest_same a b xs ys same = cc

-- no tape begins with an event
no_event : (p : ℕ) (processes : List Process) (event : Event) (rest : List Record)
    → tapes_records p processes ≡ event_record event ∷ rest → ⊥
no_event p [] event rest same = cc same
no_event p (process ∷ others) event rest same =
    apart_names (tape_record p process.incarnation) (event_record event) (codes "tape") refl
    (event_is_no_tape event)
    (first_same (tape_record p process.incarnation) (event_record event)
    (map event_record process.tape ++ tapes_records (p + 1) others) rest same)

-- a tape ends where the next one begins
events_apart : (p : ℕ) (processes others : List Process) (es fs : List Event)
    → AllByRecursion FitsWords es → AllByRecursion FitsWords fs
    → map event_record es ++ tapes_records p processes ≡ map event_record fs
    ++ tapes_records p others → (es ≡ fs) × (tapes_records p processes ≡ tapes_records p others)
events_apart p processes others [] [] fit good same = (refl, same)
events_apart p processes others [] (f ∷ fs) fit good same = absurd (no_event p processes f _ same)
events_apart p processes others (e ∷ es) [] fit good same =
    absurd (no_event p others e _ (sym same))
events_apart p processes others (e ∷ es) (f ∷ fs) fit good same =
    let one = event_apart e f fit.0 good.0 (first_same _ _ _ _ same) in
    let more = events_apart p processes others es fs fit.1 good.1 (rest_same _ _ _ _ same) in
    (ap₂ (λ (x : Event) (xs : List Event). x ∷ xs) one more.0, more.1)

process_apart : (a b : Process) → a.incarnation ≡ b.incarnation → a.tape ≡ b.tape → a ≡ b
process_apart a b inc tape = rw (inc, tape) refl

tapes_apart : (p : ℕ) (ps qs : List Process) → AllByRecursion FitsProcess ps
    → AllByRecursion FitsProcess qs → tapes_records p ps ≡ tapes_records p qs → ps ≡ qs
tapes_apart p [] [] fit good same = refl
tapes_apart p [] (b ∷ bs) fit good same = absurd (let bad : [] ≡ tape_record p b.incarnation
    ∷ (map event_record b.tape ++ tapes_records (p + 1) bs) = same in cc)
tapes_apart p (a ∷ more) [] fit good same = absurd (let bad : tape_record p a.incarnation
    ∷ (map event_record a.tape ++ tapes_records (p + 1) more) ≡ [] = same in cc)
tapes_apart p (a ∷ more) (b ∷ others) fit good same =
    let head = first_same (tape_record p a.incarnation) (tape_record p b.incarnation) _ _ same in
    let inc = half_apart a.incarnation b.incarnation fit.0.0 good.0.0 (at_field _ _ 2 head) in
    let tapes = events_apart (p + 1) more others a.tape b.tape fit.0.1 good.0.1
    (rest_same (tape_record p a.incarnation) (tape_record p b.incarnation) _ _ same) in
    ap₂ (λ (x : Process) (xs : List Process). x ∷ xs) (process_apart a b inc tapes.0)
    (tapes_apart (p + 1) more others fit.1 good.1 tapes.1)

-- no tape begins with what was let go
no_floor : (p q : ℕ) (processes : List Process) (floor : ℕ × ℕ) (rest : List Record)
    → tapes_records p processes ≡ floor_record q floor ∷ rest → ⊥
no_floor p q [] floor rest same = cc same
no_floor p q (process ∷ others) floor rest same =
    apart_names (tape_record p process.incarnation) (floor_record q floor) (codes "tape") refl refl
    (first_same (tape_record p process.incarnation) (floor_record q floor)
    (map event_record process.tape ++ tapes_records (p + 1) others) rest same)

-- the tapes stand behind what was let go
floors_apart : (p : ℕ) (floors others : List (ℕ × ℕ)) (ps qs : List Process)
    → floors_records p floors ++ tapes_records 0 ps ≡ floors_records p others ++ tapes_records 0 qs
    → tapes_records 0 ps ≡ tapes_records 0 qs
floors_apart p [] [] ps qs same = same
floors_apart p [] (o ∷ os) ps qs same = absurd (no_floor 0 p ps o _ same)
floors_apart p (f ∷ fs) [] ps qs same = absurd (no_floor 0 p qs f _ (sym same))
floors_apart p (f ∷ fs) (o ∷ os) ps qs same =
    floors_apart (p + 1) fs os ps qs (rest_same _ _ _ _ same)

-- one list of records is of one history
pub records_apart : (version later : ℕ) (floors others : List (ℕ × ℕ))
    (history other : List Process) → FitsMemory history → FitsMemory other
    → front_records version floors history ≡ front_records later others other → history ≡ other
records_apart version later floors others history other fit good same =
    tapes_apart 0 history other fit.processes good.processes
    (floors_apart 0 floors others history other (rest_same
    (history_record version (length history)) (history_record later (length other)) _ _ same))
