-- A history that is written is read again.
use Rattle.std.proofs.Common.{◌≡◌, ◌≤◌, ◌<◌, ℕ, ◌+◌, true, false, List, [], ◌∷◌, ◌++◌, length}
use Rattle.std.proofs.Common.{Result, Ok, refl, sym, ap, ◌∙◌, arith, append_assoc, eq-eqb}
use Rattle.std.proofs.Common.{length-append}
use Rattle.std.specs.Prelude.{codes, map, replicate}
use Rattle.std.specs.List.{AllByRecursion}
use Rattle.std.proofs.Math.Seq.{get_or-append_seam, set-append_seam}
use Rattle.std.proofs.Math.ListN.{length-replicate, set}
use Rattle.std.proofs.lemmas.List.{append-nil}
use Rattle.line_fields.specs.declared.faults.Fault.{Fault}
use Rattle.line_names.specs.declared.limits.TheConstants.{MOST_PROCESSES}
use Rattle.line_fields.specs.Fields.{◌>>=◌}
use Rattle.line_fields.specs.Records.{Record}
use Rattle.line_fields.specs.Shapes.{three}
use Rattle.line_tape.specs.declared.events.Event.{Event}
use Rattle.line_tape.specs.declared.limits.TheConstants.{LAST_INCARNATION, MOST_EVENTS}
use Rattle.line_tape.specs.History.{Process, fresh, tape_at, with_event, with_incarnation}
use Rattle.line_claims.specs.declared.faults.TextFault.{TextFault}
use Rattle.line_claims.specs.declared.numbers.TheConstants.{MOST_NUMBER}
use Rattle.line_claims.specs.Events.{is_event}
use Rattle.line_claims.specs.Histories.{event_at, floors_of, front_of, head_in, one_floor_more}
use Rattle.line_claims.specs.Histories.{tape_from, tape_of, tapes_from}
use Rattle.line_claims.specs.Parts.{Part, begins, many, is_named, one, several}
use Rattle.line_claims.specs.Ranges.{AreFloorsInRange, IsHistoryInRange, IsEventInRange}
use Rattle.line_claims.specs.Ranges.{IsTapeInRange}
use Rattle.line_claims.specs.Records.{event_record, floor_record, floors_records, front_records}
use Rattle.line_claims.specs.Records.{history_record, tape_record, tapes_records}
use Rattle.line_claims.specs.Texts.{history_of}
use Rattle.line_claims.specs.Versions.{IsCheckVersion, most_in}
use Rattle.line_claims.proofs.ReadingLemmas.{first_more, many_end, several_next}
use Rattle.line_claims.proofs.SpellLemmas.{event_again, event_is_event, head_again, plain_again}
use Rattle.line_claims.proofs.SpellLemmas.{tape_again}
use Rattle.line_claims.proofs.VersionLemmas.{floors_few}

-- a process
abbrev process_with : ℕ → List Event → Process
process_with inc tape = record { incarnation = inc; tape = tape }

-- one process of a history, between others
abbrev between : List Process → Process → List Process → List Process
between done process after = done ++ process ∷ after

-- what was read, and what it leaves
abbrev pub part_to : {A : Type 0} → A → ℕ → List Record → Part A
part_to x number left = record { value = x; number = number; left = left }

-- a record with the name that is asked for
pub one_again : {A : Type 0} (name : List ℕ) (read : Record → Result A Fault) (i : ℕ) (r : Record)
    (rest : List Record) (x : A)
    → is_named name r ≡ true → read r ≡ Ok x
    → one name read i (r ∷ rest) ≡ Ok (part_to x (i + 1) rest)
unfolding one
one_again name read i r rest x it h = rw (it, h) refl

event_between : (done after : List Process) (inc : ℕ) (tape : List Event) (event : Event)
    → with_event (between done (process_with inc tape) after) (length done) event
    ≡ between done (process_with inc (tape ++ event ∷ [])) after
event_between done after inc tape event =
    let changed : Process → List Process = λ q. set (between done (process_with inc tape) after)
    (length done) (record q { tape = q.tape ++ event ∷ [] }) in
    ap changed (get_or-append_seam done (process_with inc tape) after fresh) ∙ set-append_seam done
    (process_with inc tape) after (process_with inc (tape ++ event ∷ []))

incarnation_between : (done after h : List Process) (b inc : ℕ) → h ≡ between done fresh after
    → b ≡ length done → with_incarnation h b inc ≡ between done (process_with inc []) after
incarnation_between done after h b inc is at =
    let changed : Process → List Process = λ q. set (between done fresh after) (length done)
    (record q { incarnation = inc }) in
    ap (λ (x : List Process). with_incarnation x b inc) is ∙ ap
    (λ (k : ℕ). with_incarnation (between done fresh after) k inc) at
    ∙ ap changed (get_or-append_seam done fresh after fresh) ∙ set-append_seam done fresh after
    (process_with inc [])

-- the events of a tape are read one after another
events_again : (n : ℕ) (done after : List Process) (inc : ℕ) (tape events : List Event)
    (more : List Record) (i : ℕ)
    → length done + (1 + length after) ≡ n → n ≤ MOST_PROCESSES
    → length tape + length events ≤ MOST_EVENTS → AllByRecursion (IsEventInRange n) events
    → (j : ℕ) × (many is_event (event_at (length done))
    (between done (process_with inc tape) after) i (map event_record events ++ more)
    ≡ many is_event (event_at (length done))
    (between done (process_with inc (tape ++ events)) after) j more)
events_again n done after inc tape [] more i is few room fit = (
  i,
  ap (λ (ts : List Event). many is_event (event_at (length done))
      (between done (process_with inc ts) after) i more) (sym (append-nil tape)),
)
events_again n done after inc tape (event ∷ events) more i is few room fit =
    let p : ℕ = length done in
    let h : List Process = between done (process_with inc tape) after in
    let next : List Process = between done (process_with inc (tape ++ event ∷ [])) after in
    let long : length h
    ≡ n = omega (arith, length-append done (process_with inc tape ∷ after), is) in
    let tape_is : tape_at h p ≡ tape = ap (λ (q : Process). q.tape)
    (get_or-append_seam done (process_with inc tape) after fresh) in
    let short : length (tape_at h p) < MOST_EVENTS = omega (arith, ap length tape_is, room) in
    let ok : List Process → Result (List Process) Fault = λ x. Ok x in
    let read : event_at p h (event_record event) ≡ Ok next = event_again p n h event long few fit.0
    short ∙ ap ok (event_between done after inc tape event) in
    let first = first_more is_event (event_at p) h next i (event_record event)
    (map event_record events ++ more) (event_is_event event) read in
    let less : length (tape ++ event ∷ []) + length events ≤ MOST_EVENTS = omega
    (arith, length-append tape (event ∷ []), room) in
    let rest = events_again n done after inc (tape ++ event ∷ []) events more
    (i + 1) is few less fit.1 in (
      rest.0,
      first ∙ rest.1 ∙ ap (λ (ts : List Event). many is_event (event_at p) (between done
          (process_with inc ts) after) rest.0 more) (append_assoc tape (event ∷ []) events),
    )

-- a tape is read with its events
tape_from_again : (n : ℕ) (done after h : List Process) (b inc : ℕ) (tape : List Event)
    (more : List Record) (i : ℕ)
    → begins is_event more ≡ false → h ≡ between done fresh after → b ≡ length done
    → length done + (1 + length after) ≡ n → n ≤ MOST_PROCESSES
    → inc ≤ LAST_INCARNATION → length tape ≤ MOST_EVENTS → AllByRecursion (IsEventInRange n) tape
    → (j : ℕ) × (tape_from b h i (tape_record b inc ∷ (map event_record tape ++ more))
    ≡ Ok (part_to (between done (process_with inc tape) after) j more))
unfolding tape_from
tape_from_again n done after h b inc tape more i ends is at total few small short fit =
    let events : List Record = map event_record tape in
    let begun : List Process = between done (process_with inc []) after in
    let wide : b ≤ MOST_NUMBER = omega (arith, at, total, few) in
    let ok : List Process → Result (List Process) Fault = λ x. Ok x in
    let head : tape_of b h (tape_record b inc) ≡ Ok begun = tape_again b inc h wide small ∙ ap ok
    (incarnation_between done after h b inc is at) in
    let first = one_again (codes "tape") (tape_of b h) i (tape_record b inc)
    (events ++ more) begun refl head in
    let room : 0 + length tape ≤ MOST_EVENTS = omega (arith, short) in
    let read = events_again n done after inc [] tape more (i + 1) total few room fit in
    let all : many is_event (event_at b) begun (i + 1) (events ++ more)
    ≡ Ok (part_to (between done (process_with inc tape) after) read.0 more)
    = ap (λ (q : ℕ). many is_event (event_at q) begun (i + 1) (events ++ more)) at ∙ read.1 ∙
    many_end is_event (event_at (length done))
    (between done (process_with inc tape) after) read.0 more ends in
    (read.0, rw first all)

-- a tape is no event
tapes_end_events : (b : ℕ) (rest : List Process) (more : List Record) → begins is_event more ≡ false
    → begins is_event (tapes_records b rest ++ more) ≡ false
tapes_end_events b [] more ends = ends
tapes_end_events b (p ∷ others) more ends = refl

-- the tapes are read one after another
tapes_again : (n : ℕ) (done rest h : List Process) (b i : ℕ) (more : List Record)
    → begins is_event more ≡ false → h ≡ done ++ replicate (length rest) fresh → b ≡ length done
    → length done + length rest ≡ n → n ≤ MOST_PROCESSES → AllByRecursion (IsTapeInRange n) rest
    → (j : ℕ) × (tapes_from b (length rest) h i (tapes_records b rest ++ more)
    ≡ Ok (part_to (done ++ rest) j more))
unfolding tapes_from
tapes_again n done [] h b i more ends is at total few fit =
    let P : List Process → Result (Part (List Process)) TextFault = λ x. Ok (part_to x i more) in
    (i, ap P is)
tapes_again n done (p ∷ others) h b i more ends is at total few fit =
    let after : List Process = replicate (length others) fresh in
    let events : List Record = map event_record p.tape in
    let later : List Record = tapes_records (b + 1) others ++ more in
    let ok : IsTapeInRange n p = fit.0 in
    let count : length after ≡ length others = length-replicate (length others) fresh in
    let around : length done + (1 + length after) ≡ n = omega (arith, count, total) in
    let room : length p.tape ≤ MOST_EVENTS = omega (arith, ok.few) in
    let read = tape_from_again n done after h b p.incarnation p.tape later i (tapes_end_events
    (b + 1) others more ends) is at around few ok.incarnation room ok.events in
    let whole : tape_from b h i (tapes_records b (p ∷ others) ++ more)
    ≡ Ok (part_to (done ++ p ∷ after) read.0 later)
    = ap (λ (rest : List Record). tape_from b h i (tape_record b p.incarnation ∷ rest))
    (append_assoc events (tapes_records (b + 1) others) more) ∙ read.1 in
    let one-more : b + 1
    ≡ length (done ++ p ∷ []) = omega (arith, length-append done (p ∷ []), at) in
    let all : length (done ++ p ∷ []) + length others
    ≡ n = omega (arith, length-append done (p ∷ []), total) in
    let rest = tapes_again n (done ++ p ∷ []) others (done ++ p ∷ after) (b + 1) read.0 more ends
    (sym (append_assoc done (p ∷ []) after)) one-more all few fit.1 in
    let P : List Process
    → Result (Part (List Process)) TextFault = λ x. Ok (part_to x rest.0 more) in
    (rest.0, rw whole (rest.1 ∙ ap P (append_assoc done (p ∷ []) others)))

-- a history is read, up to the end or to what is no event
pub front_again : (history : List Process) (i : ℕ) (more : List Record) → IsHistoryInRange history
    → begins is_event more ≡ false
    → (j : ℕ) × (front_of (length history) i (tapes_records 0 history ++ more)
    ≡ Ok (part_to history j more))
unfolding front_of
front_again history i more fit ends =
    let n : ℕ = length history in
    let none : 0 + length history ≡ n = omega arith in
    tapes_again n [] history (replicate n fresh) 0 i more ends refl refl none fit.few fit.tapes

floor_again : (front : List (ℕ × ℕ)) (floor : ℕ × ℕ) → length front ≤ MOST_NUMBER
    → floor.0 ≤ MOST_NUMBER → floor.1 ≤ MOST_NUMBER
    → one_floor_more front (floor_record (length front) floor) ≡ Ok (front ++ floor ∷ [])
unfolding one_floor_more three
floor_again front floor few check sends =
    rw (
      plain_again (length front) few,
      plain_again floor.0 check,
      plain_again floor.1 sends,
      eq-eqb
          (length front) (length front) refl,
    ) refl

-- what was let go is read, process by process
floors_again : (front floors : List (ℕ × ℕ)) (p i : ℕ) (more : List Record) → p ≡ length front
    → length front + length floors ≤ MOST_NUMBER
    → AllByRecursion (λ floor. (floor.0 ≤ MOST_NUMBER) × (floor.1 ≤ MOST_NUMBER)) floors
    → (j : ℕ) × (several (codes "floor") one_floor_more (length floors) front i
    (floors_records p floors ++ more) ≡ Ok (part_to (front ++ floors) j more))
unfolding several
floors_again front [] p i more at room fit =
    let P : List (ℕ × ℕ)
    → Result (Part (List (ℕ × ℕ))) TextFault = λ floors. Ok (part_to floors i more) in
    (i, ap P (sym (append-nil front)))
floors_again front (floor ∷ others) p i more at room fit =
    let next : List (ℕ × ℕ) = front ++ floor ∷ [] in
    let later : List Record = floors_records (p + 1) others ++ more in
    let few : length front ≤ MOST_NUMBER = omega (arith, room) in
    let long : p + 1 ≡ length next = omega (arith, at, length-append front (floor ∷ [])) in
    let left : length next + length others ≤ MOST_NUMBER = omega
    (arith, room, length-append front (floor ∷ [])) in
    let read : one_floor_more front (floor_record p floor) ≡ Ok next = ap (λ (q : ℕ). one_floor_more
    front (floor_record q floor)) at ∙ floor_again front floor few fit.0.0 fit.0.1 in
    let first = one_again (codes "floor") (one_floor_more front) i
    (floor_record p floor) later next refl read in
    let rest = floors_again next others (p + 1) (i + 1) more long left fit.1 in
    let P : List (ℕ × ℕ)
    → Result (Part (List (ℕ × ℕ))) TextFault = λ floors. Ok (part_to floors rest.0 more) in (
      rest.0,
      several_next (codes "floor") one_floor_more (length others) front i
          (floor_record p floor ∷ later)
          ∙ ap (λ (read : Result (Part (List (ℕ × ℕ))) TextFault). read >>= λ s. several
          (codes "floor") one_floor_more (length others) s.value s.number s.left) first
          ∙ rest.1 ∙ ap P (append_assoc front (floor ∷ []) others),
    )

-- all that a version tells of it, behind the first record
pub all_floors_again : (version n : ℕ) (floors : List (ℕ × ℕ)) (r : Record) (more : List Record)
    → n ≤ MOST_PROCESSES → AreFloorsInRange version n floors
    → (j : ℕ) × (floors_of version n (r ∷ (floors_records 0 floors ++ more))
    ≡ Ok (part_to floors j more))
all_floors_again version n floors r more few fit =
    let counted = fit.counted in
    let room : 0 + length floors ≤ MOST_NUMBER = omega
    (arith, few, counted, floors_few version n) in
    let read = floors_again [] floors 0 2 more refl room fit.numbers in (
      read.0,
      ap (λ (k : ℕ). several (codes "floor") one_floor_more k [] 2
          (floors_records 0 floors ++ more)) (sym counted) ∙ read.1,
    )

-- its first record announces it
pub first_again : (version : ℕ) (floors : List (ℕ × ℕ)) (history : List Process) (more : List
    Record) → IsCheckVersion version → IsHistoryInRange history → length history ≤ most_in version
    → head_in (front_records version floors history ++ more) ≡ Ok (version, length history)
first_again version floors history more known fit room =
    rw (head_again version (length history) known fit.some room) refl

-- the records of a history stand apart
pub front_parts : (version : ℕ) (floors : List (ℕ × ℕ)) (history : List Process)
    (more : List Record)
    → front_records version floors history ++ more ≡ history_record version (length history)
    ∷ (floors_records 0 floors ++ (tapes_records 0 history ++ more))
front_parts version floors history more = ap (λ (rest : List Record). history_record version
    (length history) ∷ rest) (append_assoc (floors_records 0 floors) (tapes_records 0 history) more)

pub history_again : (version : ℕ) (floors : List (ℕ × ℕ)) (history : List Process)
    → IsCheckVersion version → AreFloorsInRange version (length history) floors
    → IsHistoryInRange history → length history ≤ most_in version
    → history_of (front_records version floors history) ≡ Ok history
unfolding history_of
history_again version floors history known good fit room =
    let n : ℕ = length history in
    let records : List Record = front_records version floors history in
    let tapes : List Record = tapes_records 0 history in
    let head : head_in records
    ≡ Ok (version, n) = rw (head_again version n known fit.some room) refl in
    let told = all_floors_again version n floors (history_record version n) tapes fit.few good in
    let read = front_again history told.0 [] fit refl in
    let whole : front_of n told.0 tapes ≡ Ok (part_to history read.0 []) = ap (front_of n told.0)
    (sym (append-nil tapes)) ∙ read.1 in
    rw (head, told.1, whole) refl
