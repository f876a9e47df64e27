-- A saved machine that is written is read again.
use Rattle.std.proofs.Common.{◌≡◌, ◌≤◌, ◌<◌, ℕ, ◌+◌, ◌-◌, ◌^◌, true, false, Option, Some, None}
use Rattle.std.proofs.Common.{List, [], ◌∷◌, ◌++◌, get_or, length, Result, Ok, refl, sym, ap, ◌∙◌}
use Rattle.std.proofs.Common.{arith, append_assoc, length-append, eq-eqb}
use Rattle.std.specs.Prelude.{codes, decimal, map, replicate}
use Rattle.std.specs.List.{AllByRecursion, list_all}
use Rattle.std.proofs.Math.Seq.{get_or-append_seam}
use Rattle.std.proofs.lemmas.Bool.{lt-ltb}
use Rattle.std.proofs.lemmas.List.{append-nil, length-map}
use Rattle.std.proofs.lemmas.List.Folds.{list_all-append}
use Rattle.line_names.specs.declared.limits.TheConstants.{MOST_PROCESSES}
use Rattle.line_fields.specs.Records.{Record}
use Rattle.line_fields.specs.Texts.{is_plain_field, is_written, records_text}
use Rattle.line_fields.proofs.PlainLemmas.{plain_decimal}
use Rattle.line_fields.proofs.ReadAgain.{written_is_input, written_is_read}
use Rattle.line_fields.proofs.RoundLemmas.{num_decimal}
use Rattle.line_tape.specs.declared.limits.TheConstants.{LAST_ROUND, MOST_EVENTS}
use Rattle.line_tape.specs.Event.{checks}
use Rattle.line_tape.specs.History.{Process}
use Rattle.line_tape.specs.Views.{MarksView, no_marks}
use Rattle.line_tape.proofs.RowLemmas.{checks_le}
use Rattle.line_claims.specs.declared.faults.TextFault.{TextFault}
use Rattle.line_claims.specs.Entries.{bar_of, damage_of}
use Rattle.line_claims.specs.Events.{is_event}
use Rattle.line_claims.specs.Histories.{floors_of, head_in}
use Rattle.line_claims.specs.Parts.{Part, begins, is_named, many}
use Rattle.line_claims.specs.Ranges.{IsTapeInRange}
use Rattle.line_claims.specs.Records.{bars_records, damages_records, floors_records, front_records}
use Rattle.line_claims.specs.Records.{history_record, tapes_records}
use Rattle.line_claims.specs.Saved.{SavedParts, checks_among, last_listed, last_round_of}
use Rattle.line_claims.specs.Saved.{one_round_more, saved_end_record, saved_of, saved_of_text}
use Rattle.line_claims.specs.Saved.{saved_records, saved_rest, saved_round_record}
use Rattle.line_claims.specs.SavedRanges.{AreChecksAmong, AreRoundsAfter, IsSavedInRange}
use Rattle.line_claims.specs.Versions.{IsCheckVersion, most_in}
use Rattle.line_claims.proofs.AgainLemmas.{all_floors_again, first_again, front_again, front_parts}
use Rattle.line_claims.proofs.AgainLemmas.{one_again, part_to}
use Rattle.line_claims.proofs.ClaimAgainLemmas.{bars_again, damages_again, marks_from, marks_of}
use Rattle.line_claims.proofs.ClaimWrittenLemmas.{bars_are_written, damages_are_written}
use Rattle.line_claims.proofs.ReadingLemmas.{first_more, many_end}
use Rattle.line_claims.proofs.SpellLemmas.{round_again}
use Rattle.line_claims.proofs.WrittenLemmas.{history_is_written}

-- ---- rounds

-- the tapes of processes are short
abbrev AreShort : List Process → Type 0
AreShort processes = AllByRecursion (λ process. length process.tape ≤ MOST_EVENTS) processes

tapes_are_short : (n : ℕ) (processes : List Process) → AllByRecursion (IsTapeInRange n) processes
    → AreShort processes
tapes_are_short n [] fit = tt
tapes_are_short n (process ∷ others) fit = (fit.0.few, tapes_are_short n others fit.1)

check_is_small : (process : Process) (check : ℕ) → length process.tape ≤ MOST_EVENTS
    → check ≤ checks process.tape → check < 2 ^ 64
check_is_small process check short le = omega (arith, short, le, checks_le process.tape)

checks_again : (processes : List Process) (found : List ℕ) → AreShort processes
    → AreChecksAmong processes found → checks_among processes (map decimal found) ≡ Ok found
unfolding checks_among
checks_again [] [] short fit = refl
checks_again [] (check ∷ others) short fit = absurd fit
checks_again (process ∷ rest) [] short fit = absurd fit
checks_again (process ∷ rest) (check ∷ others) short fit =
    rw (
      num_decimal 0 (checks process.tape) check (omega arith) fit.0
          (check_is_small process check short.0 fit.0),
      checks_again rest others short.1 fit.1,
    ) refl

as_many : (processes : List Process) (found : List ℕ) → AreChecksAmong processes found
    → length found ≡ length processes
as_many [] [] fit = refl
as_many [] (check ∷ others) fit = absurd fit
as_many (process ∷ rest) [] fit = absurd fit
as_many (process ∷ rest) (check ∷ others) fit = omega (arith, as_many rest others fit.1)

one_round_again : (history : List Process) (front : List (ℕ × List ℕ)) (number : ℕ) (found : List ℕ)
    → AreShort history → last_listed front < number → number ≤ LAST_ROUND
    → AreChecksAmong history found
    → one_round_more history front (saved_round_record number found)
    ≡ Ok (front ++ (number, found) ∷ [])
unfolding one_round_more
one_round_again history front number found short after small fit =
    let width : length (saved_round_record number found)
    ≡ length history + 2 = omega (arith, length-map found decimal, as_many history found fit) in
    let low : 1 ≤ number = omega (arith, after) in
    rw (
      eq-eqb (length (saved_round_record number found))
          (length history + 2) width,
      round_again number low small,
      checks_again history found short
          fit,
      lt-ltb (last_listed front) number after,
    ) refl

last_behind : (front : List (ℕ × List ℕ)) (round : ℕ × List ℕ)
    → last_listed (front ++ round ∷ []) ≡ round.0
last_behind front round =
    let at : length (front ++ round ∷ []) - 1
    ≡ length front = omega (arith, length-append front (round ∷ [])) in
    ap (λ (k : ℕ). (get_or (front ++ round ∷ []) k (0, [])).0) at ∙ ap (λ (r : ℕ × List ℕ). r.0)
    (get_or-append_seam front round [] (0, []))

-- the records of a round
abbrev round_record_of : ℕ × List ℕ → Record
round_record_of round = saved_round_record round.0 round.1

-- the rounds of records, behind those so far
abbrev rounds_from : List Process → List (ℕ × List ℕ) → ℕ → List Record
    → Result (Part (List (ℕ × List ℕ))) TextFault
rounds_from history rounds i records =
    many (is_named (codes "round")) (one_round_more history) rounds i records

rounds_again : (history : List Process) (front rounds : List (ℕ × List ℕ)) (before i : ℕ)
    (more : List Record) → AreShort history → last_listed front ≡ before
    → AreRoundsAfter history before rounds
    → (j : ℕ) × (rounds_from history front i (map round_record_of rounds ++ more)
    ≡ rounds_from history (front ++ rounds) j more)
rounds_again history front [] before i more short is fit = (
  i,
  ap
      (λ (rounds : List (ℕ × List ℕ)). rounds_from history rounds i more) (sym (append-nil front)),
)
rounds_again history front (round ∷ rounds) before i more short is fit =
    let next : List (ℕ × List ℕ) = front ++ round ∷ [] in
    let after : last_listed front < round.0 = omega (arith, is, fit.0) in
    let first = first_more (is_named (codes "round")) (one_round_more history) front next i
    (round_record_of round) (map round_record_of rounds ++ more) refl
    (one_round_again history front round.0 round.1 short after fit.1 fit.2) in
    let rest = rounds_again history next rounds round.0 (i + 1) more short
    (last_behind front round) fit.3 in (
      rest.0,
      first ∙ rest.1 ∙ ap (λ (listed : List (ℕ × List ℕ)). rounds_from history listed rest.0
          more) (append_assoc front (round ∷ []) rounds),
    )

last_again : (rounds : List (ℕ × List ℕ)) (last : ℕ) → last_listed rounds ≤ last → last ≤ LAST_ROUND
    → last_round_of rounds (saved_end_record last) ≡ Ok last
unfolding last_round_of
last_again rounds last low high =
    num_decimal (last_listed rounds) LAST_ROUND last low high (omega (arith, high))

-- ---- what stands behind a part is of another kind

rest_is_no_bar : (rounds : List (ℕ × List ℕ)) (last : ℕ) (more : List Record)
    → begins (is_named (codes "bar")) (saved_rest rounds last ++ more) ≡ false
rest_is_no_bar [] last more = refl
rest_is_no_bar (round ∷ others) last more = refl

bars_are_no_damage : (p : ℕ) (bars : List (Option ℕ)) (rounds : List (ℕ × List ℕ)) (last : ℕ)
    (more : List Record) → begins (is_named (codes "damage"))
    (bars_records p bars ++ (saved_rest rounds last ++ more)) ≡ false
bars_are_no_damage p [] [] last more = refl
bars_are_no_damage p [] (round ∷ others) last more = refl
bars_are_no_damage p (None ∷ others) rounds last more =
    bars_are_no_damage (p + 1) others rounds last more
bars_are_no_damage p (Some check ∷ others) rounds last more = refl

bars_are_no_event : (p : ℕ) (bars : List (Option ℕ)) (rounds : List (ℕ × List ℕ)) (last : ℕ) (more :
    List Record) → begins is_event (bars_records p bars ++ (saved_rest rounds last ++ more)) ≡ false
bars_are_no_event p [] [] last more = refl
bars_are_no_event p [] (round ∷ others) last more = refl
bars_are_no_event p (None ∷ others) rounds last more =
    bars_are_no_event (p + 1) others rounds last more
bars_are_no_event p (Some check ∷ others) rounds last more = refl

marks_are_no_event : (p : ℕ) (damaged : List (List ℕ)) (bars : List (Option ℕ))
    (rounds : List (ℕ × List ℕ)) (last : ℕ) (more : List Record)
    → begins is_event (damages_records p damaged
    ++ (bars_records 0 bars ++ (saved_rest rounds last ++ more))) ≡ false
marks_are_no_event p [] bars rounds last more = bars_are_no_event 0 bars rounds last more
marks_are_no_event p ([] ∷ others) bars rounds last more =
    marks_are_no_event (p + 1) others bars rounds last more
marks_are_no_event p ((check ∷ checks) ∷ others) bars rounds last more = refl

-- ---- the whole

-- the records stand apart
saved_parts : (parts : SavedParts) (more : List Record)
    → saved_records parts ++ more
    ≡ front_records 4 parts.floors parts.history ++ (damages_records 0 parts.marks.damaged
    ++ (bars_records 0 parts.marks.bars ++ (saved_rest parts.rounds parts.last ++ more)))
saved_parts parts more =
    let front : List Record = front_records 4 parts.floors parts.history in
    let damages : List Record = damages_records 0 parts.marks.damaged in
    let bars : List Record = bars_records 0 parts.marks.bars in
    let rest : List Record = saved_rest parts.rounds parts.last in
    append_assoc (front ++ (damages ++ bars)) rest more
    ∙ append_assoc front (damages ++ bars) (rest ++ more)
    ∙ ap (λ (behind : List Record). front ++ behind) (append_assoc damages bars (rest ++ more))

pub saved_again : (parts : SavedParts) (more : List Record) → IsSavedInRange parts
    → (j : ℕ) × (saved_of (saved_records parts ++ more) ≡ Ok (part_to parts j more))
unfolding saved_of most_in
saved_again parts more fit =
    let history : List Process = parts.history in
    let n : ℕ = length history in
    let damaged : List (List ℕ) = parts.marks.damaged in
    let bars : List (Option ℕ) = parts.marks.bars in
    let few = fit.history.few in
    let whole = fit.whole in
    let barred_all = fit.barred in
    let known : IsCheckVersion 4 = (omega arith, omega arith) in
    let room : length history ≤ most_in 4 = fit.history.few in
    let end : List Record = saved_end_record parts.last ∷ more in
    let rest : List Record = saved_rest parts.rounds parts.last ++ more in
    let listed : List Record = map round_record_of parts.rounds ++ end in
    let barred : List Record = bars_records 0 bars ++ rest in
    let marked : List Record = damages_records 0 damaged ++ barred in
    let behind : List Record = tapes_records 0 history ++ marked in
    let records : List Record = front_records 4 parts.floors history ++ marked in
    let apart : saved_records parts ++ more ≡ records = saved_parts parts more in
    let joined : records ≡ history_record 4 n
    ∷ (floors_records 0 parts.floors ++ behind) = front_parts 4 parts.floors history marked in
    let head : head_in records
    ≡ Ok (4, n) = first_again 4 parts.floors history marked known fit.history room in
    let let_go = all_floors_again 4 n parts.floors (history_record 4 n) behind few fit.floors in
    let told : floors_of 4 n records
    ≡ Ok (part_to parts.floors let_go.0 behind) = ap (floors_of 4 n) joined ∙ let_go.1 in
    let front = front_again history let_go.0 marked fit.history
    (marks_are_no_event 0 damaged bars parts.rounds parts.last more) in
    let free : List (Option ℕ) = replicate (length bars) None in
    let begun : no_marks n
    ≡ marks_of free (replicate (length damaged) []) = ap
    (λ (k : ℕ). marks_of (replicate k None) (replicate n [])) (sym barred_all) ∙ ap
    (λ (k : ℕ). marks_of free (replicate k [])) (sym whole) in
    let within : 0 + length damaged ≤ n = omega (arith, whole) in
    let all : 0 + length bars ≤ n = omega (arith, barred_all) in
    let damages = damages_again n free [] damaged 0 front.0 barred few refl within fit.marks in
    let damage : marks_from n (no_marks n) front.0 marked
    ≡ Ok (part_to (marks_of free damaged) damages.0 barred)
    = ap (λ (marks : MarksView). marks_from n marks front.0 marked) begun ∙ damages.1
    ∙ many_end (is_named (codes "damage")) (damage_of n) (marks_of free damaged) damages.0 barred
    (bars_are_no_damage 0 bars parts.rounds parts.last more) in
    let lowered = bars_again 4 n damaged [] bars 0 damages.0 rest few refl all fit.bars
    (λ some. refl) in
    let marks : many (is_named (codes "bar")) (bar_of n) (marks_of free damaged) damages.0 barred
    ≡ Ok (part_to parts.marks lowered.0 rest)
    = lowered.1 ∙ many_end (is_named (codes "bar")) (bar_of n) parts.marks lowered.0 rest
    (rest_is_no_bar parts.rounds parts.last more) in
    let short : AreShort history = tapes_are_short n history fit.history.tapes in
    let shown : rest ≡ listed = append_assoc (map round_record_of parts.rounds)
    (saved_end_record parts.last ∷ []) more in
    let taken = rounds_again history [] parts.rounds 0 lowered.0 end short refl fit.rounds in
    let rounds : rounds_from history [] lowered.0 rest ≡ Ok (part_to parts.rounds taken.0 end)
    = ap (rounds_from history [] lowered.0) shown ∙ taken.1 ∙ many_end (is_named (codes "round"))
    (one_round_more history) parts.rounds taken.0 end refl in
    let last = one_again (codes "saved") (last_round_of parts.rounds) taken.0 (saved_end_record
    parts.last) more parts.last refl (last_again parts.rounds parts.last fit.listed fit.last) in
    (taken.0 + 1, rw (apart, head, told, front.1, damage, marks, rounds, last) refl)

-- ---- its text

checks_are_plain : (processes : List Process) (found : List ℕ) → AreShort processes
    → AreChecksAmong processes found → list_all is_plain_field (map decimal found) ≡ true
checks_are_plain [] [] short fit = refl
checks_are_plain [] (check ∷ others) short fit = absurd fit
checks_are_plain (process ∷ rest) [] short fit = absurd fit
checks_are_plain (process ∷ rest) (check ∷ others) short fit = rw (plain_decimal check
    (check_is_small process check short.0 fit.0)) (checks_are_plain rest others short.1 fit.1)

rest_is_written : (history : List Process) (before : ℕ) (rounds : List (ℕ × List ℕ)) (last : ℕ)
    → AreShort history → AreRoundsAfter history before rounds → last ≤ LAST_ROUND
    → list_all is_written (saved_rest rounds last) ≡ true
rest_is_written history before [] last short fit small =
    rw (plain_decimal last (omega (arith, small))) refl
rest_is_written history before (round ∷ others) last short fit small =
    let wide : round.0 < 2 ^ 64 = omega (arith, fit.1) in
    rw (plain_decimal round.0 wide, checks_are_plain history round.1 short fit.2)
    (rest_is_written history round.0 others last short fit.3 small)

pub saved_is_written : (parts : SavedParts) → IsSavedInRange parts
    → list_all is_written (saved_records parts) ≡ true
saved_is_written parts fit =
    let front : List Record = front_records 4 parts.floors parts.history in
    let damages : List Record = damages_records 0 parts.marks.damaged in
    let bars : List Record = bars_records 0 parts.marks.bars in
    let rest : List Record = saved_rest parts.rounds parts.last in
    let few = fit.history.few in
    let whole = fit.whole in
    let barred = fit.barred in
    let known : IsCheckVersion 4 = (omega arith, omega arith) in
    let room : 0 + length parts.marks.damaged ≤ MOST_PROCESSES = omega (arith, few, whole) in
    let space : 0 + length parts.marks.bars ≤ MOST_PROCESSES = omega (arith, few, barred) in
    let short : AreShort parts.history = tapes_are_short
    (length parts.history) parts.history fit.history.tapes in
    rw (
      list_all-append is_written (front ++ (damages ++ bars)) rest,
      list_all-append is_written front (damages ++ bars),
      list_all-append is_written damages bars,
      history_is_written 4 parts.floors parts.history known fit.floors fit.history,
      damages_are_written 0 parts.marks.damaged room fit.marks,
      bars_are_written 0 parts.marks.bars space fit.bars,
    )
    (rest_is_written parts.history 0 parts.rounds parts.last short fit.rounds fit.last)

pub saved_text_again : (parts : SavedParts) → IsSavedInRange parts
    → saved_of_text (records_text (saved_records parts)) ≡ Ok parts
saved_text_again parts fit =
    let records : List Record = saved_records parts in
    let written = saved_is_written parts fit in
    let read = saved_again parts [] fit in
    let whole : saved_of records
    ≡ Ok (part_to parts read.0 []) = ap saved_of (sym (append-nil records)) ∙ read.1 in
    rw (written_is_input records written, written_is_read records written, whole) refl
