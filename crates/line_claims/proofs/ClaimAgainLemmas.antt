-- A claim that is written is read again.
use Rattle.std.proofs.Common.{◌≡◌, ◌≤◌, ◌<◌, ℕ, ◌+◌, ◌==◌, Bool, true, false, Option, Some, None}
use Rattle.std.proofs.Common.{List, [], ◌∷◌, ◌++◌, length, Result, Ok, refl, sym, ap, ◌∙◌, arith}
use Rattle.std.proofs.Common.{append_assoc, length-append}
use Rattle.std.specs.Prelude.{codes, map, nat_le, replicate}
use Rattle.std.specs.List.{AllByRecursion, list_any}
use Rattle.std.specs.Option.{is_some, option_map_or}
use Rattle.std.proofs.Math.ListN.{set}
use Rattle.std.proofs.Math.Seq.{get_or-append_seam, set-append_seam}
use Rattle.std.proofs.lemmas.List.{append-nil}
use Rattle.line_names.specs.declared.certificates.Passed.{Passed}
use Rattle.line_names.specs.declared.limits.TheConstants.{MOST_PROCESSES}
use Rattle.line_fields.specs.declared.faults.Fault.{Fault}
use Rattle.line_fields.specs.Records.{Record}
use Rattle.line_tape.specs.Survival.{is_barred, is_damaged}
use Rattle.line_tape.specs.Views.{MarksView, no_marks, with_bar, with_mark}
use Rattle.line_claims.specs.declared.faults.TextFault.{TextFault}
use Rattle.line_claims.specs.Claims.{Claim, answer_version, claim_from, is_bar}
use Rattle.line_claims.specs.Entries.{bar_of, damage_of, end_of, entry_of, failed_of, line_of}
use Rattle.line_claims.specs.Events.{is_event}
use Rattle.line_claims.specs.Parts.{Part, begins, many, is_named}
use Rattle.line_claims.specs.Ranges.{AreMarks, IsBar, IsClaimInRange, IsEntryInRange, version_with}
use Rattle.line_claims.specs.Records.{bar_record, bars_records, claim_records, damage_record}
use Rattle.line_claims.specs.Records.{damages_records, end_record, failed_record, judged_records}
use Rattle.line_claims.specs.Records.{line_record, pass_record, full_replay_record, rest_records}
use Rattle.line_claims.proofs.AgainLemmas.{one_again, part_to}
use Rattle.line_claims.proofs.AnswerAgainLemmas.{all_replays_again, all_starts_again, and_false}
use Rattle.line_claims.proofs.AnswerAgainLemmas.{answer_again, rest_is_no_pass}
use Rattle.line_claims.proofs.EntryAgainLemmas.{bar_again, damage_again, entry_again, failed_again}
use Rattle.line_claims.proofs.EntryAgainLemmas.{line_again}
use Rattle.line_claims.proofs.ReadingLemmas.{first_more, many_end}

abbrev pub marks_of : List (Option ℕ) → List (List ℕ) → MarksView
marks_of bars damaged = record { damaged = damaged; bars = bars }

-- the marks of records, behind those so far
abbrev pub marks_from : ℕ → MarksView → ℕ → List Record → Result (Part MarksView) TextFault
marks_from n marks i records = many (is_named (codes "damage")) (damage_of n) marks i records

mark_between : (bars : List (Option ℕ)) (done after : List (List ℕ)) (front : List ℕ) (check : ℕ)
    → with_mark (marks_of bars (done ++ front ∷ after)) (length done) check
    ≡ marks_of bars (done ++ (front ++ check ∷ []) ∷ after)
mark_between bars done after front check =
    let changed : List ℕ → MarksView = λ q. marks_of bars
    (set (done ++ front ∷ after) (length done) (q ++ check ∷ [])) in
    ap changed (get_or-append_seam done front after []) ∙ ap (marks_of bars)
    (set-append_seam done front after (front ++ check ∷ []))

-- the marks of a process are read one after another
marks_again : (n : ℕ) (bars : List (Option ℕ)) (done after : List (List ℕ)) (front checks : List ℕ)
    (more : List Record) (i : ℕ) → n ≤ MOST_PROCESSES → length done < n → AreMarks front checks
    → (j : ℕ) × (marks_from n (marks_of bars (done ++ front ∷ after)) i
    (map (damage_record (length done)) checks ++ more)
    ≡ marks_from n (marks_of bars (done ++ (front ++ checks) ∷ after)) j more)
marks_again n bars done after front [] more i few there fit = (
  i,
  ap (λ (marks : List ℕ). marks_from n (marks_of bars (done ++ marks ∷ after)) i more)
      (sym (append-nil front)),
)
marks_again n bars done after front (check ∷ checks) more i few there fit =
    let marks : MarksView = marks_of bars (done ++ front ∷ after) in
    let next : MarksView = marks_of bars (done ++ (front ++ check ∷ []) ∷ after) in
    let new : is_damaged marks (length done) check ≡ false = ap (λ (listed : List ℕ). list_any
    (λ mark. mark == check) listed) (get_or-append_seam done front after []) ∙ fit.2 in
    let ok : MarksView → Result MarksView Fault = λ m. Ok m in
    let read : damage_of n marks (damage_record (length done) check) ≡ Ok next
    = damage_again n (length done) check marks few there fit.0 fit.1 new ∙ ap ok
    (mark_between bars done after front check) in
    let first = first_more (is_named (codes "damage")) (damage_of n) marks next i (damage_record
    (length done) check) (map (damage_record (length done)) checks ++ more) refl read in
    let rest = marks_again n bars done after (front ++ check ∷ []) checks more
    (i + 1) few there fit.3 in (
      rest.0,
      first ∙ rest.1 ∙ ap (λ (listed : List ℕ). marks_from n (marks_of bars
          (done ++ listed ∷ after)) rest.0 more) (append_assoc front (check ∷ []) checks),
    )

-- the marks of processes are read one after another
pub damages_again : (n : ℕ) (bars : List (Option ℕ)) (done rest : List (List ℕ)) (p i : ℕ)
    (more : List Record) → n ≤ MOST_PROCESSES → p ≡ length done → length done + length rest ≤ n
    → AllByRecursion (AreMarks []) rest
    → (j : ℕ) × (marks_from n (marks_of bars (done ++ replicate (length rest) [])) i
    (damages_records p rest ++ more) ≡ marks_from n (marks_of bars (done ++ rest)) j more)
damages_again n bars done [] p i more few at room fit = (i, refl)
damages_again n bars done (checks ∷ others) p i more few at room fit =
    let after : List (List ℕ) = replicate (length others) [] in
    let later : List Record = damages_records (p + 1) others ++ more in
    let s : MarksView = marks_of bars (done ++ [] ∷ after) in
    let there : length done < n = omega arith in
    let read = marks_again n bars done after [] checks later i few there fit.0 in
    let one : p + 1
    ≡ length (done ++ checks ∷ []) = omega (arith, at, length-append done (checks ∷ [])) in
    let left : length (done ++ checks ∷ []) + length others ≤ n = omega
    (arith, room, length-append done (checks ∷ [])) in
    let rest = damages_again n bars (done ++ checks ∷ []) others
    (p + 1) read.0 more few one left fit.1 in
    let parted : marks_from n s i (damages_records p (checks ∷ others) ++ more)
    ≡ marks_from n s i (map (damage_record p) checks ++ later)
    = ap (marks_from n s i)
    (append_assoc (map (damage_record p) checks) (damages_records (p + 1) others) more) in
    let named : marks_from n s i (map (damage_record p) checks ++ later)
    ≡ marks_from n s i (map (damage_record (length done)) checks ++ later)
    = ap (λ (q : ℕ). marks_from n s i (map (damage_record q) checks ++ later)) at in
    let moved : marks_from n (marks_of bars (done ++ checks ∷ after)) read.0 later
    ≡ marks_from n (marks_of bars ((done ++ checks ∷ []) ++ after)) read.0 later
    = ap (λ (damaged : List (List ℕ)). marks_from n (marks_of bars damaged) read.0 later)
    (sym (append_assoc done (checks ∷ []) after)) in
    let back : marks_from n (marks_of bars ((done ++ checks ∷ []) ++ others)) rest.0 more
    ≡ marks_from n (marks_of bars (done ++ checks ∷ others)) rest.0 more
    = ap (λ (damaged : List (List ℕ)). marks_from n (marks_of bars damaged) rest.0 more)
    (append_assoc done (checks ∷ []) others) in
    (rest.0, parted ∙ named ∙ read.1 ∙ moved ∙ rest.1 ∙ back)

-- the entries of records, behind those so far
abbrev entries_from : ℕ → List Passed → ℕ → List Record → Result (Part (List Passed)) TextFault
entries_from n entries i records = many (is_named (codes "pass")) (entry_of n) entries i records

-- the entries are read one after another
passes_again : (n : ℕ) (front entries : List Passed) (more : List Record) (i : ℕ)
    → n ≤ MOST_PROCESSES → AllByRecursion (IsEntryInRange n) entries
    → (j : ℕ) × (entries_from n front i (map pass_record entries ++ more)
    ≡ entries_from n (front ++ entries) j more)
passes_again n front [] more i few fit =
    (i, ap (λ (entries : List Passed). entries_from n entries i more) (sym (append-nil front)))
passes_again n front (entry ∷ entries) more i few fit =
    let next : List Passed = front ++ entry ∷ [] in
    let first = first_more (is_named (codes "pass")) (entry_of n) front next i (pass_record entry)
    (map pass_record entries ++ more) refl (entry_again n front entry few fit.0) in
    let rest = passes_again n next entries more (i + 1) few fit.1 in (
      rest.0,
      first ∙ rest.1 ∙ ap (λ (listed : List Passed). entries_from n listed rest.0 more)
          (append_assoc front (entry ∷ []) entries),
    )

-- a process is barred
bar_between : (damaged : List (List ℕ)) (done after : List (Option ℕ)) (check : ℕ)
    → with_bar (marks_of (done ++ None ∷ after) damaged) (length done) check
    ≡ marks_of (done ++ Some check ∷ after) damaged
bar_between damaged done after check = ap (λ (bars : List (Option ℕ)). marks_of bars damaged)
    (set-append_seam done None after (Some check))

-- the bars of records, behind those so far
abbrev pub bars_from : ℕ → ℕ → MarksView → ℕ → List Record → Result (Part MarksView) TextFault
bars_from version n marks i records = many (is_bar version) (bar_of n) marks i records

-- where there is a bar, the version knows it
abbrev pub Knows : ℕ → List (Option ℕ) → Type 0
Knows version bars = list_any is_some bars ≡ true → nat_le 2 version ≡ true

-- the bars of processes are read one after another
pub bars_again : (version n : ℕ) (damaged : List (List ℕ)) (done rest : List (Option ℕ)) (p i : ℕ)
    (more : List Record) → n ≤ MOST_PROCESSES → p ≡ length done → length done + length rest ≤ n
    → AllByRecursion IsBar rest → Knows version rest
    → (j : ℕ) × (bars_from version n (marks_of (done ++ replicate (length rest) None) damaged) i
    (bars_records p rest ++ more)
    ≡ bars_from version n (marks_of (done ++ rest) damaged) j more)
bars_again version n damaged done [] p i more few at room fit knows = (i, refl)
bars_again version n damaged done (None ∷ others) p i more few at room fit knows =
    let after : List (Option ℕ) = replicate (length others) None in
    let one : p + 1
    ≡ length (done ++ None ∷ []) = omega (arith, at, length-append done (None ∷ [])) in
    let left : length (done ++ None ∷ []) + length others ≤ n = omega
    (arith, room, length-append done (None ∷ [])) in
    let rest = bars_again version n damaged (done ++ None ∷ []) others
    (p + 1) i more few one left fit.1 knows in
    let moved : bars_from version n (marks_of (done ++ None ∷ after) damaged) i
    (bars_records (p + 1) others ++ more) ≡ bars_from version n
    (marks_of ((done ++ None ∷ []) ++ after) damaged) i (bars_records (p + 1) others ++ more)
    = ap (λ (bars : List (Option ℕ)). bars_from version n (marks_of bars damaged) i
    (bars_records (p + 1) others ++ more)) (sym (append_assoc done (None ∷ []) after)) in (
      rest.0,
      moved ∙ rest.1 ∙ ap (λ (bars : List (Option ℕ)). bars_from version n
          (marks_of bars damaged) rest.0 more) (append_assoc done (None ∷ []) others),
    )
bars_again version n damaged done (Some check ∷ others) p i more few at room fit knows =
    let after : List (Option ℕ) = replicate (length others) None in
    let later : List Record = bars_records (p + 1) others ++ more in
    let marks : MarksView = marks_of (done ++ None ∷ after) damaged in
    let next : MarksView = marks_of (done ++ Some check ∷ after) damaged in
    let there : length done < n = omega arith in
    let lower : is_barred marks (length done) check ≡ false = ap (λ (bar : Option ℕ). option_map_or
    (λ (c : ℕ). nat_le c check) bar false) (get_or-append_seam done None after None) in
    let ok : MarksView → Result MarksView Fault = λ m. Ok m in
    let read : bar_of n marks (bar_record (length done) check) ≡ Ok next = bar_again n (length done)
    check marks few there fit.0 lower ∙ ap ok (bar_between damaged done after check) in
    let known : is_bar version (bar_record (length done) check) ≡ true = rw (knows refl) refl in
    let first = first_more (is_bar version) (bar_of n) marks next i
    (bar_record (length done) check) later known read in
    let one : p + 1 ≡ length (done ++ Some check ∷ []) = omega
    (arith, at, length-append done (Some check ∷ [])) in
    let left : length (done ++ Some check ∷ []) + length others ≤ n = omega
    (arith, room, length-append done (Some check ∷ [])) in
    let rest = bars_again version n damaged (done ++ Some check ∷ []) others (p + 1)
    (i + 1) more few one left fit.1 (λ some. knows refl) in
    let named : bars_from version n marks i (bar_record p check ∷ later)
    ≡ bars_from version n marks i (bar_record (length done) check ∷ later)
    = ap (λ (q : ℕ). bars_from version n marks i (bar_record q check ∷ later)) at in
    let moved : bars_from version n next (i + 1) later
    ≡ bars_from version n (marks_of ((done ++ Some check ∷ []) ++ after) damaged) (i + 1) later
    = ap (λ (bars : List (Option ℕ)). bars_from version n (marks_of bars damaged) (i + 1) later)
    (sym (append_assoc done (Some check ∷ []) after)) in (
      rest.0,
      named ∙ first ∙ moved ∙ rest.1 ∙ ap (λ (bars : List (Option ℕ)). bars_from version n
          (marks_of bars damaged) rest.0 more) (append_assoc done (Some check ∷ []) others),
    )

-- no bar is a mark of damage
bars_end_damage : (p n : ℕ) (bars : List (Option ℕ)) (failed : List Bool)
    → (rest : List Record) → begins (is_named (codes "damage"))
    (bars_records p bars ++ (failed_record n failed ∷ rest)) ≡ false
bars_end_damage p n [] failed rest = refl
bars_end_damage p n (None ∷ others) failed rest = bars_end_damage (p + 1) n others failed rest
bars_end_damage p n (Some check ∷ others) failed rest = refl

pub claim_again : (version : ℕ) (claim : Claim) (i : ℕ) → IsClaimInRange version claim
    → claim_from version (length claim.marks.damaged) i (claim_records claim) ≡ Ok claim
unfolding claim_from
claim_again version claim i fit =
    let n : ℕ = length claim.marks.damaged in
    let bars : List (Option ℕ) = claim.marks.bars in
    let damaged : List (List ℕ) = claim.marks.damaged in
    let room : 0 + length claim.marks.damaged ≤ n = omega arith in
    let rest : List Record = rest_records claim.starts claim.replays in
    let judged : List Record = judged_records n claim.failed claim.line claim.certificate
    claim.starts claim.replays in
    let barred : List Record = bars_records 0 bars ++ judged in
    let free : List (Option ℕ) = replicate (length bars) None in
    let passes : List Record = map pass_record claim.certificate ++ rest in
    let few = fit.few in
    let same : length bars ≡ n = fit.barred in
    let begun : no_marks n ≡ marks_of free (replicate n []) = ap
    (λ (k : ℕ). marks_of (replicate k None) (replicate n [])) (sym same) in
    let marked = damages_again n free [] damaged 0 i barred few refl room fit.marks in
    let damage : marks_from n (no_marks n) i (claim_records claim)
    ≡ Ok (part_to (marks_of free damaged) marked.0 barred)
    = ap (λ (marks : MarksView). marks_from n marks i (claim_records claim)) begun
    ∙ ap (marks_from n (marks_of free (replicate n [])) i)
    (append_assoc (damages_records 0 damaged) (bars_records 0 bars) judged)
    ∙ marked.1 ∙ many_end (is_named (codes "damage")) (damage_of n) (marks_of free damaged) marked.0
    barred (bars_end_damage 0 n bars claim.failed (line_record claim.line ∷ passes)) in
    let all : 0 + length bars ≤ n = omega (arith, same) in
    let told = bars_again version n damaged [] bars 0 marked.0 judged few refl all fit.bars
    fit.known in
    let marks : bars_from version n (marks_of free damaged) marked.0 barred
    ≡ Ok (part_to claim.marks told.0 judged)
    = told.1 ∙ many_end (is_bar version) (bar_of n) claim.marks told.0 judged
    (and_false (nat_le 2 version)) in
    let failed = one_again (codes "failed") (failed_of n) told.0 (failed_record n claim.failed)
    (line_record claim.line ∷ passes) claim.failed refl
    (failed_again n claim.failed fit.few fit.whole fit.there) in
    let line = one_again (codes "line") (line_of version) (told.0 + 1) (line_record claim.line)
    passes claim.line refl (line_again version claim.line fit.some fit.short fit.choices) in
    let listed = passes_again n [] claim.certificate rest ((told.0 + 1) + 1) fit.few fit.entries in
    let entries : entries_from n [] ((told.0 + 1) + 1) passes
    ≡ Ok (part_to claim.certificate listed.0 rest)
    = listed.1 ∙ many_end (is_named (codes "pass")) (entry_of n) claim.certificate listed.0 rest
    (rest_is_no_pass claim.starts claim.replays) in
    let sent : List Record = map full_replay_record claim.replays ++ end_record ∷ [] in
    let told : ℕ = version_with version claim.starts in
    let as_told : answer_version version rest
    ≡ told = answer_again version claim.starts claim.replays in
    let started = all_starts_again told n claim.starts listed.0 sent few fit.counted fit.starts in
    let replayed = all_replays_again told n claim.replays started.0 few fit.later fit.replays in
    let end = one_again (codes "end") end_of replayed.0 end_record [] tt refl refl in
    rw (damage, marks, failed, line, entries, as_told, started.1, replayed.1, end) refl

bars_begin : (p n : ℕ) (bars : List (Option ℕ)) (failed : List Bool) (rest : List Record)
    → begins is_event (bars_records p bars ++ (failed_record n failed ∷ rest)) ≡ false
bars_begin p n [] failed rest = refl
bars_begin p n (None ∷ others) failed rest = bars_begin (p + 1) n others failed rest
bars_begin p n (Some check ∷ others) failed rest = refl

claim_begins : (p n : ℕ) (damaged : List (List ℕ)) (bars : List (Option ℕ)) (failed : List Bool)
    (rest : List Record)
    → begins is_event ((damages_records p damaged ++ bars_records 0 bars)
    ++ (failed_record n failed ∷ rest)) ≡ false
claim_begins p n [] bars failed rest = bars_begin 0 n bars failed rest
claim_begins p n ([] ∷ others) bars failed rest = claim_begins (p + 1) n others bars failed rest
claim_begins p n ((check ∷ checks) ∷ others) bars failed rest = refl

pub claim_ends_front : (claim : Claim) → begins is_event (claim_records claim) ≡ false
claim_ends_front claim =
    claim_begins 0 (length claim.marks.damaged) claim.marks.damaged claim.marks.bars claim.failed
    (line_record claim.line
    ∷ (map pass_record claim.certificate ++ rest_records claim.starts claim.replays))
