-- The records of a claim have plain fields, and the text of a history and a claim on it is read
-- again.
use Rattle.std.proofs.Common.{◌≡◌, ◌≤◌, ◌<◌, ℕ, ◌+◌, ◌^◌, true, Option, Some, None, List, [], ◌∷◌}
use Rattle.std.proofs.Common.{◌++◌, length, Ok, refl, sym, ap, ◌∙◌, arith}
use Rattle.std.specs.Prelude.{decimal, map}
use Rattle.std.specs.List.{AllByRecursion, list_all}
use Rattle.std.proofs.lemmas.List.Folds.{list_all-append}
use Rattle.line_names.specs.declared.certificates.Passed.{Passed}
use Rattle.line_names.specs.declared.choices.Choice.{Choice}
use Rattle.line_names.specs.declared.choices.Choice.TheVariants.{Check as AtCheck, Now}
use Rattle.line_names.specs.declared.limits.TheConstants.{MOST_PROCESSES}
use Rattle.line_check.specs.declared.answers.Replay.{Replay}
use Rattle.line_check.specs.declared.answers.Start.{Start}
use Rattle.line_fields.specs.Records.{Record}
use Rattle.line_fields.specs.Texts.{is_plain_field, is_written, records_text}
use Rattle.line_fields.proofs.PlainLemmas.{plain_decimal, plain_hex}
use Rattle.line_fields.proofs.ReadAgain.{written_is_input, written_is_read}
use Rattle.line_tape.specs.History.{Process}
use Rattle.line_claims.specs.declared.numbers.TheConstants.{MOST_NUMBER}
use Rattle.line_claims.specs.Claims.{Claim, claim_from}
use Rattle.line_claims.specs.Histories.{floors_of, front_of, head_in}
use Rattle.line_claims.specs.Ranges.{AreFloorsInRange, AreMarks, IsBar, IsChoice, IsClaimInRange}
use Rattle.line_claims.specs.Ranges.{IsEntryInRange, IsHistoryInRange, IsReplayInRange}
use Rattle.line_claims.specs.Ranges.{IsStartInRange, IsStateInRange, version_with}
use Rattle.line_claims.specs.Records.{bars_records, choice_text, claim_records, damage_record}
use Rattle.line_claims.specs.Records.{damages_records, end_record, floors_records, front_records}
use Rattle.line_claims.specs.Records.{history_record, judged_records, marks_records, members}
use Rattle.line_claims.specs.Records.{pass_record, full_replay_record, rest_records, starts_records}
use Rattle.line_claims.specs.Records.{stored_text, tapes_records}
use Rattle.line_claims.specs.Texts.{certificate_of, certificate_of_text, check_text_of}
use Rattle.line_claims.specs.Texts.{check_of_text}
use Rattle.line_claims.specs.Versions.{IsCheckVersion, most_in}
use Rattle.line_claims.proofs.AgainLemmas.{all_floors_again, first_again, front_again, front_parts}
use Rattle.line_claims.proofs.AgainLemmas.{part_to}
use Rattle.line_claims.proofs.ClaimAgainLemmas.{claim_again, claim_ends_front}
use Rattle.line_claims.proofs.EntryAgainLemmas.{members_below}
use Rattle.line_claims.proofs.VersionLemmas.{starts_few}
use Rattle.line_claims.proofs.WrittenLemmas.{byte_at, history_is_written}
use Rattle.line_tape.specs.declared.limits.TheConstants.{LAST_INCARNATION}

marks_are_written : (p : ℕ) (before checks : List ℕ) → p < 2 ^ 64 → AreMarks before checks
    → list_all is_written (map (damage_record p) checks) ≡ true
marks_are_written p before [] small fit = refl
marks_are_written p before (check ∷ others) small fit =
    let wide : check ≤ MOST_NUMBER = fit.1 in
    rw (plain_decimal p small, plain_decimal check (omega arith))
    (marks_are_written p (before ++ check ∷ []) others small fit.3)

pub damages_are_written : (p : ℕ) (damaged : List (List ℕ)) → p + length damaged ≤ MOST_PROCESSES
    → AllByRecursion (AreMarks []) damaged → list_all is_written (damages_records p damaged) ≡ true
damages_are_written p [] room fit = refl
damages_are_written p (checks ∷ others) room fit =
    let one = marks_are_written p [] checks (omega arith) fit.0 in
    let more = damages_are_written (p + 1) others (omega arith) fit.1 in
    rw (
      list_all-append is_written (map (damage_record p) checks)
          (damages_records (p + 1) others),
      one,
      more,
    ) refl

pub bars_are_written : (p : ℕ) (bars : List (Option ℕ)) → p + length bars ≤ MOST_PROCESSES
    → AllByRecursion IsBar bars → list_all is_written (bars_records p bars) ≡ true
bars_are_written p [] room fit = refl
bars_are_written p (None ∷ others) room fit = bars_are_written (p + 1) others (omega arith) fit.1
bars_are_written p (Some check ∷ others) room fit =
    let wide : check ≤ MOST_NUMBER = fit.0 in
    rw (plain_decimal p (omega arith), plain_decimal check (omega arith))
    (bars_are_written (p + 1) others (omega arith) fit.1)

pub decimals_are_plain : (n : ℕ) (ps : List ℕ) → n ≤ MOST_PROCESSES → AllByRecursion (λ p. p < n) ps
    → list_all is_plain_field (map decimal ps) ≡ true
decimals_are_plain n [] few fit = refl
decimals_are_plain n (p ∷ others) few fit =
    let there : p < n = fit.0 in
    rw (plain_decimal p (omega arith)) (decimals_are_plain n others few fit.1)

choice_is_plain : (c : Choice) → IsChoice c → is_plain_field (choice_text c) ≡ true
choice_is_plain (AtCheck check) h = plain_decimal check (omega arith)
choice_is_plain Now h = refl

choices_are_plain : (line : List Choice) → AllByRecursion IsChoice line
    → list_all is_plain_field (map choice_text line) ≡ true
choices_are_plain [] fit = refl
choices_are_plain (c ∷ others) fit = rw (choice_is_plain c fit.0) (choices_are_plain others fit.1)

entry_is_written : (n : ℕ) (entry : Passed) → n ≤ MOST_PROCESSES → IsEntryInRange n entry
    → is_written (pass_record entry) ≡ true
entry_is_written n entry few fit =
    let at : entry.at < n = fit.at in
    let from : entry.message.from < n = fit.from in
    let small : entry.message.inc ≤ LAST_INCARNATION = fit.inc in
    let wide : entry.message.number ≤ MOST_NUMBER = fit.number in
    let a : entry.at < 2 ^ 64 = omega arith in
    let b : entry.message.from < 2 ^ 64 = omega arith in
    let c : entry.message.inc < 2 ^ 64 = omega arith in
    let d : entry.message.number < 2 ^ 64 = omega arith in
    rw (
      plain_decimal entry.at a,
      choice_is_plain entry.choice fit.choice,
      plain_decimal
          entry.message.from b,
      plain_decimal entry.message.inc c,
      plain_decimal entry.message.number
          d,
    ) refl

entries_are_written : (n : ℕ) (entries : List Passed) → n ≤ MOST_PROCESSES → AllByRecursion
    (IsEntryInRange n) entries → list_all is_written (map pass_record entries) ≡ true
entries_are_written n [] few fit = refl
entries_are_written n (entry ∷ others) few fit =
    rw (entry_is_written n entry few fit.0) (entries_are_written n others few fit.1)

state_is_plain : (state : Option (List ℕ)) → IsStateInRange state
    → is_plain_field (stored_text state) ≡ true
state_is_plain None fit = refl
state_is_plain (Some state) fit = plain_hex state (byte_at state fit.fit)

starts_are_written : (p : ℕ) (starts : List Start) → p + length starts ≤ MOST_PROCESSES
    → AllByRecursion IsStartInRange starts → list_all is_written (starts_records p starts) ≡ true
starts_are_written p [] room fit = refl
starts_are_written p (start ∷ others) room fit =
    let small : start.inc ≤ LAST_INCARNATION = fit.0.inc in
    let a : p < 2 ^ 64 = omega arith in
    let b : start.inc < 2 ^ 64 = omega arith in
    rw (plain_decimal p a, plain_decimal start.inc b, state_is_plain start.state fit.0.state)
    (starts_are_written (p + 1) others (omega arith) fit.1)

replay_is_written : (n : ℕ) (replay : Replay) → n ≤ MOST_PROCESSES → IsReplayInRange n replay
    → is_written (full_replay_record replay) ≡ true
replay_is_written n replay few fit =
    let from : replay.message.from < n = fit.from in
    let small : replay.message.inc ≤ LAST_INCARNATION = fit.inc in
    let wide : replay.message.number ≤ MOST_NUMBER = fit.number in
    let to : replay.to < n = fit.to in
    let place : replay.place ≤ MOST_NUMBER = fit.place in
    let a : replay.message.from < 2 ^ 64 = omega arith in
    let b : replay.message.inc < 2 ^ 64 = omega arith in
    let c : replay.message.number < 2 ^ 64 = omega arith in
    let d : replay.to < 2 ^ 64 = omega arith in
    let e : replay.place < 2 ^ 64 = omega arith in
    rw (
      plain_decimal replay.message.from a,
      plain_decimal replay.message.inc b,
      plain_decimal
          replay.message.number c,
      plain_decimal replay.to d,
      plain_decimal replay.place e,
      plain_hex
          replay.body (byte_at replay.body fit.body.fit),
    ) refl

replays_are_written : (n : ℕ) (replays : List Replay) → n ≤ MOST_PROCESSES
    → AllByRecursion (IsReplayInRange n) replays
    → list_all is_written (map full_replay_record replays ++ end_record ∷ []) ≡ true
replays_are_written n [] few fit = refl
replays_are_written n (replay ∷ others) few fit =
    rw (replay_is_written n replay few fit.0) (replays_are_written n others few fit.1)

claim_is_written : (version : ℕ) (claim : Claim) → IsClaimInRange version claim
    → list_all is_written (claim_records claim) ≡ true
claim_is_written version claim fit =
    let n : ℕ = length claim.marks.damaged in
    let few = fit.few in
    let room : 0 + length claim.marks.damaged ≤ MOST_PROCESSES = omega (arith, few) in
    let judged : List Record = judged_records n claim.failed claim.line claim.certificate
    claim.starts claim.replays in
    let rest : List Record = rest_records claim.starts claim.replays in
    let sent : List Record = map full_replay_record claim.replays ++ end_record ∷ [] in
    let barred = fit.barred in
    let space : 0 + length claim.marks.bars ≤ MOST_PROCESSES = omega (arith, few, barred) in
    let marks : list_all is_written (marks_records claim.marks) ≡ true
    = rw (
      list_all-append is_written (damages_records 0 claim.marks.damaged)
          (bars_records 0 claim.marks.bars),
      damages_are_written 0 claim.marks.damaged room fit.marks,
    )
    (bars_are_written 0 claim.marks.bars space fit.bars) in
    let failed = decimals_are_plain n (members n claim.failed) fit.few
    (members_below n claim.failed) in
    let line = choices_are_plain claim.line fit.choices in
    let begun : 0 + length claim.starts ≤ MOST_PROCESSES = omega
    (arith, few, fit.counted, starts_few (version_with version claim.starts) n) in
    let started = starts_are_written 0 claim.starts begun fit.starts in
    let behind : list_all is_written rest ≡ true = rw (
      list_all-append is_written (starts_records 0
          claim.starts) sent,
      started,
    ) (replays_are_written n claim.replays fit.few fit.replays) in
    let passes : list_all is_written (map pass_record claim.certificate ++ rest)
    ≡ true = rw (
      list_all-append is_written (map pass_record claim.certificate) rest,
      entries_are_written n claim.certificate fit.few fit.entries,
    ) behind in
    let all : list_all is_written judged ≡ true = rw (failed, line) passes in
    rw (list_all-append is_written (marks_records claim.marks) judged, marks, all) refl

pub claim_text_again : (version : ℕ) (claim : Claim) → IsClaimInRange version claim
    → certificate_of_text version (length claim.marks.damaged) (records_text (claim_records claim))
    ≡ Ok claim
unfolding certificate_of
claim_text_again version claim fit =
    let written = claim_is_written version claim fit in
    rw (
      written_is_input (claim_records claim) written,
      written_is_read
          (claim_records claim) written,
    ) (claim_again version claim 1 fit)

-- a check text is read part by part
check_joined : (version n i j : ℕ) (records behind rest : List Record) (history : List Process)
    (floors : List (ℕ × ℕ)) (claim : Claim) → head_in records ≡ Ok (version, n)
    → floors_of version n records ≡ Ok (part_to floors i behind)
    → front_of n i behind ≡ Ok (part_to history j rest) → claim_from version n j rest ≡ Ok claim
    → check_text_of records ≡ Ok (record { history = history; floors = floors; claim = claim })
unfolding check_text_of
check_joined version n i j records behind rest history floors claim head told front judged =
    rw (head, told, front, judged) refl

-- a history and a claim on it are read again
pub check_text_again : (version : ℕ) (floors : List (ℕ × ℕ)) (history : List Process)
    (claim : Claim) → IsCheckVersion version → length claim.marks.damaged ≤ most_in version
    → IsHistoryInRange history
    → AreFloorsInRange version (length history) floors → IsClaimInRange version claim
    → length claim.marks.damaged ≡ length history
    → check_of_text (records_text (front_records version floors history ++ claim_records claim))
    ≡ Ok (record { history = history; floors = floors; claim = claim })
unfolding check_text_of
check_text_again version floors history claim known wide fit told good same =
    let n : ℕ = length claim.marks.damaged in
    let room : length history ≤ most_in version = omega (arith, wide, same) in
    let records : List Record = front_records version floors history ++ claim_records claim in
    let behind : List Record = tapes_records 0 history ++ claim_records claim in
    let parts : records ≡ history_record version (length history) ∷ (floors_records 0 floors
    ++ behind) = front_parts version floors history (claim_records claim) in
    let written : list_all is_written records
    ≡ true = rw (
      list_all-append is_written (front_records version floors history)
          (claim_records claim),
      history_is_written version floors history known told fit,
      claim_is_written version claim good,
    ) refl in
    let head = first_again version floors history (claim_records claim) known fit room in
    let let_go = all_floors_again version (length history) floors
    (history_record version (length history)) behind fit.few told in
    let told_first : floors_of version (length history) records ≡ Ok (part_to floors let_go.0
    behind) = ap (floors_of version (length history)) parts ∙ let_go.1 in
    let front = front_again history let_go.0 (claim_records claim) fit (claim_ends_front claim) in
    let rest = claim_again version claim front.0 good in
    let judged = ap (λ (k : ℕ). claim_from version k front.0 (claim_records claim))
    (sym same) ∙ rest in
    rw (written_is_input records written, written_is_read records written)
    (check_joined version (length history) let_go.0 front.0 records behind
    (claim_records claim) history floors claim head told_first front.1 judged)
