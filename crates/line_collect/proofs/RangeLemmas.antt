-- What a record spells keeps to the ranges of its fields.
use Rattle.std.proofs.Common.{◌≡◌, ℕ, ◌≤◌, ◌<◌, Bool, true, false, List, [], ◌∷◌, Result, Ok, Err}
use Rattle.std.proofs.Common.{Option, Some, None, refl, sym, inl, inr, subst, ◌∙◌}
use Rattle.std.specs.Prelude.{◌&&◌, drop, fold, if◌then◌else◌, length, nat_lt, nat_le, not, ◌==◌}
use Rattle.std.specs.Prelude.{IfOk, codes}
use Rattle.std.specs.Str.{all_ascii_digits, bytes_eq}
use Rattle.std.specs.Str.Parse.{digits_value}
use Rattle.std.specs.List.{AllByRecursion, list_all}
use Rattle.std.proofs.lemmas.Bool.{and_parts, cases_eq, leb-true, ltb-true}
use Rattle.std.proofs.lemmas.List.{get_or-set_other}
use Rattle.line_names.specs.declared.limits.TheConstants.{MOST_PROCESSES}
use Rattle.line_names.specs.Sets.{nobody, with_member}
use Rattle.line_names.proofs.SetLemmas.{is_member-replicate}
use Rattle.line_tape.specs.declared.limits.TheConstants.{LAST_ROUND}
use Rattle.line_fields.specs.declared.faults.Fault.{Fault}
use Rattle.line_fields.specs.declared.faults.Fault.TheVariants as faults
use Rattle.line_fields.specs.Faults.{code_of}
use Rattle.line_fields.specs.Fields.{◌>>=◌, hex, num, want}
use Rattle.line_fields.specs.Records.{Record, field}
use Rattle.line_fields.specs.Shapes.{Reader, alone, two, four, five}
use Rattle.line_claims.specs.Numbers.{incarnation, none_text, numbers, plain, round, round_or_none}
use Rattle.line_claims.specs.Ranges.{IsRoundNumber}
use Rattle.line_collect.specs.declared.reports.Report.{Report}
use Rattle.line_collect.specs.declared.reports.Report.TheVariants.{Send, Receive, Check, Mark}
use Rattle.line_collect.specs.declared.reports.Report.TheVariants.{Damage, Bar, Plan, Live, Recover}
use Rattle.line_collect.specs.declared.reports.Report.TheVariants.{Forget, History, Bundle, Refused}
use Rattle.line_collect.specs.Ranges.{AreMembersBelow, IsReportInRange}
use Rattle.line_collect.specs.Reports.{report_among, report_in, send_report, receive_report}
use Rattle.line_collect.specs.Reports.{check_report, mark_report, report_of_check, report_of_failed}

-- what comes next holds, where what is read before it is there
after : {A B : Type 0} (P : B → Type 0) (a : Result A Fault) (next : A → Result B Fault)
    → ((x : A) → a ≡ Ok x → IfOk (next x) P) → IfOk (a >>= next) P
after P (Ok x) next h = h x refl
after P (Err fault) next h = tt

two_within : {A B C : Type 0} (P : C → Type 0) (first : Reader A) (second : Reader B)
    (next : A → B → Result C Fault) (r : Record) → ((a : A) (b : B) → IfOk (next a b) P)
    → IfOk (two first second next r) P
unfolding two
two_within P first second next r h =
    after P (want (length r == 3) faults.BadRecord) _ (λ long _. after P (first (field r 1)) _
    (λ a _. after P (second (field r 2)) _ (λ b _. h a b)))

four_within : {A B C D E : Type 0} (P : E → Type 0) (first : Reader A) (second : Reader B)
    (third : Reader C) (fourth : Reader D) (next : A → B → C → D → Result E Fault) (r : Record)
    → ((a : A) (b : B) (c : C) (d : D) → fourth (field r 4) ≡ Ok d → IfOk (next a b c d) P)
    → IfOk (four first second third fourth next r) P
unfolding four
four_within P first second third fourth next r h =
    after P (want (length r == 5) faults.BadRecord) _
    (λ long _. after P (first (field r 1)) _ (λ a _. after P (second (field r 2)) _ (λ b _. after P
    (third (field r 3)) _ (λ c _. after P (fourth (field r 4)) _ (λ d is. h a b c d is)))))

five_within : {A B C D E F : Type 0} (P : F → Type 0) (first : Reader A) (second : Reader B)
    (third : Reader C) (fourth : Reader D) (fifth : Reader E)
    (next : A → B → C → D → E → Result F Fault) (r : Record)
    → ((a : A) (b : B) (c : C) (d : D) (e : E) → IfOk (next a b c d e) P)
    → IfOk (five first second third fourth fifth next r) P
unfolding five
five_within P first second third fourth fifth next r h =
    after P (want (length r == 6) faults.BadRecord) _
    (λ long _. after P (first (field r 1)) _
    (λ a _. after P (second (field r 2)) _ (λ b _. after P (third (field r 3)) _ (λ c _. after P
    (fourth (field r 4)) _ (λ d _. after P (fifth (field r 5)) _ (λ e _. h a b c d e))))))

alone_within : (n : ℕ) (report : Report) (r : Record) → IsReportInRange n report
    → IfOk (alone report r) (IsReportInRange n)
unfolding alone
alone_within n report r fits =
    after (IsReportInRange n) (want (length r == 1) faults.BadRecord) _ (λ long _. fits)

-- a number keeps to its range
num_if : (test : Bool) (least most value n : ℕ) → (test ≡ true → (least ≤ value) × (value ≤ most))
    → (if test then Ok value else Err faults.BadNumber) ≡ Ok n → (least ≤ n) × (n ≤ most)
num_if true least most value n fits h =
    let same : value ≡ n = cc h in
    subst (λ (m : ℕ). (least ≤ m) × (m ≤ most)) same (fits refl)
num_if false least most value n fits h = cc h

num_within : (least most : ℕ) (text : List ℕ) (n : ℕ) → num least most text ≡ Ok n
    → (least ≤ n) × (n ≤ most)
unfolding num
num_within least most text n h =
    num_if _ least most (digits_value 10 text) n
    (λ all. let tests = and_parts (not (length text == 0) && all_ascii_digits text
    && nat_le least (digits_value 10 text)) (nat_le (digits_value 10 text) most) all in
    let low = and_parts (not (length text == 0) && all_ascii_digits text)
    (nat_le least (digits_value 10 text)) tests.0 in
    (leb-true least (digits_value 10 text) low.1, leb-true (digits_value 10 text) most tests.1))
    h

round_within : (text : List ℕ) (r : ℕ) → round text ≡ Ok r → IsRoundNumber (Some r)
round_within text r h = num_within 1 LAST_ROUND text r h

round_read : (read : Result ℕ Fault) (r : Option ℕ) → ((n : ℕ) → read ≡ Ok n
    → IsRoundNumber (Some n)) → (read >>= λ n. Ok (Some n)) ≡ Ok r → IsRoundNumber r
round_read (Ok n) r fits h =
    let same : Some n ≡ r = cc h in
    subst IsRoundNumber same (fits n refl)
round_read (Err fault) r fits h = cc h

round_if : (test : Bool) (text : List ℕ) (r : Option ℕ)
    → (if test then Ok None else (round text >>= λ n. Ok (Some n))) ≡ Ok r → IsRoundNumber r
round_if true text r h =
    let same : None ≡ r = cc h in
    subst IsRoundNumber same tt
round_if false text r h = round_read (round text) r (round_within text) h

round_or_none_within : (text : List ℕ) (r : Option ℕ) → round_or_none text ≡ Ok r → IsRoundNumber r
round_or_none_within text r h = round_if (bytes_eq text none_text) text r h

-- a report of processes that are all below n, or one that is refused
among_if : (test : Bool) (n : ℕ) (report : Report) → (test ≡ true → IsReportInRange n report)
    → IsReportInRange n (if test then report else Refused (code_of faults.NoSuchProcess))
among_if true n report h = h refl
among_if false n report h = refl

one_among : (n p : ℕ) (report : Report) → (p < n → IsReportInRange n report)
    → IsReportInRange n (report_among n (p ∷ []) report)
one_among n p report h = among_if (list_all (λ q. nat_lt q n) (p ∷ [])) n report
    (λ all. h (ltb-true p n (and_parts (nat_lt p n) true all).0))

two_among : (n p q : ℕ) (report : Report) → (p < n → q < n → IsReportInRange n report)
    → IsReportInRange n (report_among n (p ∷ q ∷ []) report)
two_among n p q report h =
    among_if (list_all (λ o. nat_lt o n) (p ∷ q ∷ [])) n report
    (λ all. let parts = and_parts (nat_lt p n) (nat_lt q n && true) all in
    h (ltb-true p n parts.0) (ltb-true q n (and_parts (nat_lt q n) true parts.1).0))

-- a set of processes below n
member_more : (n : ℕ) (set : List Bool) (p : ℕ) → p < n → AreMembersBelow n set
    → AreMembersBelow n (with_member set p)
member_more n set p low below q there =
    elim (cases_eq q p) [
      | inl e ↦ subst (λ (m : ℕ). m < n) (sym e) low
      | inr other ↦ below q (sym (get_or-set_other set p q true false other) ∙ there)
    ]

members_below : (n : ℕ) (ps : List ℕ) (set : List Bool) → list_all (λ p. nat_lt p n) ps ≡ true
    → AreMembersBelow n set → AreMembersBelow n (fold with_member set ps)
members_below n [] set all below = below
members_below n (p ∷ ps) set all below =
    let parts = and_parts (nat_lt p n) (list_all (λ q. nat_lt q n) ps) all in
    members_below n ps (with_member set p) parts.1
    (member_more n set p (ltb-true p n parts.0) below)

nobody_below : (n : ℕ) → AreMembersBelow n nobody
nobody_below n q there =
    let none : false ≡ true = sym (is_member-replicate MOST_PROCESSES q) ∙ there in cc none

failed_within : (report : List Bool → Report) (n : ℕ) (r : Record)
    → ((set : List Bool) → AreMembersBelow n set → IsReportInRange n (report set))
    → IfOk (report_of_failed report n r) (IsReportInRange n)
unfolding report_of_failed
failed_within report n r h =
    after (IsReportInRange n) (numbers (drop 1 r)) _
    (λ failed _. among_if (list_all (λ p. nat_lt p n) failed) n (report (fold with_member nobody
    failed)) (λ all. h _ (members_below n failed nobody all (nobody_below n))))

check_within : (report : ℕ → ℕ → Report) (n : ℕ) (r : Record) → ((p check : ℕ) → p < n
    → IsReportInRange n (report p check)) → IfOk (report_of_check report n r) (IsReportInRange n)
unfolding report_of_check
check_within report n r h = two_within (IsReportInRange n) plain plain _ r
    (λ p check. one_among n p (report p check) (h p check))

send_within : (n : ℕ) (r : Record) → IfOk (send_report n r) (IsReportInRange n)
unfolding send_report
send_within n r = four_within (IsReportInRange n) plain incarnation plain hex _ r
    (λ p inc to body _. two_among n p to (Send p inc to body) (λ low there. (low, there)))

receive_within : (n : ℕ) (r : Record) → IfOk (receive_report n r) (IsReportInRange n)
unfolding receive_report
receive_within n r =
    five_within (IsReportInRange n) plain incarnation plain incarnation plain _ r
    (λ p inc from theirs number. two_among n p from (Receive p inc
    (record { from = from; inc = theirs; number = number })) (λ low there. (low, there)))

checkpoint_within : (n : ℕ) (r : Record) → IfOk (check_report n r) (IsReportInRange n)
unfolding check_report
checkpoint_within n r =
    four_within (IsReportInRange n) plain incarnation hex round_or_none _ r
    (λ p inc state of_round is. one_among n p (Check p inc state of_round)
    (λ low. (low, round_or_none_within (field r 4) of_round is)))

mark_within : (n : ℕ) (r : Record) → IfOk (mark_report n r) (IsReportInRange n)
unfolding mark_report
mark_within n r =
    four_within (IsReportInRange n) plain incarnation plain round _ r
    (λ p inc from of_round is. two_among n p from (Mark p inc from of_round)
    (λ low there. (low, there, round_within (field r 4) of_round is)))

-- one of two readings
either_within : (P : Report → Type 0) (test : Bool) (a b : Result Report Fault) → IfOk a P
    → IfOk b P → IfOk (if test then a else b) P
either_within P true a b this that = this
either_within P false a b this that = that

-- the first of these readings whose test holds
abbrev first_of : List (Bool × Result Report Fault) → Result Report Fault
first_of [] = Err faults.BadRecord
first_of (one ∷ others) = if one.0 then one.1 else first_of others

first_within : (P : Report → Type 0) (readings : List (Bool × Result Report Fault))
    → AllByRecursion (λ one. IfOk one.1 P) readings → IfOk (first_of readings) P
first_within P [] all = tt
first_within P (one ∷ others) (this, that) =
    either_within P one.0 one.1 (first_of others) this (first_within P others that)

-- a report that is read keeps to its ranges
report_within : (n : ℕ) (r : Record) → IfOk (report_in n r) (IsReportInRange n)
unfolding report_in
report_within n r =
    let is_named : List ℕ → Bool = λ name. bytes_eq (field r 0) name in
    let readings : List (Bool × Result Report Fault)
    = (is_named (codes "send"), send_report n r)
    ∷ (is_named (codes "recv"), receive_report n r)
    ∷ (is_named (codes "check"), check_report n r)
    ∷ (is_named (codes "mark"), mark_report n r)
    ∷ (is_named (codes "damage"), report_of_check Damage n r)
    ∷ (is_named (codes "bar"), report_of_check Bar n r)
    ∷ (is_named (codes "plan"), report_of_failed Plan n r)
    ∷ (is_named (codes "live"), alone Live r)
    ∷ (is_named (codes "recover"), report_of_failed Recover n r)
    ∷ (is_named (codes "forget"), alone Forget r)
    ∷ (is_named (codes "history"), alone History r)
    ∷ (is_named (codes "bundle"), report_of_failed Bundle n r)
    ∷ [] in
    first_within (IsReportInRange n) readings (
      send_within n r,
      (
        receive_within n r,
        (
          checkpoint_within n r,
          (
            mark_within n r,
            (
              check_within Damage n r (λ p check low. low),
              (
                check_within Bar n r (λ p check low. low),
                (
                  failed_within Plan n r (λ set below. below),
                  (
                    alone_within n Live r tt,
                    (
                      failed_within Recover n r (λ set below. below),
                      (
                        alone_within n Forget r tt,
                        (
                          alone_within n History r tt,
                          (failed_within Bundle n r (λ set below. below), tt),
                        ),
                      ),
                    ),
                  ),
                ),
              ),
            ),
          ),
        ),
      ),
    )

pub spelled_within : (n : ℕ) (r : Record) (report : Report) → report_in n r ≡ Ok report
    → IsReportInRange n report
spelled_within n r report is =
    subst (λ (read : Result Report Fault). IfOk read (IsReportInRange n)) is (report_within n r)
