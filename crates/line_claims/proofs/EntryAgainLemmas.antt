-- Records of a claim that are written are read again.
use Rattle.std.proofs.Common.{inl, inr, ◌≡◌, ◌≤◌, ◌<◌, ℕ, zero, suc, ◌+◌, ◌==◌, Bool, true, false}
use Rattle.std.proofs.Common.{List, [], ◌∷◌, ◌++◌, length, get_or, Result, Ok, refl, sym, ap, ◌∙◌}
use Rattle.std.proofs.Common.{arith, append_assoc, length-append, le-leb, ne_eqb}
use Rattle.std.specs.Prelude.{codes, decimal, filter, fold, map, nat_lt, replicate}
use Rattle.std.specs.List.{AllByRecursion, list_all, range_with_len}
use Rattle.std.proofs.Math.ListN.{set}
use Rattle.std.proofs.Math.Seq.{get_or-append_seam, set-append_seam}
use Rattle.std.proofs.lemmas.Bool.{cases_Bool, lt-ltb}
use Rattle.std.proofs.lemmas.List.{get_or-append-add, length-map}
use Rattle.line_names.specs.declared.certificates.Passed.{Passed}
use Rattle.line_names.specs.declared.choices.Choice.{Choice}
use Rattle.line_names.specs.declared.choices.Choice.TheVariants.{Check as AtCheck, Now}
use Rattle.line_names.specs.declared.limits.TheConstants.{MOST_PROCESSES}
use Rattle.line_names.specs.Sets.{is_member, nobody, with_member}
use Rattle.line_tape.specs.Survival.{is_barred, is_damaged}
use Rattle.line_tape.specs.Views.{MarksView, with_bar, with_mark}
use Rattle.line_fields.specs.declared.faults.Fault.{Fault}
use Rattle.line_fields.specs.Shapes.{two, five}
use Rattle.line_claims.specs.declared.numbers.TheConstants.{MOST_NUMBER}
use Rattle.line_claims.specs.Entries.{bar_of, one_bar_more, damage_of, entry_of, failed_of, line_of}
use Rattle.line_claims.specs.Entries.{one_mark_more, passed_of}
use Rattle.line_claims.specs.Numbers.{choice, choices, numbers}
use Rattle.line_claims.specs.Ranges.{IsChoice, IsEntryInRange}
use Rattle.line_claims.specs.Records.{bar_record, choice_text, damage_record, failed_record}
use Rattle.line_claims.specs.Records.{line_record, members, pass_record}
use Rattle.line_claims.specs.Versions.{most_in}
use Rattle.line_claims.proofs.SpellLemmas.{incarnation_again, not_word, plain_again}

pub damage_again : (n p check : ℕ) (marks : MarksView) → n ≤ MOST_PROCESSES → p < n → 1 ≤ check
    → check ≤ MOST_NUMBER → is_damaged marks p check ≡ false
    → damage_of n marks (damage_record p check) ≡ Ok (with_mark marks p check)
unfolding damage_of one_mark_more two
damage_again n p check marks few there some wide new =
    let later : (check == 0) ≡ false = ne_eqb check 0 (λ e. omega arith) in
    rw (plain_again p (omega arith), plain_again check wide, lt-ltb p n there, later, new) refl

pub bar_again : (n p check : ℕ) (marks : MarksView) → n ≤ MOST_PROCESSES → p < n
    → check ≤ MOST_NUMBER → is_barred marks p check ≡ false
    → bar_of n marks (bar_record p check) ≡ Ok (with_bar marks p check)
unfolding bar_of one_bar_more two
bar_again n p check marks few there wide lower =
    rw (plain_again p (omega arith), plain_again check wide, lt-ltb p n there, lower) refl

pub choice_again : (c : Choice) → IsChoice c → choice (choice_text c) ≡ Ok c
choice_again (AtCheck check) h =
    rw (not_word check (codes "now") (omega arith) refl, plain_again check h) refl
choice_again Now h = refl

choices_again : (line : List Choice) → AllByRecursion IsChoice line
    → choices (map choice_text line) ≡ Ok line
unfolding choices
choices_again [] fit = refl
choices_again (c ∷ others) fit = rw (choice_again c fit.0, choices_again others fit.1) refl

pub line_again : (version : ℕ) (line : List Choice) → 1 ≤ length line → length line ≤ most_in
    version → AllByRecursion IsChoice line → line_of version (line_record line) ≡ Ok line
unfolding line_of
line_again version line some short fit =
    let width : length (line_record line)
    ≡ length line + 1 = omega (arith, length-map line choice_text) in
    let low : 2 ≤ length (line_record line) = omega arith in
    let high : length (line_record line) ≤ most_in version + 1 = omega arith in
    rw (
      le-leb 2 (length (line_record line)) low,
      le-leb (length (line_record line))
          (most_in version + 1) high,
      choices_again line fit,
    ) refl

pass_again : (n : ℕ) (entry : Passed) → n ≤ MOST_PROCESSES → IsEntryInRange n entry
    → passed_of n (pass_record entry) ≡ Ok entry
unfolding passed_of five
pass_again n entry few fit =
    let at : entry.at < n = fit.at in
    let from : entry.message.from < n = fit.from in
    let who : entry.at ≤ MOST_NUMBER = omega arith in
    let sender : entry.message.from ≤ MOST_NUMBER = omega arith in
    rw (
      plain_again entry.at who,
      choice_again entry.choice fit.choice,
      plain_again
          entry.message.from sender,
      incarnation_again entry.message.inc fit.inc,
      plain_again
          entry.message.number fit.number,
      lt-ltb entry.at n at,
      lt-ltb entry.message.from n from,
    )
    refl

pub entry_again : (n : ℕ) (front : List Passed) (entry : Passed) → n ≤ MOST_PROCESSES
    → IsEntryInRange n entry → entry_of n front (pass_record entry) ≡ Ok (front ++ entry ∷ [])
unfolding entry_of
entry_again n front entry few fit = rw (pass_again n entry few fit) refl

numbers_again : (ns : List ℕ) → AllByRecursion (λ n. n ≤ MOST_NUMBER) ns
    → numbers (map decimal ns) ≡ Ok ns
unfolding numbers
numbers_again [] fit = refl
numbers_again (n ∷ others) fit = rw (plain_again n fit.0, numbers_again others fit.1) refl

all_below : (n : ℕ) (ns : List ℕ) → AllByRecursion (λ p. p < n) ns
    → list_all (λ p. nat_lt p n) ns ≡ true
all_below n [] fit = refl
all_below n (p ∷ others) fit = rw (lt-ltb p n fit.0, all_below n others fit.1) refl

wide_if_below : (n : ℕ) (ns : List ℕ) → n ≤ MOST_PROCESSES → AllByRecursion (λ p. p < n) ns
    → AllByRecursion (λ p. p ≤ MOST_NUMBER) ns
wide_if_below n [] few fit = tt
wide_if_below n (p ∷ others) few fit =
    let there : p < n = fit.0 in (omega arith, wide_if_below n others few fit.1)

-- those of a range that pass a test lie in it
found_below : (test : ℕ → Bool) (n a k : ℕ) → a + k ≤ n
    → AllByRecursion (λ p. p < n) (filter test (range_with_len a k))
found_below test n a zero room = tt
found_below test n a (suc k) room =
    let rest = found_below test n (a + 1) k (omega arith) in
    elim (cases_Bool (test a)) [
      | inl e ↦ rw e (omega arith, rest)
      | inr e ↦ rw e rest
    ]

pub members_below : (n : ℕ) (set : List Bool) → AllByRecursion (λ p. p < n) (members n set)
members_below n set = found_below (λ p. is_member set p) n 0 n (omega arith)

all_false : (ys : List Bool) → ((i : ℕ) → get_or ys i false ≡ false)
    → replicate (length ys) false ≡ ys
all_false [] none = refl
all_false (y ∷ ys) none =
    rw (none 0) (ap (λ (rest : List Bool). false ∷ rest) (all_false ys (λ i. none (suc i))))

-- the first of them, or none
member_first : (xs ys : List Bool) (y : Bool) (k : ℕ) (whole : List Bool)
    → is_member whole (length xs) ≡ y
    → fold with_member ((xs ++ y ∷ []) ++ replicate (length ys) false)
    (filter (λ p. is_member whole p) (range_with_len (length xs + 1) k)) ≡ whole
    → fold with_member (xs ++ false ∷ replicate (length ys) false)
    (filter (λ p. is_member whole p) (range_with_len (length xs) (suc k))) ≡ whole
member_first xs ys true k whole here rest =
    let after : List Bool = replicate (length ys) false in
    let others : List ℕ = filter (λ p. is_member whole p) (range_with_len (length xs + 1) k) in
    rw here (ap (λ (set : List Bool). fold with_member set others)
    (set-append_seam xs false after true ∙ sym (append_assoc xs (true ∷ []) after)) ∙ rest)
member_first xs ys false k whole here rest =
    let after : List Bool = replicate (length ys) false in
    let others : List ℕ = filter (λ p. is_member whole p) (range_with_len (length xs + 1) k) in
    rw here (ap (λ (set : List Bool). fold with_member set others)
    (sym (append_assoc xs (false ∷ []) after)) ∙ rest)

-- the members of a set make the set
members_make : (xs ys : List Bool) (k : ℕ) → k ≤ length ys
    → ((p : ℕ) → length xs + k ≤ p → is_member (xs ++ ys) p ≡ false)
    → fold with_member (xs ++ replicate (length ys) false)
    (filter (λ p. is_member (xs ++ ys) p) (range_with_len (length xs) k)) ≡ xs ++ ys
members_make xs ys zero room none =
    ap (λ (rest : List Bool). xs ++ rest) (all_false ys
    (λ i. sym (get_or-append-add xs ys i false) ∙ none (length xs + i) (omega arith)))
members_make xs [] (suc k) room none = absurd (omega arith)
members_make xs (y ∷ ys) (suc k) room none =
    let whole : List Bool = xs ++ y ∷ ys in
    let test : ℕ → Bool = λ p. is_member whole p in
    let moved : (xs ++ y ∷ []) ++ ys ≡ whole = append_assoc xs (y ∷ []) ys in
    let long : length (xs ++ y ∷ []) ≡ length xs + 1 = length-append xs (y ∷ []) in
    let less : k ≤ length ys = omega arith in
    let none-here : (p : ℕ) → length (xs ++ y ∷ []) + k ≤ p
    → is_member ((xs ++ y ∷ []) ++ ys) p ≡ false
    = λ p le. ap (λ (set : List Bool). is_member set p) moved ∙ none p (omega (arith, le, long)) in
    let rest : fold with_member ((xs ++ y ∷ []) ++ replicate (length ys) false)
    (filter test (range_with_len (length xs + 1) k)) ≡ whole
    = ap (λ (a : ℕ). fold with_member ((xs ++ y ∷ []) ++ replicate (length ys) false)
    (filter test (range_with_len a k))) (sym long)
    ∙ ap (λ (set : List Bool). fold with_member ((xs ++ y ∷ []) ++ replicate (length ys) false)
    (filter (λ p. is_member set p) (range_with_len (length (xs ++ y ∷ [])) k))) (sym moved)
    ∙ members_make (xs ++ y ∷ []) ys k less none-here ∙ moved in
    member_first xs ys y k whole (get_or-append_seam xs y ys false) rest

pub failed_again : (n : ℕ) (set : List Bool) → n ≤ MOST_PROCESSES → length set ≡ MOST_PROCESSES
    → ((p : ℕ) → n ≤ p → is_member set p ≡ false)
    → failed_of n (failed_record n set) ≡ Ok set
unfolding failed_of
failed_again n set few whole none =
    let below = members_below n set in
    let start : nobody
    ≡ replicate (length set) false = ap (λ (k : ℕ). replicate k false) (sym whole) in
    let made : fold with_member nobody (members n set) ≡ set
    = ap (λ (acc : List Bool). fold with_member acc (members n set)) start ∙ members_make [] set n
    (omega (arith, whole, few)) (λ p le. none p (omega (arith, le))) in
    let P : List Bool → Result (List Bool) Fault = λ made-set. Ok made-set in
    rw (
      numbers_again (members n set) (wide_if_below n (members n set) few below),
      all_below n
          (members n set) below,
    ) (ap P made)
