-- Runs, and what they show.
use Rattle.std.proofs.Common.{◌≡◌, ◌≢◌, ℕ, zero, suc, ◌+◌, ◌-◌, ◌<◌, ◌≤◌, Bool, true, false, cond}
use Rattle.std.proofs.Common.{leb, ltb, List, [], ◌∷◌, ◌++◌, length, take, drop, get_or}
use Rattle.std.proofs.Common.{Option, Some, None, refl, sym, ap, ◌∙◌, subst, arith, inl, inr}
use Rattle.std.specs.Prelude.{◌==◌, AllPairs}
use Rattle.std.specs.List.{All, slice_range}
use Rattle.std.specs.List.Sorted.{IsNonDecreasingBy, IsPartitionPoint}
use Rattle.std.proofs.Math.Seq.{take-append-add}
use Rattle.std.proofs.lemmas.Bool.{cases_eq, cases_lt, eq-eqb, leb-false, leb-true, ltb-false}
use Rattle.std.proofs.lemmas.Bool.{ltb-true, ne_eqb}
use Rattle.std.proofs.lemmas.List.{append-nil, append_assoc, append_cancel_left, get_or-drop}
use Rattle.std.proofs.lemmas.List.{get_or-take, get_or_append_left, get_or_default, get_or_push}
use Rattle.std.proofs.lemmas.List.{length-append, length-drop, length-take, length-take-le}
use Rattle.std.proofs.lemmas.List.{length_push, take-append-drop}
use Rattle.std.proofs.lemmas.List.Elements.{All-head, All-push, All-tail, filter-append}
use Rattle.std.proofs.lemmas.List.Quantifiers.{all_pairs_push}
use Rattle.line_names.specs.declared.messages.MsgName.{MsgName}
use Rattle.line_rounds.specs.Inboxes.{messages_from, ComeBySender}
use Rattle.line_rounds.specs.Runs.{run_for, runs_in, AreRuns, IsRun, RunView}
use Rattle.line_rounds.proofs.InboxLemmas.{filter-none, filter-all}

-- no run is of process p
pub run_for-none : (runs : List RunView) (p : ℕ) → All (λ (run : RunView). run.from ≢ p) runs
    → run_for runs p ≡ None
run_for-none [] p others = refl
run_for-none (run ∷ rest) p others =
    ap (λ b. cond b (Some run) (run_for rest p))
    (ne_eqb run.from p (All-head (λ (r : RunView). r.from ≢ p) run rest others))
    ∙ run_for-none rest p (All-tail (λ (r : RunView). r.from ≢ p) run rest others)

-- the first run of process p
pub run_for-at : (runs : List RunView) (i p : ℕ) (d : RunView) → i < length runs
    → ((k : ℕ) → k < i → (get_or runs k d).from ≢ p) → (get_or runs i d).from ≡ p
    → run_for runs p ≡ Some (get_or runs i d)
run_for-at [] i p d within others is = absurd (omega (arith, within))
run_for-at (run ∷ rest) zero p d within others is =
    ap (λ b. cond b (Some run) (run_for rest p)) (eq-eqb run.from p is)
run_for-at (run ∷ rest) (suc i) p d within others is =
    ap (λ b. cond b (Some run) (run_for rest p)) (ne_eqb run.from p (others 0 (omega arith)))
    ∙ run_for-at rest i p d (omega (arith, within))
    (λ k below. others (suc k) (omega (arith, below))) is

-- runs that ascend strictly don't fall
pub runs_in_order : (runs : List RunView) → AllPairs (λ (a b : RunView). a.from < b.from) runs
    → IsNonDecreasingBy (λ (r : RunView). r.from) runs
runs_in_order runs ascend i j d l within = elim (cases_lt i j) [
  | inl below ↦ let less = ascend i j d below within in omega (arith, less)
  | inr above ↦ let same : i ≡ j =
      omega (arith, l, above) in omega (arith, ap (λ (k : ℕ). (get_or runs k d).from) same)
]

-- what a search finds at the place where the runs of the processes below end
module _ (runs : List RunView) (p place : ℕ)
    (point : IsPartitionPoint (λ (r : RunView). ltb r.from p ≡ true)
    (λ (r : RunView). ltb r.from p ≡ false) runs place) where
  below_place : (k : ℕ) (d : RunView) → k < place → (get_or runs k d).from < p
  below_place k d below = ltb-true (get_or runs k d).from p (point.0 k d (omega arith) below)

  module _ (run : RunView) (within : place < length runs) (is : run ≡ get_or runs place run) where
    pub run_found : run.from ≡ p → run_for runs p ≡ Some run
    run_found same =
        run_for-at runs place p run within
        (λ k below e. absurd (omega (arith, below_place k run below, e)))
        (ap (λ (r : RunView). r.from) (sym is) ∙ same)
        ∙ ap (λ (r : RunView). Some r) (sym is)

    pub run_lost : AllPairs (λ (a b : RunView). a.from < b.from) runs → run.from ≢ p
        → run_for runs p ≡ None
    run_lost ascend other = run_for-none runs p (λ k d k_within. elim (cases_lt k place) [
      | inl below ↦ λ e. absurd (omega (arith, below_place k d below, e))
      | inr above ↦
          let here : run.from ≡ (get_or runs place d).from =
          ap (λ (r : RunView). r.from) (is ∙ get_or_default runs place run d within) in
          let least = ltb-false (get_or runs place d).from p
          (point.1 place d (omega arith) within) in
          let behind = runs_in_order runs ascend place k d above k_within in
          λ e. absurd (other (omega (arith, here, least, behind, e)))
    ])

  pub run_past : length runs ≤ place → run_for runs p ≡ None
  run_past past =
      run_for-none runs p
      (λ k d k_within e. absurd (omega (arith, below_place k d (omega (arith, k_within, past)), e)))

-- what is shown by a run, nothing by none
abbrev pub run_or_none : Option RunView → List MsgName
run_or_none None = []
run_or_none (Some run) = run.messages

pub rest_are : (run : RunView) (rest : List RunView) → AreRuns (run ∷ rest) → AreRuns rest
rest_are run rest are = record {
  ascend = λ i j d below within. are.ascend (suc i) (suc j) d (omega (arith, below))
      (omega (arith, within));
  each = All-tail IsRun run rest are.each;
}

pub first_is : (run : RunView) (rest : List RunView) → AreRuns (run ∷ rest) → IsRun run
first_is run rest are = All-head IsRun run rest are.each

-- a run shows what its process sent, and of no other
part_all : (run : RunView) → IsRun run → messages_from run.from run.messages ≡ run.messages
part_all run is = filter-all (λ (m : MsgName). m.from == run.from) run.messages
    (λ k d within. eq-eqb (get_or run.messages k d).from run.from (is.from k d within))

part_none : (run : RunView) (p : ℕ) → IsRun run → run.from ≢ p
    → messages_from p run.messages ≡ []
part_none run p is other = filter-none (λ (m : MsgName). m.from == p) run.messages
    (λ k d within. ne_eqb (get_or run.messages k d).from p
    (λ e. other (sym (is.from k d within) ∙ e)))

-- what process p sent of what runs show is what its run shows
pub shown : (runs : List RunView) (p : ℕ) → AreRuns runs
    → messages_from p (runs_in runs) ≡ run_or_none (run_for runs p)
shown [] p are = refl
shown (run ∷ rest) p are =
    let is_p : MsgName → Bool = λ (m : MsgName). m.from == p in
    let part : List MsgName = run.messages in
    let others : List MsgName = runs_in rest in
    let behind : messages_from p others ≡ run_or_none (run_for rest p) =
    shown rest p (rest_are run rest are) in
    elim (cases_eq run.from p) [
      | inl same ↦
          let none : run_for rest p ≡ None = run_for-none rest p (λ k d within e.
          let above : run.from < (get_or rest k d).from = are.ascend 0 (suc k) d (omega arith)
          (omega (arith, within)) in
          absurd (omega (arith, above, e, same))) in
          let all : messages_from p part ≡ part =
          subst (λ (q : ℕ). messages_from q part ≡ part) same
          (part_all run (first_is run rest are)) in
          filter-append is_p part others
          ∙ ap (λ (ms : List MsgName). ms ++ messages_from p others) all
          ∙ ap (λ (ms : List MsgName). part ++ ms) (behind ∙ ap run_or_none none)
          ∙ append-nil part
          ∙ sym (ap (λ b. run_or_none (cond b (Some run) (run_for rest p)))
          (eq-eqb run.from p same))
      | inr other ↦
          filter-append is_p part others
          ∙ ap (λ (ms : List MsgName). ms ++ messages_from p others)
          (part_none run p (first_is run rest are) other)
          ∙ behind
          ∙ sym (ap (λ b. run_or_none (cond b (Some run) (run_for rest p)))
          (ne_eqb run.from p other))
    ]

-- one more run
pub runs_in-push : (runs : List RunView) (run : RunView)
    → runs_in (runs ++ run ∷ []) ≡ runs_in runs ++ run.messages
runs_in-push [] run = append-nil run.messages
runs_in-push (first ∷ rest) run =
    ap (λ (ms : List MsgName). first.messages ++ ms) (runs_in-push rest run)
    ∙ sym (append_assoc first.messages (runs_in rest) run.messages)

pub AreRuns-push : (runs : List RunView) (run : RunView) → AreRuns runs → IsRun run
    → All (λ (r : RunView). r.from < run.from) runs → AreRuns (runs ++ run ∷ [])
AreRuns-push runs run are is below = record {
  ascend = all_pairs_push (λ (a b : RunView). a.from < b.from) runs run are.ascend below;
  each = All-push IsRun runs run are.each is;
}

-- the first messages, and those of a range behind them
pub take_range : (xs : List MsgName) (start end : ℕ) → start ≤ length xs → start ≤ end
    → take start xs ++ slice_range xs start end ≡ take end xs
take_range xs start end within ascends =
    let many : length (take start xs) + (end - start) ≡ end =
    omega (arith, ascends, length-take-le start xs within) in
    sym (ap (λ (k : ℕ). take k xs) (sym many)
    ∙ ap (λ (ys : List MsgName). take (length (take start xs) + (end - start)) ys)
    (sym (take-append-drop start xs))
    ∙ take-append-add (take start xs) (drop start xs) (end - start))

-- the messages before a place are cut into runs, whose senders are all below those behind
pub record IsCut (messages : List MsgName) (start : ℕ) (runs : List RunView) : Type 0 where
  pub within : start ≤ length messages
  pub are : AreRuns runs
  pub shown : runs_in runs ≡ take start messages
  pub below : (k j : ℕ) (r : RunView) (d : MsgName) → k < length runs → start ≤ j
      → j < length messages → (get_or runs k r).from < (get_or messages j d).from

module _ (messages : List MsgName) (start : ℕ) (runs : List RunView)
    (cut : IsCut messages start runs)
    (by_sender : ComeBySender messages) (more : start < length messages) (from end : ℕ)
    (own : (d : MsgName) → (get_or messages start d).from ≡ from)
    (last : IsPartitionPoint (λ (m : MsgName). leb m.from from ≡ true)
    (λ (m : MsgName). leb m.from from ≡ false) messages end)
    (end_within : end ≤ length messages) where
  pub cut_goes_on : start < end
  cut_goes_on = elim (cases_lt start end) [
    | inl below ↦ below
    | inr above ↦
        let any : MsgName = record { from = 0; inc = 0; number = 0 } in
        let high = leb-false (get_or messages start any).from from (last.1 start any above more) in
        absurd (omega (arith, high, own any))
  ]

  module _ (run : RunView) (run_from : run.from ≡ from)
      (run_messages : run.messages ≡ slice_range messages start end) where
    cut_is : IsRun run
    cut_is = record {
      some = omega (
        arith,
        cut_goes_on,
        end_within,
        ap (λ (ms : List MsgName). length ms) run_messages,
        length-take (end - start) (drop start messages),
        length-drop start messages,
      );
      from = λ k d k_within.
          let inside : k < end - start =
          omega (
            arith,
            k_within,
            ap (λ (ms : List MsgName). length ms) run_messages,
            length-take (end - start) (drop start messages),
          ) in
          let there : start + k < length messages = omega (arith, inside, end_within) in
          let at : get_or run.messages k d ≡ get_or messages (start + k) d =
          ap (λ (ms : List MsgName). get_or ms k d) run_messages
          ∙ get_or-take (end - start)
          (drop start messages) k d inside ∙ get_or-drop start messages k d in
          let high = leb-true (get_or messages (start + k) d).from from
          (last.0 (start + k) d (omega arith) (omega (arith, inside))) in
          let low : (get_or messages start d).from ≤ (get_or messages (start + k) d).from =
          by_sender start (start + k) d (omega arith) there in
          ap (λ (m : MsgName). m.from) at ∙ omega (arith, high, low, own d, run_from);
    }

    pub IsCut-more : IsCut messages end (runs ++ run ∷ [])
    IsCut-more = record {
      within = end_within;
      are = AreRuns-push runs run cut.are cut_is (λ k r k_within.
          let any : MsgName = record { from = 0; inc = 0; number = 0 } in
          omega (arith, cut.below k start r any k_within (omega arith) more, own any, run_from));
      shown = runs_in-push runs run
          ∙ ap (λ (ms : List MsgName). ms ++ run.messages) cut.shown
          ∙ ap (λ (ms : List MsgName). take start messages ++ ms) run_messages
          ∙ take_range messages start end cut.within (omega (arith, cut_goes_on));
      below = λ k j r d k_within above j_within. elim (cases_lt k (length runs)) [
        | inl before ↦
            let old = cut.below k j r d before (omega (arith, above, cut_goes_on)) j_within in
            omega (
              arith,
              ap (λ (v : RunView). v.from)
                  (get_or_append_left runs (run ∷ []) r k before),
              old,
            )
        | inr behind ↦
            let at : k ≡ length runs = omega (arith, behind, k_within, length_push runs run) in
            let high = leb-false (get_or messages j d).from from (last.1 j d above j_within) in
            omega (
              arith,
              ap (λ (v : RunView). v.from)
                  (get_or_push runs run r k (sym at)),
              high,
              run_from,
            )
      ];
    }

module _ (run : RunView) (rest : List RunView) where
  -- the first of what runs show is from the first process, and there is one
  shows_some : AreRuns (run ∷ rest) → 0 < length (runs_in (run ∷ rest))
  shows_some are =
      let is : IsRun run = first_is run rest are in
      omega (arith, is.some, length-append run.messages (runs_in rest))

  first_from : (d : MsgName) → AreRuns (run ∷ rest)
      → (get_or (runs_in (run ∷ rest)) 0 d).from ≡ run.from
  first_from d are =
      let is : IsRun run = first_is run rest are in
      ap (λ (m : MsgName). m.from)
      (get_or_append_left run.messages (runs_in rest) d 0 is.some)
      ∙ is.from 0 d is.some

  first_part : AreRuns (run ∷ rest)
      → messages_from run.from (runs_in (run ∷ rest)) ≡ run.messages
  first_part are = shown (run ∷ rest) run.from are
      ∙ ap (λ b. run_or_none (cond b (Some run) (run_for rest run.from)))
      (eq-eqb run.from run.from refl)

no_less : (xs ys : List MsgName) → xs ≡ ys → 0 < length xs → length ys ≡ 0 → ⊥
no_less xs ys same some none = omega (arith, ap (λ (ms : List MsgName). length ms) same, some, none)

-- runs are the same where sender and messages are
pub run_same : (x y : RunView) → x.from ≡ y.from → x.messages ≡ y.messages → x ≡ y
run_same x y from messages = λ i. record { from = from i; messages = messages i }

-- runs that show the same are the same
pub runs_unique : (xs ys : List RunView) → AreRuns xs → AreRuns ys → runs_in xs ≡ runs_in ys
    → xs ≡ ys
runs_unique [] [] xs_are ys_are same = refl
runs_unique [] (y ∷ ys) xs_are ys_are same =
    absurd (no_less (runs_in (y ∷ ys)) [] (sym same) (shows_some y ys ys_are) refl)
runs_unique (x ∷ xs) [] xs_are ys_are same =
    absurd (no_less (runs_in (x ∷ xs)) [] same (shows_some x xs xs_are) refl)
runs_unique (x ∷ xs) (y ∷ ys) xs_are ys_are same =
    let any : MsgName = record { from = 0; inc = 0; number = 0 } in
    let from : x.from ≡ y.from =
    sym (first_from x xs any xs_are)
    ∙ ap (λ (ms : List MsgName). (get_or ms 0 any).from) same
    ∙ first_from y ys any ys_are in
    let part : x.messages ≡ y.messages =
    sym (first_part x xs xs_are)
    ∙ ap (messages_from x.from) same
    ∙ ap (λ (p : ℕ). messages_from p (runs_in (y ∷ ys))) from
    ∙ first_part y ys ys_are in
    let rests : runs_in xs ≡ runs_in ys =
    append_cancel_left x.messages (runs_in xs) (runs_in ys)
    (same ∙ ap (λ (ms : List MsgName). ms ++ runs_in ys) (sym part)) in
    let first : x ≡ y = run_same x y from part in
    ap (λ (r : RunView). r ∷ xs) first
    ∙ ap (λ (rs : List RunView). y ∷ rs)
    (runs_unique xs ys (rest_are x xs xs_are) (rest_are y ys ys_are) rests)
