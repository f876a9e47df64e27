-- What is gathered of workers that are back, beside their own tapes and what the collector has
-- taken.
use Rattle.std.proofs.Common.{◌≡◌, ◌∙◌, ◌+◌, ◌<◌, ◌≤◌, ◌++◌, [], ◌∷◌, ℕ, Bool, List, Some, None}
use Rattle.std.proofs.Common.{length, take, sym, ap, inl, inr, arith, subst}
use Rattle.std.specs.Prelude.{◌≢◌, replicate, slice_get, All, IfSome, Option}
use Rattle.std.proofs.lemmas.Bool.{cases_lt}
use Rattle.std.proofs.lemmas.List.{append-nil, get_or-set_same, get_or-set_other, length-map}
use Rattle.std.proofs.lemmas.List.{length-replicate, length-set, take_more}
use Rattle.std.proofs.lemmas.List.Elements.{All-weaker}
use Rattle.std.proofs.lemmas.Option.{get_or_from_slice_get, same_Some, slice_get_within}
use mathlib.Core.List.{IsPrefix}
use Rattle.line_names.specs.Sets.{is_member}
use Rattle.line_tape.specs.declared.events.Event.{Event}
use Rattle.line_tape.specs.declared.events.Event.TheVariants.{Send, Recv, Check, Mark}
use Rattle.line_tape.specs.Event.{checks, incarnations_sent, sends, Holds, NamesBelow}
use Rattle.line_tape.specs.History.{Process, fresh, process_at, tape_at, incarnation_at, with_event}
use Rattle.line_tape.proofs.EventLemmas.{tape_start}
use Rattle.line_tape.specs.Views.{MarksView, bar_at, damaged_at}
use Rattle.line_catalogue.specs.Agreement.{Agrees}
use Rattle.line_catalogue.specs.Damage.{AreOnChecks}
use Rattle.line_posts.specs.Collected.{CollectorView}
use Rattle.line_posts.specs.Ends.{items_at, ring_at, row_at, End}
use Rattle.line_posts.specs.Extension.{Extends}
use Rattle.line_posts.specs.Gathered.{gathered_tape, ArePrefixes}
use Rattle.line_posts.specs.Gathering.{AreAtLines, AreBack, AreFurtherBelow, AreGatheredOnward}
use Rattle.line_posts.specs.Gathering.{IsBetween}
use Rattle.line_posts.specs.Generations.{own_history, own_process}
use Rattle.line_posts.specs.Posts.{incarnation_of_post, opening_tape, PostView}
use Rattle.line_posts.proofs.AgreedLemmas.{gathered_agree}
use Rattle.line_posts.proofs.GatherLemmas.{in_list, own_past, own_tape, tape_past}
use Rattle.line_posts.proofs.OwnLemmas.{gathered_of, incarnation_there, own_at, own_none}
use Rattle.line_posts.proofs.OwnLemmas.{process_past, rest_lost, seen_there, sends_front}

-- more checks, where more events are
checks_more : (xs ys : List Event) → checks xs ≤ checks (xs ++ ys)
checks_more [] ys = omega arith
checks_more (Send to inc body ∷ xs) ys = checks_more xs ys
checks_more (Recv m ∷ xs) ys = checks_more xs ys
checks_more (Check state round ∷ xs) ys = let ih = checks_more xs ys in omega (arith, ih)
checks_more (Mark from round ∷ xs) ys = checks_more xs ys

bar_more : (bar : Option ℕ) (a b : ℕ) → a ≤ b → IfSome bar (λ c. c ≤ a) → IfSome bar (λ c. c ≤ b)
bar_more None a b le h = tt
bar_more (Some c) a b le h = omega (arith, le, h)

-- marks on checks of a history are on checks of a later one
pub on_later : (later earlier : List Process) (marks : MarksView) → Extends later earlier
    → AreOnChecks earlier marks → AreOnChecks later marks
on_later later earlier marks more on =
    let grows : (p : ℕ) → checks (tape_at earlier p) ≤ checks (tape_at later p) = λ p. let (
      rest,
      is,
    ) = more.tapes p in omega (arith, checks_more (tape_at earlier p) rest, ap checks is) in
    record {
      each = λ p. All-weaker (λ c. c ≤ checks (tape_at earlier p)) (λ c. c ≤ checks
          (tape_at later p)) (λ c h. omega (arith, h, grows p)) (damaged_at marks p) (on.each p);
      bars = λ p. bar_more (bar_at marks p) (checks (tape_at earlier p)) (checks (tape_at later p))
          (grows p) (on.bars p);
    }

module _ (v : CollectorView) (posts : List PostView) (back : AreBack v posts) where
  pub at_lines : AreAtLines (length v.processes) v.lines posts
  at_lines p post at = record {
    within = (let w = slice_get_within posts p post at in let a = back.collects.count in let b =
        back.collects.line_count in omega (arith, w, a, b, back.whole));
    ring = (back.lined p post at).1 ∙ ap (ring_at v.lines) ((back.order p post at).0);
    named = subst (λ n. All (NamesBelow n) post.tape) ((back.order p post at).1 ∙ back.whole)
        ((back.known p post at).0.named);
  }

  module _ (failed : List Bool) (gathered : List Process)
      (is : AreGatheredOnward failed v.lines posts gathered) where
    there : (p : ℕ) (post : PostView) → slice_get posts p ≡ Some post
        → process_at gathered p ≡ record
        { incarnation = incarnation_of_post post; tape = gathered_tape (is_member failed p) post }
    there p post at = is.gathered_is.each p post at

    past_all : (p : ℕ) → length posts ≤ p → process_at gathered p ≡ process_at (own_history posts) p
    past_all p past = process_past gathered p (omega (arith, past, is.gathered_is.count)) ∙ sym
        (own_none posts p past)

    pub prefixes_are : ArePrefixes failed gathered (own_history posts)
    prefixes_are = record {
      count = is.gathered_is.count ∙ sym (length-map posts own_process);
      incarnations = λ p. elim (cases_lt p (length posts)) [
        | inl lt ↦ (let (post, at) = in_list posts p lt in ap (λ (t : Process). t.incarnation)
            (there p post at) ∙ sym (ap (λ (t : Process). t.incarnation) (own_at posts p post at)))
        | inr past ↦ ap (λ (t : Process). t.incarnation) (past_all p past)
      ];
      begins = λ p. elim (cases_lt p (length posts)) [
        | inl lt ↦
            let (post, at) = in_list posts p lt in
            let (lost, whole) = rest_lost (is_member failed p) post ((back.known p post at).0) in (
              lost,
              sym (own_tape posts p post at ∙ (whole ∙ ap (λ t. t ++ lost)
                  (sym (ap (λ (t : Process). t.tape) (there p post at))))),
            )
        | inr past ↦
            ([], append-nil (tape_at gathered p) ∙ ap (λ (t : Process). t.tape) (past_all p past))
      ];
      whole = λ p alive. elim (cases_lt p (length posts)) [
        | inl lt ↦ (let (post, at) = in_list posts p lt in ap (λ (t : Process). t.tape) (there p
            post at) ∙ (ap (λ b. gathered_tape b post) alive ∙ sym (own_tape posts p post at)))
        | inr past ↦ ap (λ (t : Process). t.tape) (past_all p past)
      ];
    }

    pub extends_taken : Extends gathered v.processes
    extends_taken = record {
      count = is.gathered_is.count ∙ back.whole;
      incarnations = λ p. elim (cases_lt p (length posts)) [
        | inl lt ↦ (let (post, at) = in_list posts p lt in ap (λ (t : Process). t.incarnation)
            (there p post at) ∙ sym (incarnation_there v posts back p post at))
        | inr past ↦ ap (λ (t : Process). t.incarnation)
            (process_past gathered p (omega (arith, past, is.gathered_is.count)) ∙ sym
            (process_past v.processes p (omega (arith, past, back.whole))))
      ];
      tapes = λ p. elim (cases_lt p (length posts)) [
        | inl lt ↦
            let (post, at) = in_list posts p lt in
            let (rest, joins) = is.begins p post at in
            (rest, ap (λ t. t ++ rest) (seen_there v posts back p post at) ∙ joins)
        | inr past ↦ (
          [],
          append-nil (tape_at v.processes p) ∙ tape_past v.processes p (omega (
            arith,
            past,
            back.whole,
          )) ∙ sym (tape_past gathered p (omega (arith, past, is.gathered_is.count))),
        )
      ];
    }

    between : IsBetween gathered (own_history posts)
    between = record {
      incarnation = prefixes_are.incarnations;
      begins = prefixes_are.begins;
      present = λ p k inc le held. elim (cases_lt p (length posts)) [
        | inl lt ↦
            let (post, at) = in_list posts p lt in
            let (rest, joins) = is.begins p post at in
            let f = sends_front (opening_tape post) (items_at v.lines p) in
            let g = sends_front (opening_tape post ++ items_at v.lines p) rest in
            let h = ap sends joins in
            (back.known p post at).0.present k inc (omega (arith, le, f, g, h))
            (subst (λ t. Holds t inc k) (own_tape posts p post at) held)
            ∙ sym (ap (λ (t : Process). t.incarnation) (own_at posts p post at))
        | inr past ↦
            (let none : Holds [] inc k = subst (λ t. Holds t inc k) (own_past posts p past) held in
            let w = slice_get_within (incarnations_sent []) k inc none in absurd (omega (arith, w)))
      ];
    }

    pub gathered_agrees : Agrees gathered
    gathered_agrees = gathered_agree gathered (own_history posts) back.fit between

-- one event more of a tape is copied
pub record IsCopied (old history : List Process) (p i : ℕ) (tape : List Event) : Type 0 where
  pub count : length history ≡ length old
  pub copied : tape_at history p ≡ take i tape
  pub incarnation : incarnation_at history p ≡ incarnation_at old p
  pub others : (q : ℕ) → q ≢ p → process_at history q ≡ process_at old q

pub copied_next : (old history next : List Process) (p i : ℕ) (tape : List Event) (e : Event)
    → p < length old → IsCopied old history p i tape → slice_get tape i ≡ Some e
    → next ≡ with_event history p e → IsCopied old next p (i + 1) tape
copied_next old history next p i tape e within so at is =
    let new : Process = record (process_at history p) { tape = tape_at history p ++ e ∷ [] } in
    let here : process_at next p ≡ new = ap (λ (h : List Process). process_at h p) is ∙
    get_or-set_same history p new fresh (omega (arith, within, so.count)) in
    let there : i < length tape = slice_get_within tape i e at in
    record {
      count = ap (λ (h : List Process). length h) is ∙ length-set history p new ∙ so.count;
      copied =
          ap (λ (t : Process). t.tape) here
          ∙ ap (λ (es : List Event). es ++ e ∷ []) so.copied
          ∙ ap (λ (x : Event). take i tape ++ x ∷ []) (sym (get_or_from_slice_get tape i e e at))
          ∙ sym (take_more tape i e there);
      incarnation = ap (λ (t : Process). t.incarnation) here ∙ so.incarnation;
      others = λ q apart. ap (λ (h : List Process). process_at h q) is ∙ get_or-set_other history p
          q new fresh apart ∙ so.others q apart;
    }

-- what is gathered of the first r workers is copied, and of the others nothing
pub record AreCopied (n : ℕ) (failed : List Bool) (lines : List (End Event)) (posts : List PostView)
    (r : ℕ) (history : List Process) : Type 0 where
  pub count : length history ≡ n
  pub done : (k : ℕ) (post : PostView) → k < r → slice_get posts k ≡ Some post
      → (process_at history k
      ≡ record {
        incarnation = incarnation_of_post post;
        tape = gathered_tape
            (is_member failed k) post;
      }) × IsPrefix (opening_tape post ++ items_at lines k)
      (gathered_tape (is_member failed k) post)
  pub left : (k : ℕ) → r ≤ k → tape_at history k ≡ []

pub copied_none : (n : ℕ) (failed : List Bool) (lines : List (End Event)) (posts : List PostView)
    (history : List Process) → history ≡ replicate n fresh
    → AreCopied n failed lines posts 0 history
copied_none n failed lines posts history is = record {
  count = ap (λ (h : List Process). length h) is ∙ length-replicate n fresh;
  done = λ k post lt at. absurd (omega (arith, lt));
  left = λ k le. ap (λ (h : List Process). tape_at h k) is ∙ tape_start n k;
}

module _ (n : ℕ) (failed : List Bool) (lines : List (End Event)) (posts : List PostView) (r : ℕ)
    (history next : List Process) (post : PostView) (so : AreCopied n failed lines posts r history)
    (at : slice_get posts r ≡ Some post) (count : length next ≡ length history) where
  abbrev HasCopy : ℕ → PostView → Type 0
  HasCopy k o =
      (process_at next k
      ≡ record { incarnation = incarnation_of_post o; tape = gathered_tape (is_member failed k) o })
      × IsPrefix (opening_tape o ++ items_at lines k) (gathered_tape (is_member failed k) o)

  copied_more : HasCopy r post → ((q : ℕ) → q ≢ r → process_at next q ≡ process_at history q)
      → AreCopied n failed lines posts (r + 1) next
  copied_more here others = record {
    count = count ∙ so.count;
    done = λ k o lt there. elim (cases_lt k r) [
      | inl less ↦ (let (is, begins) = so.done k o less there in
          (others k (λ e. omega (arith, e, less)) ∙ is, begins))
      | inr ge ↦
          let same : r ≡ k = omega (arith, ge, lt) in
          let e : post ≡ o = same_Some _ _ (sym at ∙ (ap (slice_get posts) same ∙ there)) in
          subst (λ (v : ℕ). HasCopy v o) same (subst (λ (v : PostView). HasCopy r v) e here)
    ];
    left = λ k past. ap (λ (t : Process). t.tape)
        (others k (λ e. omega (arith, e, past))) ∙ so.left k (omega (arith, past));
  }

  -- what is gathered of one worker more is copied
  pub copied_one_more : (p : ℕ) (lost : Bool) (ends : List (End Event)) → p ≡ r
      → lost ≡ is_member failed r → ends ≡ lines
      → process_at next p
      ≡ record { incarnation = incarnation_of_post post; tape = gathered_tape lost post }
      → IsPrefix (opening_tape post ++ items_at ends p) (gathered_tape lost post)
      → ((q : ℕ) → q ≢ p → process_at next q ≡ process_at history q)
      → AreCopied n failed lines posts (r + 1) next
  copied_one_more p lost ends at_p is_lost same is begins others =
      copied_more (
        subst (λ (b : Bool). process_at next r ≡ record
            { incarnation = incarnation_of_post post; tape = gathered_tape b post }) is_lost
            (subst (λ (v : ℕ). process_at next v ≡ record {
              incarnation = incarnation_of_post post;
              tape = gathered_tape lost post;
            }) at_p is),
        subst (λ (b : Bool). IsPrefix (opening_tape post ++ items_at lines r)
            (gathered_tape b post)) is_lost
            (subst (λ (v : ℕ). IsPrefix (opening_tape post ++ items_at lines v)
            (gathered_tape lost post)) at_p
            (subst (λ (l : List (End Event)). IsPrefix (opening_tape post ++ items_at l p)
            (gathered_tape lost post)) same begins)),
      ) (λ q apart. others q (λ x. apart (x ∙ at_p)))

pub copied_all : (n : ℕ) (failed : List Bool) (lines : List (End Event)) (posts : List PostView)
    (r : ℕ) (history : List Process) → length posts ≡ n → n ≤ r
    → AreCopied n failed lines posts r history → AreGatheredOnward failed lines posts history
copied_all n failed lines posts r history long all so = record {
  gathered_is = record {
    count = so.count ∙ sym long;
    each = λ p post at. (so.done p post
        (let w = slice_get_within posts p post at in omega (arith, w, long, all)) at).0;
  };
  begins = λ p post at.
      let (is, begins) = so.done p post
      (let w = slice_get_within posts p post at in omega (arith, w, long, all)) at in
      subst (IsPrefix (opening_tape post ++ items_at lines p))
      (sym (ap (λ (t : Process). t.tape) is)) begins;
}

-- where the collector kept all, and its catalogue has the further events
module _ (v : CollectorView) (posts : List PostView) (back : AreBack v posts) (failed : List Bool)
    (rooms : List ℕ) (further : List (List Event))
    (more : AreFurtherBelow (length posts) failed v.processes rooms posts further)
    (gathered : List Process) (long : length gathered ≡ length v.processes)
    (each : (p : ℕ) → process_at gathered p ≡ record {
      incarnation = incarnation_at v.processes
          p;
      tape = tape_at v.processes p ++ row_at further p;
    }) where
  pub onward_of : AreGatheredOnward failed v.lines posts gathered
  onward_of = record {
    gathered_is = gathered_of v posts back failed rooms further more gathered long each;
    begins = λ p post at. (
      row_at further p,
      ap (λ t. t ++ row_at further p)
          (sym (seen_there v posts back p post at)) ∙ sym (ap (λ (t : Process). t.tape) (each p)),
    );
  }
