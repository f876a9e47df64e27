-- What is gathered, beside the workers' own tapes.
use Rattle.std.proofs.Common.{◌≡◌, ◌∙◌, ◌≤◌, ◌++◌, [], ℕ, true, false, Bool, List, Some, length}
use Rattle.std.proofs.Common.{refl, sym, ap, inl, inr, arith, subst}
use Rattle.std.specs.Prelude.{slice_get, option_map, All}
use Rattle.std.proofs.lemmas.Bool.{cases_lt}
use Rattle.std.proofs.lemmas.List.{append-nil, length-append, length-map, get_or_past}
use Rattle.std.proofs.lemmas.List.Elements.{All-nil, filter_map-append}
use Rattle.std.proofs.lemmas.Option.{slice_get-map, slice_get_within, get_or_from_slice_get}
use Rattle.line_names.specs.Sets.{is_member}
use Rattle.line_tape.specs.declared.events.Event.{Event}
use Rattle.line_tape.specs.Event.{sends, incarnations_sent, incarnation_of, Holds, IsShort}
use Rattle.line_tape.specs.Event.{NamesBelow}
use Rattle.std.specs.List.{filter_map}
use Rattle.line_tape.specs.Fit.{sent_between, received_from, item_received, items_sent}
use Rattle.line_tape.specs.Fit.{AreDistinct, IsFitFifo, IsPrefix, MarksFollow}
use Rattle.line_tape.specs.Rounds.{rounds_checked}
use Rattle.line_tape.specs.History.{Process, fresh, process_at, tape_at, incarnation_at, IsProcess}
use Rattle.line_posts.specs.Ends.{items_at, ring_at, row_at}
use Rattle.line_posts.specs.Posts.{incarnation_of_post, opening_tape, IsPost, PostView}
use Rattle.line_posts.specs.Extension.{Extends}
use Rattle.line_posts.specs.Collected.{CollectorView, IsCollector}
use Rattle.line_posts.specs.Generations.{own_history, own_process, AreInOrder, AreLined}
use Rattle.line_posts.specs.Gathered.{gathered_tape, AreGathered, ArePrefixes}
use Rattle.line_posts.specs.Gathered.{HasNoneFailed, HasOwn}
use Rattle.line_posts.specs.Gathering.{AreBack, AreFurtherBelow, ArePosts, AreReady, IsOnWay}
use Rattle.line_posts.proofs.GatherLemmas.{own_tape, own_past, in_list, tape_past}
use Rattle.line_posts.proofs.GatheringLemmas.{process_is}

pub own_at : (posts : List PostView) (p : ℕ) (post : PostView) → slice_get posts p ≡ Some post
    → process_at (own_history posts) p ≡ own_process post
own_at posts p post at = get_or_from_slice_get (own_history posts) p (own_process post) fresh
    (slice_get-map own_process posts p ∙ ap (option_map own_process) at)

pub process_past : (history : List Process) (p : ℕ) → length history ≤ p
    → process_at history p ≡ fresh
process_past history p past = get_or_past history p fresh past

pub own_none : (posts : List PostView) (p : ℕ) → length posts ≤ p
    → process_at (own_history posts) p ≡ fresh
own_none posts p past = (let l = length-map posts own_process in process_past (own_history posts) p
    (omega (arith, l, past)))

fresh_fits : (n : ℕ) → IsProcess n fresh
fresh_fits n = record
    { tape = record { few = omega arith; short = All-nil IsShort }; named = All-nil (NamesBelow n) }

-- what is gathered of a worker begins its tape
pub rest_lost : (failed : Bool) (post : PostView) → IsPost post
    → (lost : List Event) × (post.tape ≡ gathered_tape failed post ++ lost)
rest_lost true post h = (h.reports.0, sym h.reports.1)
rest_lost false post h = ([], sym (append-nil post.tape))

pub sends_front : (xs ys : List Event) → sends xs ≤ sends (xs ++ ys)
sends_front xs ys =
    let a = ap length (filter_map-append incarnation_of xs ys) in
    let b = length-append (incarnations_sent xs) (incarnations_sent ys) in
    omega (arith, a, b)

pub back_of : (v w : CollectorView) (posts : List PostView) → v ≡ w → IsCollector v
    → AreLined w posts
    → ArePosts posts → AreInOrder posts → length posts ≡ length v.processes
    → IsFitFifo (own_history posts) → AreBack v posts
back_of v w posts e collects lined known order whole fit = record {
  collects = collects;
  lined = subst (λ (u : CollectorView). AreLined u posts) (sym e) lined;
  known = known;
  order = order;
  whole = whole;
  fit = fit;
}

module _ (v : CollectorView) (posts : List PostView) (back : AreBack v posts) where
  whole : length posts ≡ length v.processes
  whole = back.whole

  tape_there : (p : ℕ) (post : PostView) → slice_get posts p ≡ Some post
      → tape_at v.opening p ≡ opening_tape post
  tape_there p post at = ap (λ o. tape_at o p) (sym ((back.lined p post at).0)) ∙ ap
      (tape_at post.opening) (sym ((back.order p post at).0))

  pub incarnation_there : (p : ℕ) (post : PostView) → slice_get posts p ≡ Some post
      → incarnation_at v.processes p ≡ incarnation_of_post post
  incarnation_there p post at = back.collects.incarnations p ∙
      (ap (λ o. incarnation_at o p) (sym ((back.lined p post at).0)) ∙ ap
      (incarnation_at post.opening) (sym ((back.order p post at).0)))

  pub seen_there : (p : ℕ) (post : PostView) → slice_get posts p ≡ Some post
      → tape_at v.processes p ≡ opening_tape post ++ items_at v.lines p
  seen_there p post at =
      back.collects.tapes p ∙ ap (λ t. t ++ items_at v.lines p) (tape_there p post at)

  pub ready_of : AreReady v.processes v.lines posts
  ready_of p post at = record {
    number = (back.order p post at).0;
    is = (back.known p post at).0;
    within = (let w = slice_get_within posts p post at in let a = back.collects.count in let b =
        back.collects.line_count in omega (arith, w, a, b, whole));
    ring = (back.lined p post at).1 ∙ ap (ring_at v.lines) ((back.order p post at).0);
    seen = seen_there p post at;
  }

  module _ (failed : List Bool) (rooms : List ℕ) (further : List (List Event))
      (more : AreFurtherBelow (length posts) failed v.processes rooms posts further) where
    given : (p : ℕ) (post : PostView) → slice_get posts p ≡ Some post
        → tape_at v.processes p ++ row_at further p ≡ gathered_tape (is_member failed p) post
    given p post at = more.each p post (slice_get_within posts p post at) at

    pub way_of : IsOnWay v.processes further v.processes rooms further
    way_of = record {
      own = own_history posts;
      may = record {
        count = more.count ∙ whole;
        fit = back.fit;
        limits = λ p. elim (cases_lt p (length posts)) [
          | inl lt ↦
              let (post, at) = in_list posts p lt in
              subst (IsProcess (length v.processes)) (sym (own_at posts p post at)) (record {
                tape = (back.known p post at).1;
                named = subst (λ n. All (NamesBelow n) post.tape) ((back.order p post at).1 ∙ whole)
                    ((back.known p post at).0.named);
              })
          | inr past ↦ subst (IsProcess (length v.processes)) (sym (own_none posts p past))
              (fresh_fits (length v.processes))
        ];
        incarnations = λ p. elim (cases_lt p (length posts)) [
          | inl lt ↦ (let (post, at) = in_list posts p lt in incarnation_there p post at ∙ sym
              (ap (λ (t : Process). t.incarnation) (own_at posts p post at)))
          | inr past ↦ ap (λ (t : Process). t.incarnation) (process_past v.processes p
              (omega (arith, past, whole)) ∙ sym (own_none posts p past))
        ];
        begins = λ p. elim (cases_lt p (length posts)) [
          | inl lt ↦
              let (post, at) = in_list posts p lt in
              let (lost, is) = rest_lost (is_member failed p) post ((back.known p post at).0) in (
                lost,
                sym (own_tape posts p post at ∙
                    (is ∙ ap (λ t. t ++ lost) (sym (given p post at)))),
              )
          | inr past ↦ (
            [],
            sym (own_past posts p past
                ∙ (ap (λ t. ([] ++ t) ++ [])
                (sym (get_or_past further p [] (let c = more.count in omega (arith, c, past))))
                ∙ ap (λ t. (t ++ row_at further p) ++ [])
                (sym (tape_past v.processes p (omega (arith, past, whole)))))),
          )
        ];
        present = λ p k inc le held. elim (cases_lt p (length posts)) [
          | inl lt ↦
              let (post, at) = in_list posts p lt in
              let s = ap sends (seen_there p post at) in
              let f = sends_front (opening_tape post) (items_at v.lines p) in
              (back.known p post at).0.present k inc (omega (arith, le, s, f))
              (subst (λ t. Holds t inc k) (own_tape posts p post at) held)
              ∙ sym (ap (λ (t : Process). t.incarnation) (own_at posts p post at))
          | inr past ↦
              (let none : Holds [] inc k = subst (λ t. Holds t inc k)
              (own_past posts p past) held in let w =
              slice_get_within (incarnations_sent []) k inc none in absurd (omega (arith, w)))
        ];
      };
      long = refl;
      incarnation = λ p. refl;
      same = λ p. refl;
      room = λ p. elim (cases_lt p (length posts)) [
        | inl lt ↦ more.room p lt
        | inr past ↦ (let l = ap length (get_or_past further p []
            (let c = more.count in omega (arith, c, past))) in omega (arith, l))
      ];
    }

    module _ (gathered : List Process) (long : length gathered ≡ length v.processes)
        (each : (p : ℕ) → process_at gathered p ≡ record {
          incarnation = incarnation_at v.processes
              p;
          tape = tape_at v.processes p ++ row_at further p;
        }) where
      pub gathered_of : AreGathered failed posts gathered
      gathered_of = record {
        count = long ∙ sym whole;
        each = λ p post at. each p ∙ process_is
            (record {
              incarnation = incarnation_at v.processes p;
              tape = tape_at v.processes p
                  ++ row_at further p;
            }) (incarnation_of_post post) (gathered_tape
            (is_member failed p) post) (incarnation_there p post at) (given p post at);
      }

      pub extends_of : Extends gathered v.processes
      extends_of = record {
        count = long;
        incarnations = λ p. ap (λ (t : Process). t.incarnation) (each p);
        tapes = λ p. (row_at further p, sym (ap (λ (t : Process). t.tape) (each p)));
      }

      gathered_past : (p : ℕ) → length posts ≤ p
          → process_at gathered p ≡ process_at (own_history posts) p
      gathered_past p past =
          process_past gathered p (omega (arith, past, long, whole)) ∙ sym (own_none posts p past)

      pub prefixes_of : ArePrefixes failed gathered (own_history posts)
      prefixes_of = record {
        count = long ∙ (sym whole ∙ sym (length-map posts own_process));
        incarnations = λ p. elim (cases_lt p (length posts)) [
          | inl lt ↦ (let (post, at) = in_list posts p lt in ap (λ (t : Process). t.incarnation)
              (gathered_of.each p post at) ∙ sym
              (ap (λ (t : Process). t.incarnation) (own_at posts p post at)))
          | inr past ↦ ap (λ (t : Process). t.incarnation) (gathered_past p past)
        ];
        begins = λ p. elim (cases_lt p (length posts)) [
          | inl lt ↦
              let (post, at) = in_list posts p lt in
              let (lost, is) = rest_lost (is_member failed p) post ((back.known p post at).0) in (
                lost,
                sym (own_tape posts p post at ∙ (is ∙ ap (λ t. t ++ lost)
                    (sym (ap (λ (t : Process). t.tape) (gathered_of.each p post at))))),
              )
          | inr past ↦ (
            [],
            append-nil (tape_at gathered p) ∙ ap (λ (t : Process). t.tape)
                (gathered_past p past),
          )
        ];
        whole = λ p alive. elim (cases_lt p (length posts)) [
          | inl lt ↦ (let (post, at) = in_list posts p lt in ap (λ (t : Process). t.tape)
              (gathered_of.each p post at) ∙
              (ap (λ b. gathered_tape b post) alive ∙ sym (own_tape posts p post at)))
          | inr past ↦ ap (λ (t : Process). t.tape) (gathered_past p past)
        ];
      }

-- tapes that are the same fit as well
fit_same : (a b : List Process) → ((p : ℕ) → tape_at a p ≡ tape_at b p) → IsFitFifo b → IsFitFifo a
fit_same a b e h = record {
  order = λ p q.
      subst (λ t. IsPrefix (filter_map (item_received p) t) (sent_between a p q)) (sym (e q))
      (subst (λ t. IsPrefix (received_from b q p) (items_sent p q 0 t)) (sym (e p)) (h.order p q));
  rounds = λ p. subst (λ t. AreDistinct (rounds_checked t)) (sym (e p)) (h.rounds p);
  marks = λ p. subst MarksFollow (sym (e p)) (h.marks p);
}

-- where nobody failed, what was gathered is all that there is
pub none_lost : (failed : List Bool) (gathered : List Process) → HasOwn failed gathered
    → HasNoneFailed failed → IsFitFifo gathered
none_lost failed gathered has none =
    fit_same gathered has.0 (λ p. has.2.whole p (none p)) has.1
