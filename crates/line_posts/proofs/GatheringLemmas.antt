-- What workers have and the collector has not, and how it is added.
use Rattle.std.proofs.Common.{◌≡◌, ◌≢◌, ◌∙◌, ◌+◌, ◌<◌, ◌≤◌, ◌++◌, ◌∷◌, [], ℕ, true, false, Bool}
use Rattle.std.proofs.Common.{List, Some, length, take, drop, get_or, refl, sym, ap, inl, inr}
use Rattle.std.proofs.Common.{arith, subst}
use Rattle.std.specs.Prelude.{slice_get, All}
use Rattle.std.proofs.lemmas.Bool.{cases_lt, cases_eq}
use Rattle.std.proofs.lemmas.List.{append_assoc, length-append, length-take-le, take-take}
use Rattle.std.proofs.lemmas.List.{take-append-le, take-append-drop, drop-take, take_all}
use Rattle.std.proofs.lemmas.List.{length-set, length_push, get_or-set_same, get_or-set_other}
use Rattle.std.proofs.lemmas.List.{get_or_push, get_or_append_left}
use Rattle.std.proofs.lemmas.List.Elements.{filter_map-append}
use Rattle.std.proofs.lemmas.Option.{same_Some}
use Rattle.line_names.specs.Sets.{is_member}
use Rattle.line_tape.specs.declared.events.Event.{Event}
use Rattle.line_tape.specs.declared.events.Event.TheVariants.{Send, Recv, Check, Mark}
use Rattle.line_tape.specs.declared.limits.TheConstants.{MOST_EVENTS}
use Rattle.line_tape.specs.Event.{sends, incarnations_sent, incarnation_of, Holds, HasLongState}
use Rattle.line_tape.specs.Event.{IsShort, NamesBelow}
use Rattle.line_tape.specs.History.{Process, process_at, tape_at, incarnation_at, with_event}
use Rattle.line_tape.specs.History.{IsProcess}
use Rattle.line_tape.proofs.EventLemmas.{tape_same, tape_other, tape_grows}
use Rattle.line_laws.proofs.SpentLemmas.{incarnation_event}
use Rattle.line_catalogue.specs.Agreement.{AgreesNext, IsSentAsNow}
use Rattle.line_posts.specs.Ends.{row_at}
use Rattle.line_posts.specs.Posts.{opening_tape, IsPost, PostView}
use Rattle.line_posts.specs.Receipts.{without_first}
use Rattle.line_posts.specs.Gathered.{gathered_tape}
use Rattle.line_posts.specs.Gathering.{AreFurtherBelow, IsOnWay, MayTake}
use Rattle.line_posts.proofs.AgreedLemmas.{gathered_agree}

-- what the collector has of a tape stands at its front
pub seen_front : (tape gathered seen rest : List Event) (from upto : ℕ) → take upto tape ≡ gathered
    → upto ≤ length tape → gathered ≡ seen ++ rest → from ≡ length seen
    → (take from tape ≡ seen) × (from ≤ upto)
seen_front tape gathered seen rest from upto told within more is =
    let a = ap length told in
    let b = length-take-le upto tape within in
    let c = ap length more in
    let d = length-append seen rest in
    let le : from ≤ upto = omega (arith, a, b, c, d, is) in (
      sym (take-take from upto tape le) ∙ (ap (take from) (told ∙ more) ∙ (take-append-le from seen
          rest (omega (arith, is)) ∙ take_all from seen (omega (arith, is)))),
      le,
    )

copied_is : (tape : List Event) (from upto k : ℕ) → from ≤ upto → upto ≡ from + k
    → take from tape ++ take k (drop from tape) ≡ take upto tape
copied_is tape from upto k le e =
    ap (λ t. t ++ take k (drop from tape)) (sym (take-take from upto tape le))
    ∙ (ap (λ t. take from (take upto tape) ++ t) (sym (drop-take from k tape) ∙ ap
    (λ n. drop from (take n tape)) (sym e)) ∙ take-append-drop from (take upto tape))

-- the further events, and how many they are
pub further_is : (tape gathered seen rest further : List Event) (from upto : ℕ)
    → take upto tape ≡ gathered → upto ≤ length tape → gathered ≡ seen ++ rest → from ≡ length seen
    → (k : ℕ) → from + k ≡ upto → further ≡ take k (drop from tape)
    → (seen ++ further ≡ gathered) × (length further + from ≡ upto)
further_is tape gathered seen rest further from upto told within more is k sum copied =
    let (f, le) = seen_front tape gathered seen rest from upto told within more is in
    let all : seen ++ further ≡ gathered = ap (λ t. t ++ further) (sym f) ∙
    (ap (λ t. take from tape ++ t) copied ∙ (copied_is tape from upto k le (sym sum) ∙ told)) in
    let a = ap length all in
    let b = ap length told in
    let c = length-take-le upto tape within in
    let d = length-append seen further in
    (all, omega (arith, a, b, c, d, is))

at_middle : {X : Type 0} (xs ys : List X) (y d : X) → get_or (xs ++ y ∷ ys) (length xs) d ≡ y
at_middle [] ys y d = refl
at_middle (x ∷ xs) ys y d = at_middle xs ys y d

all_at : {X : Type 0} (P : X → Type 0) (xs ys : List X) (y : X) → All P (xs ++ y ∷ ys) → P y
all_at P xs ys y all = subst P (at_middle xs ys y y)
    (all (length xs) y (let l = length-append xs (y ∷ ys) in omega (arith, l)))

get_middle : {X : Type 0} (xs ys : List X) (y : X) → slice_get (xs ++ y ∷ ys) (length xs) ≡ Some y
get_middle [] ys y = refl
get_middle (x ∷ xs) ys y = get_middle xs ys y

not_long : (e : Event) → IsShort e → HasLongState e → ⊥
not_long (Send to inc body) s h = h
not_long (Recv m) s h = h
not_long (Check state round) s h = omega (arith, s, h)
not_long (Mark from round) s h = h

sent_now : (history : List Process) (p : ℕ) (e : Event) → ((inc : ℕ) → incarnation_of e ≡ Some inc
    → inc ≡ incarnation_at history p) → IsSentAsNow history p e
sent_now history p (Send to inc body) h = h inc refl
sent_now history p (Recv m) h = tt
sent_now history p (Check state round) h = tt
sent_now history p (Mark from round) h = tt

-- a send behind others is held under its incarnation
held_here : (xs ys : List Event) (e : Event) (inc : ℕ) → incarnation_of e ≡ Some inc
    → Holds (xs ++ e ∷ ys) inc (sends xs)
held_here xs ys (Send to i body) inc is = ap (λ (t : List ℕ). slice_get t (sends xs))
    (filter_map-append incarnation_of xs (Send to i body ∷ ys)) ∙
    (get_middle (incarnations_sent xs) (incarnations_sent ys) i ∙ is)
held_here xs ys (Recv m) inc is = cc is
held_here xs ys (Check state round) inc is = cc is
held_here xs ys (Mark from round) inc is = cc is

-- what an event may be that a process may have next
pub record IsAddable (history : List Process) (p : ℕ) (e : Event) : Type 0 where
  pub named : NamesBelow (length history) e
  pub short : HasLongState e → ⊥
  pub few : length (tape_at history p) ≢ MOST_EVENTS
  pub agrees : AgreesNext history p e

module _ (history : List Process) (further : List (List Event)) (own : List Process) (p : ℕ)
    (e : Event) (rest : List Event)
    (within : p < length history) (may : MayTake history further own)
    (first : row_at further p ≡ e ∷ rest) where
  row_left : row_at (without_first further p) p ≡ rest
  row_left = (let c = may.count in get_or-set_same further p (drop 1 (row_at further p)) []
      (omega (arith, within, c)) ∙ ap (drop 1) first)

  -- the same in the end
  pub joined : (q : ℕ) → tape_at (with_event history p e) q ++ row_at (without_first further p) q
      ≡ tape_at history q ++ row_at further q
  joined q = elim (cases_eq q p) [
    | inl same ↦
        ap (λ t. t ++ row_at (without_first further p) q) (tape_same history p e q within same)
        ∙ (ap (λ v. (tape_at history q ++ e ∷ []) ++ row_at (without_first further p) v) same
        ∙ (ap (λ t. (tape_at history q ++ e ∷ []) ++ t) row_left
        ∙ (append_assoc (tape_at history q) (e ∷ []) rest
        ∙ (ap (λ t. tape_at history q ++ t) (sym first) ∙ ap
        (λ v. tape_at history q ++ row_at further v) (sym same)))))
    | inr apart ↦ ap (λ t. t ++ row_at (without_first further p) q) (tape_other history p e q apart)
        ∙ ap (λ t. tape_at history q ++ t)
        (get_or-set_other further p q (drop 1 (row_at further p)) [] apart)
  ]

  sends_grow : (q : ℕ) → sends (tape_at history q) ≤ sends (tape_at (with_event history p e) q)
  sends_grow q =
      let (more, is) = tape_grows history p e q within in
      let a = ap sends is in
      let b = ap length (filter_map-append incarnation_of (tape_at history q) more) in
      let c = length-append (incarnations_sent (tape_at history q)) (incarnations_sent more) in
      omega (arith, a, b, c)

  pub may_next : MayTake (with_event history p e) (without_first further p) own
  may_next = record {
    count = length-set further p _ ∙ (may.count ∙ sym (length-set history p _));
    fit = may.fit;
    limits = λ q. subst (λ n. IsProcess n (process_at own q)) (sym (length-set history p _))
        (may.limits q);
    incarnations = λ q. incarnation_event history p e q within ∙ may.incarnations q;
    begins = λ q. ((may.begins q).0, ap (λ t. t ++ (may.begins q).0) (joined q) ∙ (may.begins q).1);
    present =
        λ q k inc le held. may.present q k inc (let g = sends_grow q in omega (arith, le, g)) held;
  }

  own_is : tape_at own p ≡ tape_at history p ++ e ∷ (rest ++ (may.begins p).0)
  own_is = sym (may.begins p).1 ∙ (ap (λ t. (tape_at history p ++ t) ++ (may.begins p).0) first ∙
      append_assoc (tape_at history p) (e ∷ rest) (may.begins p).0)

  pub addable : IsAddable history p e
  addable =
      let lim = may.limits p in
      let more = rest ++ (may.begins p).0 in
      record {
        named = all_at (NamesBelow (length history)) (tape_at history p) more e
            (subst (All (NamesBelow (length history))) own_is lim.named);
        short = not_long e
            (all_at IsShort (tape_at history p) more e (subst (All IsShort) own_is lim.tape.short));
        few = λ full. (let f = lim.tape.few in let l = ap length own_is in let a = length-append
            (tape_at history p) (e ∷ more) in omega (arith, f, l, a, full));
        agrees = record {
          agrees = gathered_agree (with_event history p e) own may.fit (record {
            incarnation = may_next.incarnations;
            begins = λ q. (
              row_at (without_first further p) q
                  ++ (may_next.begins q).0,
              sym
                  (append_assoc (tape_at (with_event history p e) q) (row_at
                  (without_first further p) q) ((may_next.begins q).0)) ∙ (may_next.begins q).1,
            );
            present = may_next.present;
          });
          present = sent_now history p e
              (λ inc is. may.present p (sends (tape_at history p)) inc (omega arith)
              (subst (λ t. Holds t inc (sends (tape_at history p))) (sym own_is)
              (held_here (tape_at history p) more e inc is)) ∙ sym (may.incarnations p));
        };
      }

pub way_next : (history next : List Process) (further next_further : List (List Event))
    (rooms next_rooms : List ℕ) (p : ℕ) (e : Event)
    → p < length history → IsOnWay history further history rooms further
    → row_at further p ≡ e ∷ row_at next_further p → next_further ≡ without_first further p
    → next ≡ with_event history p e
    → get_or rooms p 0 ≤ get_or next_rooms p 0 + 1 → ((q : ℕ) → q ≢ p → get_or next_rooms q 0
    ≡ get_or rooms q 0) → IsOnWay history further next next_rooms next_further
way_next history next further next_further rooms next_rooms p e within h first ef en spent others =
    let rest = row_at next_further p in
    rw en (record {
      own = h.own;
      may = subst (λ t. MayTake (with_event history p e) t h.own) (sym ef)
          (may_next history further h.own p e rest within h.may first);
      long = length-set history p _;
      incarnation = λ q. incarnation_event history p e q within;
      same = λ q. ap (λ t. tape_at (with_event history p e) q ++ row_at t q) ef ∙ joined history
          further h.own p e rest within h.may first q;
      room = λ q. elim (cases_eq q p) [
        | inl same ↦
            let r = h.room p in
            let l = ap length first in
            let small : length (row_at next_further p) ≤ get_or next_rooms p 0 = omega
            (arith, r, l, spent) in
            subst (λ v. length (row_at next_further v) ≤ get_or next_rooms v 0) (sym same) small
        | inr apart ↦
            let r = h.room q in
            let o = others q apart in
            let l = ap (λ t. length (row_at t q)) ef ∙ ap length
            (get_or-set_other further p q (drop 1 (row_at further p)) [] apart) in
            omega (arith, r, o, l)
      ];
    })

-- a way begins where it is, and what goes on from there goes on
pub way_here : (old history : List Process) (old_further further : List (List Event))
    (rooms : List ℕ) → IsOnWay old old_further history rooms further
    → IsOnWay history further history rooms further
way_here old history old_further further rooms h = record {
  own = h.own;
  may = h.may;
  long = refl;
  incarnation = λ p. refl;
  same = λ p. refl;
  room = h.room;
}

pub way_then : (old history next : List Process)
    (old_further further next_further : List (List Event)) (rooms next_rooms : List ℕ)
    → IsOnWay old old_further history rooms further → IsOnWay history further next next_rooms
    next_further → IsOnWay old old_further next next_rooms next_further
way_then old history next old_further further next_further rooms next_rooms a b =
    record {
      own = b.own;
      may = b.may;
      long = b.long ∙ a.long;
      incarnation = λ p. b.incarnation p ∙
          a.incarnation p;
      same = λ p. b.same p ∙ a.same p;
      room = b.room;
    }

-- what is gathered of a worker begins with what the collector has of it
pub gathered_known : (failed : Bool) (post : PostView) (popped known : List Event) → IsPost post
    → popped ++ known ≡ post.line.items
    → (rest : List Event) × (gathered_tape failed post ≡ (opening_tape post ++ popped) ++ rest)
gathered_known true post popped known h e = (
  known,
  ap (λ t. opening_tape post ++ t) (sym e) ∙ sym
      (append_assoc (opening_tape post) popped known),
)
gathered_known false post popped known h e =
    let O = opening_tape post in
    let (r, joins) = h.reports in
    let is = sym joins in (
      known ++ r,
      is ∙ (ap (λ t. (O ++ t) ++ r) (sym e) ∙ (ap (λ t. t ++ r)
          (sym (append_assoc O popped known)) ∙ append_assoc (O ++ popped) known r)),
    )

-- the further events of one more worker
pub further_more : (n : ℕ) (failed : List Bool) (processes : List Process)
    (rooms next_rooms : List ℕ) (posts : List PostView) (further next_further : List (List Event))
    (post : PostView) (events : List Event)
    → AreFurtherBelow n failed processes rooms posts further → slice_get posts n ≡ Some post
    → next_further ≡ further ++ events ∷ []
    → tape_at processes n ++ events ≡ gathered_tape (is_member failed n) post → length events ≤
    get_or next_rooms n 0 → ((q : ℕ) → q ≢ n → get_or next_rooms q 0 ≡ get_or rooms q 0)
    → AreFurtherBelow (n + 1) failed processes next_rooms posts next_further
further_more n failed processes rooms next_rooms posts further next_further post events h here is
    all room others =
    let c = h.count in
    rw is (record {
      count = length_push further events ∙ ap (λ t. t + 1) c;
      each = λ p q lt at. elim (cases_lt p n) [
        | inl less ↦ ap (λ t. tape_at processes p ++ t) (get_or_append_left further
            (events ∷ []) [] p (omega (arith, less, c))) ∙ h.each p q less at
        | inr ge ↦
            let same : n ≡ p = omega (arith, ge, lt) in
            let e : post ≡ q = same_Some _ _ (sym here ∙ (ap (slice_get posts) same ∙ at)) in
            ap (λ t. tape_at processes p ++ t)
            (get_or_push further events [] p (omega (arith, same, c)))
            ∙ subst (λ (v : PostView). tape_at processes p ++ events
            ≡ gathered_tape (is_member failed p) v) e (subst (λ v. tape_at processes v ++ events
            ≡ gathered_tape (is_member failed v) post) same all)
      ];
      room = λ p lt. elim (cases_lt p n) [
        | inl less ↦
            let l = ap length
            (get_or_append_left further (events ∷ []) [] p (omega (arith, less, c))) in
            let o = others p (λ e. omega (arith, e, less)) in
            let r = h.room p less in
            omega (arith, l, o, r)
        | inr ge ↦
            let same : n ≡ p = omega (arith, ge, lt) in
            let l = ap length (get_or_push further events [] p (omega (arith, same, c))) in
            let r = subst (λ v. length events ≤ get_or next_rooms v 0) same room in
            omega (arith, l, r)
      ];
    })

pub process_is : (x : Process) (inc : ℕ) (tape : List Event) → x.incarnation ≡ inc → x.tape ≡ tape
    → x ≡ record { incarnation = inc; tape = tape }
process_is x inc tape e f = rw (sym e, sym f) refl
