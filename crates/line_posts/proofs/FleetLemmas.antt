-- The workers of a fleet, one by one.
use Rattle.std.proofs.Common.{add-one, zero, suc, ◌≡◌, ◌∙◌, ◌+◌, ◌<◌, ◌++◌, ◌∷◌, [], ℕ, List, Some}
use Rattle.std.proofs.Common.{length, map, drop, replicate, refl, sym, ap, inl, inr, arith, subst}
use Rattle.std.specs.Prelude.{slice_get, option_map}
use Rattle.std.proofs.lemmas.List.{length-map, length-drop, length-replicate, length_push}
use Rattle.std.proofs.lemmas.List.{get_or-replicate}
use Rattle.std.proofs.lemmas.Option.{slice_get_within}
use Rattle.line_rounds.specs.Recording.{RecordedRound}
use Rattle.line_tape.specs.declared.events.Event.{Event}
use Rattle.line_tape.specs.History.{Process, fresh, tape_at}
use Rattle.line_tape.proofs.EventLemmas.{tape_start}
use Rattle.line_tape.proofs.ListLemmas.{slice_get_push}
use Rattle.line_posts.specs.Ends.{End, items_at, items_of, ring_at, row_at, slots_at, AreFresh}
use Rattle.line_posts.specs.Ends.{AreLinked, HaveSlots}
use Rattle.line_posts.specs.declared.parcels.Packet.{Packet}
use Rattle.line_posts.specs.declared.parcels.Parcel.{Parcel}
use Rattle.line_posts.specs.Posts.{post_of, PostView}
use Rattle.line_posts.specs.Collected.{collector_of, CollectorView}
use Rattle.line_posts.specs.Generations.{AreLined, HasRing}
use Rattle.line_posts.specs.Openings.{IsOpening}
use Rattle.line_posts.specs.Fleets.{AreReplays}
use Rattle.line_posts.specs.Parcels.{parcels_of, parcels_sent}
use Rattle.line_posts.proofs.ReplayLemmas.{drop_none}
use Rattle.line_tape.specs.Fit.{received_from}
use Rattle.line_tape.specs.Views.{MarksView}
use Rattle.line_posts.specs.Generations.{IsGeneration}
use Rattle.line_posts.specs.Openings.{AreOpened}
use Rattle.line_posts.specs.Preparations.{IsJournalAt}
use Rattle.line_posts.specs.Replays.{AreAllReplays}
use Rattle.line_posts.specs.Journals.{JournalView}
use Rattle.line_posts.specs.Fleets.{AreAllMade, AreMade, IsMade}

-- the next row, and those after it
pub next_row : {X : Type 0} (rows : List (List X)) (q : ℕ) (row : List X) (rest : List (List X))
    → row ∷ rest ≡ drop q rows → (row_at rows q ≡ row) × (drop (suc q) rows ≡ rest)
next_row [] zero row rest e = cc e
next_row [] (suc q) row rest e = cc e
next_row (x ∷ xs) zero row rest e = (cc e, cc e)
next_row (x ∷ xs) (suc q) row rest e = next_row xs q row rest e

-- the next item, and those after it
pub next_item : {X : Type 0} (xs : List X) (q : ℕ) (x : X) (rest : List X) → x ∷ rest ≡ drop q xs
    → (slice_get xs q ≡ Some x) × (drop (suc q) xs ≡ rest)
next_item [] zero x rest e = cc e
next_item [] (suc q) x rest e = cc e
next_item (y ∷ ys) zero x rest e = (cc e, cc e)
next_item (y ∷ ys) (suc q) x rest e = next_item ys q x rest e

-- one journal more
pub journals_more : (opening : List Process) (floor q : ℕ) (journals journals' : List JournalView)
    (journal : JournalView) → length journals ≡ q
    → ((p : ℕ) (j : JournalView) → slice_get journals p ≡ Some j → IsJournalAt opening floor p j)
    → journals' ≡ journals ++ journal ∷ [] → IsJournalAt opening floor q journal
    → (length journals' ≡ q + 1) ×
    ((p : ℕ) (j : JournalView) → slice_get journals' p ≡ Some j → IsJournalAt opening floor p j)
journals_more opening floor q journals journals' journal count each e new = (
  ap length e ∙ (length_push journals journal ∙ ap (λ t. t + 1) count),
  λ p j at. elim (slice_get_push journals journal j p (ap (λ t. slice_get t p) (sym e) ∙ at)) [
    | inl (lt, old) ↦ each p j old
    | inr (last, same) ↦ subst (λ (v : JournalView). IsJournalAt opening floor p v) same
        (subst (λ n. IsJournalAt opening floor n journal) (sym (last ∙ count)) new)
  ],
)

pub opening_of : (opening : List Process) (q me n : ℕ) (tape : List Event) (kept : List
    (List Packet)) (outs ins : List (List (End Parcel))) (lines in_lines : List (List (End Event)))
    (out in_ : List (End Parcel)) (seen : List (List Parcel)) (line : End Event) (floor : ℕ)
    (rounds : List RecordedRound)
    → me ≡ q → q < n → n ≡ length opening → tape ≡ tape_at opening me → AreReplays opening me kept
    → AreLinked n n outs ins → AreLinked n 1 lines in_lines
    → out ≡ row_at outs q → in_ ≡ row_at ins q → line ∷ [] ≡ row_at lines q
    → IsOpening (post_of me opening tape kept out in_ seen line floor rounds)
opening_of opening q me n tape kept outs ins lines in_lines out in_ seen line floor rounds em lt
    long et ek l m eo ei el =
    record {
      within = omega (arith, lt, long, em);
      out_count = ap length eo ∙ (l.out_count q lt ∙ long);
      in_count = ap length ei ∙ (l.in_count q lt ∙ long);
      kept_count = ek.count;
      tape = et;
      outs = subst AreFresh (sym eo) (l.fresh q);
      ins = subst AreFresh (sym ei) (λ p. ap items_of (sym (l.linked p q)) ∙ l.fresh p q);
      line = ap (λ t. items_at t 0) el ∙ m.fresh q 0;
      kept = ek.each;
    }

pub rows_left : {X Y : Type 0} (f : X → List Y) (items : List X) (rows : List (List Y)) (q n : ℕ)
    → map f items ≡ drop q rows → length rows ≡ n → q < n → 0 < length items
rows_left f items rows q n is long lt =
    let a = length-map items f in
    let b = length-drop q rows in
    let e = ap length is in
    omega (arith, a, b, e, long, lt)

pub single : {X : Type 0} (xs : List X) (x : X) (ys : List X) → xs ≡ x ∷ ys → length xs ≡ 1
    → xs ≡ x ∷ []
single xs x [] e l = e
single xs x (y ∷ ys) e l = (let k = ap length e in absurd (omega (arith, k, l)))

pub made_more : (opening : List Process) (floor : ℕ) (outs ins : List (List (End Parcel)))
    (lines : List (List (End Event))) (q : ℕ) (lo li lo' li' : List (List (End Parcel)))
    (ll ll' : List (List (End Event))) (posts posts' : List PostView) (post : PostView)
    (out in_ : List (End Parcel)) (line : List (End Event))
    → AreMade opening floor outs ins lines q lo li ll posts
    → IsMade opening floor outs ins lines q post → posts' ≡ posts ++ post ∷ []
    → lo ≡ out ∷ lo' → li ≡ in_ ∷ li' → ll ≡ line ∷ ll'
    → AreMade opening floor outs ins lines (q + 1) lo' li' ll' posts'
made_more opening floor outs ins lines q lo li lo' li' ll ll' posts posts' post out in_ line h new
    ep eo ei el =
    record {
      count = ap length ep ∙ (length_push posts post ∙ ap (λ t. t + 1) h.count);
      made =
          λ k p at. elim (slice_get_push posts post p k (ap (λ t. slice_get t k) (sym ep) ∙ at)) [
            | inl (lt, old) ↦ h.made k p old
            | inr (last, same) ↦ subst
                (λ (v : PostView). IsMade opening floor outs ins lines k v) same
                (subst (λ n. IsMade opening floor outs ins lines n post) (sym (last ∙ h.count)) new)
          ];
      outs_left = sym ((next_row outs q out lo' (sym eo ∙ h.outs_left)).1) ∙ ap (λ k. drop k outs)
          (sym (add-one q));
      ins_left = sym ((next_row ins q in_ li' (sym ei ∙ h.ins_left)).1) ∙ ap (λ k. drop k ins)
          (sym (add-one q));
      lines_left =
          sym ((next_row lines q line ll' (sym el ∙ h.lines_left)).1) ∙ ap (λ k. drop k lines)
          (sym (add-one q));
    }

pub made_of : (opening : List Process) (floor : ℕ) (outs ins : List (List (End Parcel)))
    (lines : List (List (End Event))) (q me : ℕ) (tape : List Event) (kept : List (List Packet))
    (out in_ : List (End Parcel)) (seen : List (List Parcel)) (line : End Event) (base : ℕ)
    (rounds : List RecordedRound) (post : PostView)
    → post ≡ post_of me opening tape kept out in_ seen line base rounds → me ≡ q
    → IsOpening (post_of me opening tape kept out in_ seen line base rounds) → base ≡ floor
    → rounds ≡ [] → out ≡ row_at outs q → in_ ≡ row_at ins q → line ∷ [] ≡ row_at lines q
    → IsMade opening floor outs ins lines q post
made_of opening floor outs ins lines q me tape kept out in_ seen line base rounds post e em o ef er
    eo ei el = rw e (record {
      number = em;
      opened = refl;
      opens = o;
      begun =
          (ef, er);
      outs_are = eo;
      ins_are = ei;
      line_is = el;
    })

-- all of them, with the other ends of their report lines
pub opened_of : (opening : List Process) (floor capacity : ℕ) (outs ins : List (List (End Parcel)))
    (lines in_lines : List (List (End Event))) (posts : List PostView) (n : ℕ)
    (row : List (End Event)) (rest : List (List (End Event)))
    → n ≡ length opening → AreLinked n n outs ins → AreLinked n 1 lines in_lines
    → AreAllMade opening floor outs ins lines posts → in_lines ≡ row ∷ rest
    → HaveSlots n n capacity outs → HaveSlots n 1 capacity lines
    → AreOpened opening floor capacity posts row
opened_of opening floor capacity outs ins lines in_lines posts n row rest long l m made er so sl =
    let first : row_at in_lines 0 ≡ row = ap (λ t. row_at t 0) er in
    let ring : (i j : ℕ) (a b : PostView) → slice_get posts i ≡ Some a → slice_get posts j ≡ Some b
    → HasRing a b =
    λ i j a b ha hb.
    (let x = made.made i a ha in
    let y = made.made j b hb in
    ap (λ t. ring_at t b.number) x.outs_are
    ∙ (ap (ring_at (row_at outs i)) y.number
    ∙ (ap (option_map (λ (e : End Parcel). e.ring)) (l.linked i j)
    ∙ (ap (ring_at (row_at ins j)) (sym x.number) ∙ ap (λ t. ring_at t a.number) (sym y.ins_are)))))
    in
    record {
      count = made.count;
      order = λ p post at.
          ((made.made p post at).number, ap length ((made.made p post at).opened) ∙ sym made.count);
      rings = ring;
      each = λ p post at. ((made.made p post at).opens, (made.made p post at).opened);
      begun = λ p post at. (made.made p post at).begun;
      slots = λ p post at.
          let x = made.made p post at in
          let w = slice_get_within posts p post at in
          let c = made.count in
          let lt : p < n = omega (arith, w, c, long) in (
            λ q below. ap (λ t. slots_at t q) x.outs_are ∙ so p q lt
                (let e = ap length x.opened in omega (arith, below, e, long)),
            ap (λ t. slots_at t 0) x.line_is ∙ sl p 0 lt (omega arith),
          );
      line_count = ap length (sym first) ∙ (m.in_count 0 (omega arith) ∙ long);
      lined = λ p post at.
          let x = made.made p post at in
          ap (λ t. ring_at t 0) x.line_is
          ∙ (ap (option_map (λ (e : End Event). e.ring)) (m.linked p 0)
          ∙ (ap (λ t. ring_at t p) first ∙ ap (ring_at row) (sym x.number)));
      fresh = λ p. ap (λ t. items_at t p) (sym first) ∙
          (ap items_of (sym (m.linked p 0)) ∙ m.fresh p 0);
    }

-- nothing is kept where nothing was sent
pub no_replays_fresh : (n : ℕ) (kept : List (List (List Packet)))
    → kept ≡ replicate n (replicate n []) → AreAllReplays (replicate n fresh) kept
no_replays_fresh n kept e =
    let l = length-replicate n fresh in
    rw e (record {
      count = length-replicate n (replicate n []) ∙ sym l;
      each = λ q lt. (
          let below : q < n = omega (arith, lt, l) in
          let row : row_at (replicate n (replicate n [])) q
          ≡ replicate n [] = get_or-replicate n q (replicate n []) [] below in
          record {
            count = ap length row ∙ (length-replicate n [] ∙ sym l);
            each = λ p. ap (λ r. parcels_of (row_at r p)) row ∙
                (ap parcels_of (none n p) ∙ sym
                (ap (λ t. drop (length (received_from (replicate n fresh) q p)) (parcels_sent q 0
                t)) (tape_start n p) ∙ drop_none (length (received_from (replicate n fresh) q p))));
          });
    })
  where
    none : {X : Type 0} (n p : ℕ) → row_at {X = X} (replicate n []) p ≡ []
    none zero p = refl
    none (suc n) zero = refl
    none (suc n) (suc p) = none n p

-- the collector of a generation has the other ends of its report lines
pub opened_lined : (v : CollectorView) (opening processes : List Process) (marks : MarksView) (lines
    : List (End Event)) (seen : List (List Event)) (capacity floor : ℕ) (posts : List PostView)
    → v ≡ collector_of opening processes marks lines seen capacity
    → AreOpened opening floor capacity posts lines → IsGeneration posts × AreLined v posts
opened_lined v opening processes marks lines seen capacity floor posts e o = (
  λ i j a b ha hb. (
    (o.each i a ha).1 ∙ sym ((o.each j b hb).1),
    o.rings i j a b ha hb,
    o.rings j
        i b a hb ha,
  ),
  rw e (λ i post at. ((o.each i post at).1, o.lined i post at)),
)

pub opened_same : {capacity : ℕ} (h h' : List Process) (floor : ℕ) (posts : List PostView)
    (lines : List (End Event)) → h ≡ h' → AreOpened h floor capacity posts lines
    → AreOpened h' floor capacity posts lines
opened_same {capacity} h h' floor posts lines e o = subst
    (λ (t : List Process). AreOpened t floor capacity posts lines) e o
