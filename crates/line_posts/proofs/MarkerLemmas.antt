-- Markers on the rings, and that they keep what holds of a worker.
use Rattle.std.proofs.Common.{cond, zero, suc, ◌≡◌, ◌≢◌, ◌∙◌, ◌+◌, ◌<◌, ◌≤◌, ◌++◌, ◌∷◌, [], ℕ, true}
use Rattle.std.proofs.Common.{false, List, Option, Some, None, length, map, refl, sym, ap, inl, inr}
use Rattle.std.proofs.Common.{arith, subst, add-one}
use Rattle.std.specs.Prelude.{◌||◌, Contains}
use Rattle.std.specs.List.{filter_map}
use Rattle.std.proofs.lemmas.Bool.{cases_eq, eq-eqb, ne_eqb}
use Rattle.std.proofs.lemmas.List.{append-nil, length-map}
use Rattle.std.proofs.lemmas.Option.{same_Some}
use Rattle.std.specs.declared.alloc.Global.{Global}
use Rattle.rtrb.specs.declared.producer.Producer.{Producer}
use Rattle.line_posts.specs.Ends.{End, items_at, ring_at, row_at, with_item, with_items, out_ends}
use Rattle.line_posts.specs.Ends.{producer_end}
use Rattle.line_posts.proofs.EndLemmas.{length_item, items_same, items_other}
use Rattle.line_rounds.specs.Recording.{RecordedRound}
use Rattle.line_tape.specs.declared.events.Event.{Event}
use Rattle.line_tape.specs.declared.events.Event.TheVariants.{Check, Mark}
use Rattle.line_tape.specs.declared.items.Item.{Item}
use Rattle.line_tape.specs.declared.items.Item.TheVariants.{Marker as item_marker}
use Rattle.line_tape.specs.Fit.{item_received}
use Rattle.line_tape.specs.Rounds.{has_check_of, rounds_checked, is_check_of}
use Rattle.line_laws.proofs.CompletionLemmas.{contains_round}
use Rattle.line_laws.proofs.GrowthLemmas.{has_check_push}
use Rattle.line_posts.specs.declared.parcels.Parcel.{Parcel}
use Rattle.line_posts.specs.declared.parcels.Parcel.TheVariants.{Marker}
use Rattle.line_posts.specs.Parcels.{items_of_packets}
use Rattle.line_posts.specs.Posts.{IsPost, PostView}
use Rattle.line_posts.specs.Markers.{with_others}
use Rattle.line_posts.proofs.StepLemmas.{IsStep, stepped, post_step}

-- the first k of these ends, each after one more item
abbrev pub with_first : {T : Type 0} → List (End T) → ℕ → T → List (End T)
with_first [] k item = []
with_first (e ∷ es) zero item = e ∷ es
with_first (e ∷ es) (suc k) item = with_items e (item ∷ []) ∷ with_first es k item

-- the first k of these ends but the one at `me`
abbrev pub with_others_below : {T : Type 0} → List (End T) → ℕ → ℕ → T → List (End T)
with_others_below [] me k item = []
with_others_below (e ∷ es) me zero item = e ∷ es
with_others_below (e ∷ es) zero (suc k) item = e ∷ with_first es k item
with_others_below (e ∷ es) (suc me) (suc k) item =
    with_items e (item ∷ []) ∷ with_others_below es me k item

first_past : {T : Type 0} (es : List (End T)) (k : ℕ) (x : T) → length es ≤ k
    → with_first es k x ≡ map (λ (other : End T). with_items other (x ∷ [])) es
first_past [] k x le = refl
first_past (e ∷ es) zero x le = absurd (omega (arith, le))
first_past (e ∷ es) (suc k) x le =
    ap (λ t. with_items e (x ∷ []) ∷ t) (first_past es k x (omega (arith, le)))

-- all of them
pub below_past : {T : Type 0} (es : List (End T)) (me k : ℕ) (x : T) → length es ≤ k
    → with_others_below es me k x ≡ with_others es me x
below_past [] me k x le = refl
below_past (e ∷ es) zero zero x le = absurd (omega (arith, le))
below_past (e ∷ es) (suc me) zero x le = absurd (omega (arith, le))
below_past (e ∷ es) zero (suc k) x le = ap (λ t. e ∷ t) (first_past es k x (omega (arith, le)))
below_past (e ∷ es) (suc me) (suc k) x le =
    ap (λ t. with_items e (x ∷ []) ∷ t) (below_past es me k x (omega (arith, le)))

first_zero : {T : Type 0} (es : List (End T)) (x : T) → with_first es zero x ≡ es
first_zero [] x = refl
first_zero (e ∷ es) x = refl

pub below_zero : {T : Type 0} (es : List (End T)) (me : ℕ) (x : T)
    → with_others_below es me zero x ≡ es
below_zero [] me x = refl
below_zero (e ∷ es) zero x = refl
below_zero (e ∷ es) (suc me) x = refl

first_step : {T : Type 0} (es : List (End T)) (q : ℕ) (x : T) → q < length es
    → with_item (with_first es q x) q x ≡ with_first es (suc q) x
first_step [] q x lt = absurd (omega (arith, lt))
first_step (e ∷ es) zero x lt =
    ap (λ t. record e { items = e.items ++ x ∷ [] } ∷ t) (sym (first_zero es x))
first_step (e ∷ es) (suc q) x lt =
    ap (λ t. record e { items = e.items ++ x ∷ [] } ∷ t) (first_step es q x (omega (arith, lt)))

below_other : {T : Type 0} (es : List (End T)) (me q : ℕ) (x : T) → q < length es → (q ≡ me → ⊥)
    → with_item (with_others_below es me q x) q x ≡ with_others_below es me (suc q) x
below_other [] me q x lt ne = absurd (omega (arith, lt))
below_other (e ∷ es) zero zero x lt ne = absurd (ne refl)
below_other (e ∷ es) zero (suc q) x lt ne = ap (λ t. e ∷ t) (first_step es q x (omega (arith, lt)))
below_other (e ∷ es) (suc me) zero x lt ne =
    ap (λ t. record e { items = e.items ++ x ∷ [] } ∷ t) (sym (below_zero es me x))
below_other (e ∷ es) (suc me) (suc q) x lt ne = ap (λ t. record e { items = e.items ++ x ∷ [] } ∷ t)
    (below_other es me q x (omega (arith, lt)) (λ s. ne (ap suc s)))

below_own : {T : Type 0} (es : List (End T)) (me : ℕ) (x : T)
    → with_others_below es me me x ≡ with_others_below es me (suc me) x
below_own [] me x = refl
below_own (e ∷ es) zero x = ap (λ t. e ∷ t) (sym (first_zero es x))
below_own (e ∷ es) (suc me) x =
    ap (λ t. record e { items = e.items ++ x ∷ [] } ∷ t) (below_own es me x)

-- one ring further
pub below_more : {T : Type 0} (old now new : List (End T)) (me q : ℕ) (x : T)
    → now ≡ with_others_below old me q x → q < length old → (q ≡ me → new ≡ now)
    → ((q ≡ me → ⊥) → new ≡ with_item now q x)
    → new ≡ with_others_below old me (q + 1) x
below_more old now new me q x is lt own other = elim (cases_eq q me) [
  | inl same ↦ own same ∙
      (is ∙ (subst (λ v. with_others_below old me v x ≡ with_others_below old me (suc v) x)
      (sym same) (below_own old me x) ∙ ap (λ v. with_others_below old me v x) (sym (add-one q))))
  | inr apart ↦ other apart ∙ (ap (λ t. with_item t q x) is ∙
      (below_other old me q x lt apart ∙ ap (λ v. with_others_below old me v x) (sym (add-one q))))
]

length_first : {T : Type 0} (es : List (End T)) (k : ℕ) (x : T)
    → length (with_first es k x) ≡ length es
length_first [] k x = refl
length_first (e ∷ es) zero x = refl
length_first (e ∷ es) (suc k) x = ap suc (length_first es k x)

pub length_below : {T : Type 0} (es : List (End T)) (me k : ℕ) (x : T)
    → length (with_others_below es me k x) ≡ length es
length_below [] me k x = refl
length_below (e ∷ es) zero zero x = refl
length_below (e ∷ es) (suc me) zero x = refl
length_below (e ∷ es) zero (suc k) x = ap suc (length_first es k x)
length_below (e ∷ es) (suc me) (suc k) x = ap suc (length_below es me k x)

pub long_below : {T P : Type 0} (old new : List (Producer T Global P)) (me q : ℕ) (x : T)
    → out_ends new ≡ with_others_below (out_ends old) me q x → length new ≡ length old
long_below old new me q x e = sym (length-map new producer_end) ∙
    (ap length e ∙ (length_below (out_ends old) me q x ∙ length-map old producer_end))

-- the other rings have the item, and all rings stay
items_first : {T : Type 0} (es : List (End T)) (k q : ℕ) (x : T) → q < length es → q < k
    → items_at (with_first es k x) q ≡ items_at es q ++ x ∷ []
items_first [] k q x lt less = absurd (omega (arith, lt))
items_first (e ∷ es) zero q x lt less = absurd (omega (arith, less))
items_first (e ∷ es) (suc k) zero x lt less = refl
items_first (e ∷ es) (suc k) (suc q) x lt less =
    items_first es k q x (omega (arith, lt)) (omega (arith, less))

items_below : {T : Type 0} (es : List (End T)) (me k q : ℕ) (x : T) → q < length es → q < k
    → (q ≡ me → ⊥) → items_at (with_others_below es me k x) q ≡ items_at es q ++ x ∷ []
items_below [] me k q x lt less ne = absurd (omega (arith, lt))
items_below (e ∷ es) me zero q x lt less ne = absurd (omega (arith, less))
items_below (e ∷ es) zero (suc k) zero x lt less ne = absurd (ne refl)
items_below (e ∷ es) zero (suc k) (suc q) x lt less ne =
    items_first es k q x (omega (arith, lt)) (omega (arith, less))
items_below (e ∷ es) (suc me) (suc k) zero x lt less ne = refl
items_below (e ∷ es) (suc me) (suc k) (suc q) x lt less ne =
    items_below es me k q x (omega (arith, lt)) (omega (arith, less)) (λ s. ne (ap suc s))

pub items_others : {T : Type 0} (es : List (End T)) (me q : ℕ) (x : T) → q < length es
    → (q ≡ me → ⊥) → items_at (with_others es me x) q ≡ items_at es q ++ x ∷ []
items_others es me q x lt ne = ap (λ t. items_at t q) (sym
    (below_past es me (length es) x (omega arith))) ∙ items_below es me (length es) q x lt lt ne

ring_first : {T : Type 0} (es : List (End T)) (k q : ℕ) (x : T)
    → ring_at (with_first es k x) q ≡ ring_at es q
ring_first [] k q x = refl
ring_first (e ∷ es) zero q x = refl
ring_first (e ∷ es) (suc k) zero x = refl
ring_first (e ∷ es) (suc k) (suc q) x = ring_first es k q x

ring_below : {T : Type 0} (es : List (End T)) (me k q : ℕ) (x : T)
    → ring_at (with_others_below es me k x) q ≡ ring_at es q
ring_below [] me k q x = refl
ring_below (e ∷ es) zero zero q x = refl
ring_below (e ∷ es) (suc me) zero q x = refl
ring_below (e ∷ es) zero (suc k) zero x = refl
ring_below (e ∷ es) zero (suc k) (suc q) x = ring_first es k q x
ring_below (e ∷ es) (suc me) (suc k) zero x = refl
ring_below (e ∷ es) (suc me) (suc k) (suc q) x = ring_below es me k q x

pub ring_others : {T : Type 0} (es : List (End T)) (me q : ℕ) (x : T)
    → ring_at (with_others es me x) q ≡ ring_at es q
ring_others es me q x = ap (λ t. ring_at t q)
    (sym (below_past es me (length es) x (omega arith))) ∙ ring_below es me (length es) q x

-- what the marker of process `from` takes from p
mark_here : (p from r : ℕ) → p ≡ from
    → filter_map (item_received p) (Mark from r ∷ []) ≡ item_marker r ∷ []
mark_here p from r e = ap (λ b. filter_map (λ (o : Option Item). o)
    (cond b (Some (item_marker r)) None ∷ [])) (eq-eqb from p (sym e))

mark_apart : (p from r : ℕ) → (p ≡ from → ⊥) → filter_map (item_received p) (Mark from r ∷ []) ≡ []
mark_apart p from r ne = ap (λ b. filter_map (λ (o : Option Item). o)
    (cond b (Some (item_marker r)) None ∷ [])) (ne_eqb from p (λ e. ne (sym e)))

-- a check of a round
pub check_step : (post : PostView) (state : List ℕ) (r : ℕ) → IsPost post
    → has_check_of r post.tape ≡ false
    → IsStep post (Check state (Some r)) post.kept
    (with_others post.outs post.number (Marker r)) post.ins
check_step post state r h none =
    let c = h.out_count in
    record {
      out_count = ap length (sym (below_past post.outs post.number (length post.outs) (Marker r)
          (omega arith))) ∙ length_below post.outs post.number (length post.outs) (Marker r);
      in_count = refl;
      kept_count = refl;
      put = λ q within other. items_others post.outs post.number q (Marker r)
          (omega (arith, within, c)) other;
      got = λ p. (
        [],
        sym (append-nil (items_at post.ins p)),
        append-nil
            (items_of_packets p (row_at post.kept p)),
      );
      replays = h.replays;
      alone = h.alone;
      named = tt;
      present = λ inc e. cc e;
      rounds = λ s e. subst (λ v. has_check_of v post.tape ≡ false) (same_Some r s e) none;
      marks = λ f s e. cc e;
    }

-- the marker of a round from a ring
pub mark_step : (post : PostView) (from r : ℕ) → IsPost post → from < length post.opening
    → from ≢ post.number → row_at post.kept from ≡ [] → has_check_of r post.tape ≡ true
    → IsStep post (Mark from r) post.kept post.outs (with_item post.ins from (Marker r))
mark_step post from r h lt ne bare checked =
    let c = h.in_count in
    record {
      out_count = refl;
      in_count = length_item post.ins from (Marker r);
      kept_count = refl;
      put = λ q within other. sym (append-nil (items_at post.outs q));
      got = λ p. elim (cases_eq p from) [
        | inl e ↦ (
          Marker r ∷ [],
          items_same post.ins from p (Marker r) (omega (arith, lt, c)) e,
          ap (λ t. items_of_packets p t ++ item_marker r ∷ []) (ap (row_at post.kept) e ∙ bare)
              ∙ (sym (append-nil (item_marker r ∷ []))
              ∙ (ap (λ t. (item_marker r ∷ []) ++ items_of_packets p t)
              (sym (ap (row_at post.kept) e ∙ bare))
              ∙ ap (λ t. t ++ items_of_packets p (row_at post.kept p))
              (sym (mark_here p from r e)))),
        )
        | inr apart ↦ (
          [],
          items_other post.ins from p (Marker r) apart ∙ sym (append-nil (items_at post.ins p)),
          append-nil (items_of_packets p (row_at post.kept p)) ∙ ap
              (λ t. t ++ items_of_packets p (row_at post.kept p)) (sym (mark_apart p from r apart)),
        )
      ];
      replays = λ p. elim (cases_eq p from) [
        | inl e ↦ inl (ap (row_at post.kept) e ∙ bare)
        | inr apart ↦ elim (h.replays p) [
          | inl none ↦ inl none
          | inr none ↦ inr
              (items_other post.ins from p (Marker r) apart ∙ none)
        ]
      ];
      alone = items_other post.ins from post.number (Marker r) (λ e. ne (sym e)) ∙ h.alone;
      named = lt;
      present = λ inc e. cc e;
      rounds = λ s e. cc e;
      marks = λ f s e. (let same : r ≡ s = cc e in subst
          (λ v. Contains (rounds_checked post.tape) v) same (contains_round post.tape r checked));
    }

pub check_keeps : (post : PostView) (state : List ℕ) (r : ℕ) (tape : List Event)
    (outs : List (End Parcel)) (floor : ℕ) (rounds : List RecordedRound) → IsPost post
    → has_check_of r post.tape ≡ false
    → tape ≡ post.tape ++ Check state (Some r) ∷ []
    → outs ≡ with_others post.outs post.number (Marker r)
    → IsPost (record post { tape = tape; outs = outs; floor = floor; rounds = rounds })
check_keeps post state r tape outs floor rounds h none et eo =
    rw (et, eo) (post_step post _ _ _ _ floor rounds h (check_step post state r h none))

pub mark_keeps : (post : PostView) (from r : ℕ) (tape : List Event) (ins : List (End Parcel))
    (floor : ℕ) (rounds : List RecordedRound) → IsPost post → from < length post.opening
    → from ≢ post.number
    → row_at post.kept from ≡ [] → has_check_of r post.tape ≡ true
    → tape ≡ post.tape ++ Mark from r ∷ [] → ins ≡ with_item post.ins from (Marker r)
    → IsPost (record post { tape = tape; ins = ins; floor = floor; rounds = rounds })
mark_keeps post from r tape ins floor rounds h lt ne bare checked et ei =
    rw (et, ei) (post_step post _ _ _ _ floor rounds h (mark_step post from r h lt ne bare checked))

-- the check first, and then the marker that forced it
pub force_keeps : (post : PostView) (from r : ℕ) (state : List ℕ) (tape : List Event)
    (outs ins : List (End Parcel)) (floor : ℕ) (rounds : List RecordedRound) → IsPost post
    → from < length post.opening → from ≢ post.number
    → row_at post.kept from ≡ [] → has_check_of r post.tape ≡ false
    → tape ≡ (post.tape ++ Check state (Some r) ∷ []) ++ Mark from r ∷ []
    → outs ≡ with_others post.outs post.number (Marker r) → ins ≡ with_item post.ins from (Marker r)
    → IsPost (record post
    { tape = tape; outs = outs; ins = ins; floor = floor; rounds = rounds })
force_keeps post from r state tape outs ins floor rounds h lt ne bare none et eo ei =
    let e : Event = Check state (Some r) in
    let first : PostView = stepped post e post.kept
    (with_others post.outs post.number (Marker r)) post.ins post.floor post.rounds in
    let kept : IsPost first = post_step post e post.kept (with_others post.outs post.number
    (Marker r)) post.ins post.floor post.rounds h (check_step post state r h none) in
    let checked : has_check_of r first.tape ≡ true = has_check_push post.tape e r ∙
    (ap (λ b. b || is_check_of r e) none ∙ eq-eqb r r refl) in
    rw (et, eo, ei)
    (post_step first (Mark from r) post.kept (with_others post.outs post.number (Marker r))
    (with_item post.ins from (Marker r)) floor rounds kept
    (mark_step first from r kept lt ne bare checked))
