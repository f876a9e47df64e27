-- Workers that come back with their rings are of the generation that they were of.
use Rattle.std.proofs.Common.{cond, Bool, true, false, ◌≡◌, ◌∙◌, ◌++◌, ◌∷◌, [], ◌+◌, ℕ, List, Some}
use Rattle.std.proofs.Common.{get_or, refl, sym, ap, inl, inr, arith, subst}
use Rattle.std.specs.Prelude.{Result, Ok, Err, IfOk, IfErr, OnErr}
use Rattle.std.proofs.lemmas.List.{length_push}
use Rattle.line_tape.proofs.ListLemmas.{slice_get_push}
use Rattle.std.proofs.lemmas.Option.{slice_get_within, slice_get-get_or}
use Rattle.line_names.specs.declared.messages.MsgName.{MsgName}
use Rattle.line_posts.specs.Ends.{ring_at}
use Rattle.line_posts.proofs.EndLemmas.{ring_item}
use Rattle.line_posts.specs.Receipts.{HasOnlySeen, HasReceived, HasTaken}
use Rattle.line_posts.specs.Markers.{checked_by, marked_by}
use Rattle.line_posts.specs.declared.parcels.Parcel.{Parcel}
use Rattle.line_posts.specs.declared.receiving.Received.{Received}
use Rattle.line_posts.specs.declared.receiving.Received.TheVariants.{Message, Marked}
use Rattle.line_posts.proofs.MarkerLemmas.{ring_others}
use Rattle.line_posts.specs.Posts.{sent_by, PostView}
use Rattle.line_posts.specs.Collected.{CollectorView, HasCollectedMore, HasForgotten}
use Rattle.line_posts.specs.Generations.{AreLined, AreLinkedTwo, AreSamePosts, IsGeneration}
use Rattle.line_posts.specs.Generations.{IsSamePost}

pub same_self : (post : PostView) → IsSamePost post post
same_self post =
    record { number = refl; opening = refl; outs = λ q. refl; ins = λ p. refl; line = refl }

pub same_then : (a b c : PostView) → IsSamePost a b → IsSamePost b c → IsSamePost a c
same_then a b c h k = record {
  number = k.number ∙ h.number;
  opening = k.opening ∙ h.opening;
  outs =
      λ q. k.outs q ∙ h.outs q;
  ins = λ p. k.ins p ∙ h.ins p;
  line = k.line ∙ h.line;
}

pub same_via : (inside now new : PostView) → inside ≡ now → IsSamePost inside new
    → IsSamePost now new
same_via inside now new e h = subst (λ (v : PostView). IsSamePost v new) e h

pub same_from : (a b : PostView) → b ≡ a → IsSamePost a b
same_from a b e = rw e (same_self a)

pub same_sent : (a b : PostView) (to : ℕ) (body : List ℕ) → b ≡ sent_by a to body → IsSamePost a b
same_sent a b to body e = rw e (record {
  number = refl;
  opening = refl;
  outs = λ q. ring_item a.outs
      to q _;
  ins = λ p. refl;
  line = refl;
})

pub same_taken : (a b : PostView) (name : MsgName) (body : List ℕ) → HasTaken a name body b
    → IsSamePost a b
same_taken a b name body (e, from) = record {
  number = ap (λ (v : PostView). v.number) e;
  opening = ap (λ (v : PostView). v.opening) e;
  outs = λ q. ap (λ (v : PostView). ring_at v.outs q) e;
  ins = elim from [
    | inl replay ↦ λ p. ap (λ t. ring_at t p) replay.2
    | inr next ↦ λ p. ap (λ t. ring_at t p) next.2 ∙ ring_item a.ins name.from p _
  ];
  line = ap (λ (v : PostView). v.line.ring) e;
}

pub same_seen : (a b : PostView) → HasOnlySeen a b → IsSamePost a b
same_seen a b e = record {
  number = ap (λ (v : PostView). v.number) e;
  opening = ap (λ (v : PostView). v.opening) e;
  outs = λ q. ap (λ (v : PostView). ring_at v.outs q) e;
  ins = λ p. ap (λ (v : PostView). ring_at v.ins p) e;
  line = ap (λ (v : PostView). v.line.ring) e;
}

same_two : (a a' b b' : PostView) → IsSamePost a a' → IsSamePost b b' → AreLinkedTwo a b
    → AreLinkedTwo a' b'
same_two a a' b b' ha hb l =
    let P : ℕ → ℕ → Type 0 = λ x y. ring_at a.outs y ≡ ring_at b.ins x in (
      ha.opening ∙ (l.0 ∙ sym hb.opening),
      ha.outs b'.number ∙ (ap (ring_at a.outs) hb.number ∙
          (l.1 ∙ (ap (ring_at b.ins) (sym ha.number) ∙ sym (hb.ins a'.number)))),
      hb.outs a'.number ∙ (ap (ring_at b.outs) ha.number ∙
          (l.2 ∙ (ap (ring_at a.ins) (sym hb.number) ∙ sym (ha.ins b'.number)))),
    )

pub generation_kept : (old new : List PostView) → AreSamePosts old new → IsGeneration old
    → IsGeneration new
generation_kept old new s gen i j a b hi hj =
    let c = s.count in
    let wi = slice_get_within new i a hi in
    let wj = slice_get_within new j b hj in
    let ai = get_or old i a in
    let bj = get_or old j b in
    let oi = slice_get-get_or old i a (omega (arith, wi, c)) in
    let oj = slice_get-get_or old j b (omega (arith, wj, c)) in
    same_two ai a bj b (s.each i ai a oi hi) (s.each j bj b oj hj) (gen i j ai bj oi oj)

pub same_checked : (a : PostView) (state : List ℕ) (round : ℕ)
    → IsSamePost a (checked_by a state round)
same_checked a state round = record {
  number = refl;
  opening = refl;
  outs = λ q. ring_others a.outs
      a.number q _;
  ins = λ p. refl;
  line = refl;
}

same_marked : (a : PostView) (from round : ℕ) → IsSamePost a (marked_by a from round)
same_marked a from round = record {
  number = refl;
  opening = refl;
  outs = λ q. refl;
  ins = λ p.
      ring_item a.ins from p _;
  line = refl;
}

same_forced : (a : PostView) (from round : ℕ) (state : List ℕ) (forced : Bool)
    → IsSamePost a (marked_by (cond forced (checked_by a state round) a) from round)
same_forced a from round state true = same_then a (checked_by a state round) _
    (same_checked a state round) (same_marked (checked_by a state round) from round)
same_forced a from round state false = same_marked a from round

pub same_received : (x : Received) (a b : PostView) (from : ℕ) (state : List ℕ)
    → HasReceived a from state x b → IsSamePost a b
same_received (Message name body) a b from state h = same_taken a b name body h.1
same_received (Marked round forced) a b from state h =
    same_then a (marked_by (cond forced (checked_by a state round) a) from round) b
    (same_forced a from round state forced)
    (same_seen (marked_by (cond forced (checked_by a state round) a) from round) b h.new_is)

pub same_if_taken : {E : Type 0} (r : Result Received E) (a b : PostView) (from : ℕ) (state : List
    ℕ) → IfOk r (λ x. HasReceived a from state x b) → OnErr r (HasOnlySeen a b) → IsSamePost a b
same_if_taken (Ok x) a b from state h k = same_received x a b from state h
same_if_taken (Err e) a b from state h k = same_seen a b k

pub same_push : (xs ys : List PostView) (x y : PostView) → AreSamePosts xs ys → IsSamePost x y
    → AreSamePosts (xs ++ x ∷ []) (ys ++ y ∷ [])
same_push xs ys x y s h = record {
  count = length_push ys y ∙ (ap (λ t. t + 1) s.count ∙ sym (length_push xs x));
  each = λ i a b ha hb. elim (slice_get_push xs x a i ha) [
    | inl (li, ra) ↦ elim (slice_get_push ys y b i hb) [
      | inl (lj, rb) ↦ s.each i a b ra rb
      | inr (ej, e) ↦ (let c = s.count in absurd (omega (arith, li, ej, c)))
    ]
    | inr (ei, d) ↦ elim (slice_get_push ys y b i hb) [
      | inl (lj, rb) ↦ (let c = s.count in absurd (omega (arith, lj, ei, c)))
      | inr (ej, e) ↦ subst (λ t. IsSamePost a t) e (subst (λ t. IsSamePost t y) d h)
    ]
  ];
}

pub same_moved : (a xs ys b : List PostView) (x y : PostView) → a ≡ xs ++ x ∷ [] → b ≡ ys ++ y ∷ []
    → AreSamePosts xs ys → IsSamePost x y → AreSamePosts a b
same_moved a xs ys b x y ea eb s h = rw (ea, eb) (same_push xs ys x y s h)

pub lined_kept : (collector : CollectorView) (old new : List PostView) → AreSamePosts old new
    → AreLined collector old → AreLined collector new
lined_kept collector old new s lined i b hb =
    let c = s.count in
    let w = slice_get_within new i b hb in
    let a = get_or old i b in
    let ha = slice_get-get_or old i b (omega (arith, w, c)) in
    let h = s.each i a b ha hb in
    let l = lined i a ha in
    (h.opening ∙ l.0, ap (λ r. Some r) h.line ∙ (l.1 ∙ ap (ring_at collector.lines) (sym h.number)))

-- reports that were taken leave the lines as they are
lined_more : (collector later : CollectorView) (posts : List PostView)
    → HasCollectedMore collector later → AreLined collector posts → AreLined later posts
lined_more collector later posts h lined i post at =
    (let l = lined i post at in (l.0 ∙ sym h.opening, l.1 ∙ sym (h.rings post.number)))

pub lined_last : (collector later : CollectorView) (old new : List PostView) → HasCollectedMore
    collector later → AreSamePosts old new → AreLined collector old → AreLined later new
lined_last collector later old new h s lined =
    lined_more collector later new h (lined_kept collector old new s lined)

-- a collector that let something go has the ends that it had
pub lined_forgotten : (collector later : CollectorView) (posts : List PostView)
    → HasForgotten collector later → AreLined collector posts → AreLined later posts
lined_forgotten collector later posts h lined =
    subst (λ (v : CollectorView). AreLined v posts) (sym h.new_is) lined

pub same_posts_then : (a b c : List PostView) → AreSamePosts a b → AreSamePosts b c
    → AreSamePosts a c
same_posts_then a b c h k = record {
  count = k.count ∙ h.count;
  each = λ i x z hx hz.
      let n = h.count in
      let w = slice_get_within a i x hx in
      let y = get_or b i x in
      let hy = slice_get-get_or b i x (omega (arith, w, n)) in
      same_then x y z (h.each i x y hx hy) (k.each i y z hy hz);
}

-- a replay that was taken, whatever state was handed in
pub same_if_replayed : {E : Type 0} (r : Result Received E) (a b : PostView) (from : ℕ)
    → IfOk r (λ x. (state : List ℕ) → HasReceived a from state x b) → OnErr r (b ≡ a)
    → IsSamePost a b
same_if_replayed (Ok x) a b from h k = same_received x a b from [] (h [])
same_if_replayed (Err e) a b from h k = same_from a b k

pub if_err_given : {T E : Type 0} (r : Result T E) (A : List ℕ → Type 0)
    (P : E → List ℕ → List Parcel → Type 0)
    (state : List ℕ) (shown : List Parcel) → A state → IfErr r
    (λ e. (s : List ℕ) → A s → (xs : List Parcel) → P e s xs) → IfErr r (λ e. P e state shown)
if_err_given (Ok x) A P state shown a h = tt
if_err_given (Err e) A P state shown a h = h state a shown
