-- Workers that do their scripts.
use Rattle.std.proofs.Common.{zero, suc, ◌≡◌, ◌∙◌, ◌+◌, ◌<◌, ◌≤◌, ◌++◌, ◌∷◌, [], ℕ, List, Some}
use Rattle.std.proofs.Common.{length, take, get_or, replicate, refl, sym, ap, inl, inr, arith}
use Rattle.std.proofs.Common.{subst}
use Rattle.std.specs.Prelude.{slice_get, option_map, Bool, false, Result, Ok, Err, OnOk}
use Rattle.std.specs.declared.vec.Vec.{Vec}
use Rattle.std.specs.declared.alloc.Global.{Global}
use Rattle.std.proofs.lemmas.Bool.{cases_lt}
use Rattle.std.proofs.lemmas.List.{append-nil, append_assoc, length-append, length_push}
use Rattle.std.proofs.lemmas.List.{get_or_past}
use Rattle.std.proofs.lemmas.Option.{slice_get-map, get_or_from_slice_get, slice_get-get_or}
use Rattle.line_names.specs.Sets.{is_member}
use Rattle.line_names.specs.declared.messages.MsgName.{MsgName}
use Rattle.line_tape.specs.declared.events.Event.{Event}
use Rattle.line_tape.specs.declared.events.Event.TheVariants.{Send as SendEvent, Recv}
use Rattle.line_tape.specs.Fit.{IsFitFifo}
use Rattle.line_tape.specs.History.{Process, fresh, tape_at, incarnation_at}
use Rattle.line_tape.proofs.ListLemmas.{slice_get_push}
use Rattle.line_tape.proofs.EventLemmas.{tape_start}
use Rattle.line_posts.specs.Gathered.{AreGathered, gathered_tape}
use Rattle.line_posts.specs.Generations.{own_history, AreSamePosts, IsSamePost}
use Rattle.line_rounds.specs.Recording.{latest, RecordedRound}
use Rattle.line_posts.specs.Markers.{recorded_by}
use Rattle.line_posts.specs.Openings.{HasBegun, IsOpening}
use Rattle.line_posts.specs.Posts.{PostView, incarnation_of_post, sent_by}
use Rattle.line_posts.specs.Receipts.{HasTaken}
use Rattle.line_posts.proofs.GatherLemmas.{own_tape, own_past, in_list, tape_past}
use Rattle.line_posts.proofs.MeetLemmas.{there}
use Rattle.line_posts.proofs.SameLemmas.{same_self, same_then, same_sent, same_taken}
use Rattle.line_posts.proofs.ReplayLemmas.{take_next}
use Rattle.line_posts.proofs.WholeLemmas.{incarnation_start}
use Rattle.line_workers.specs.declared.orders.Order.{Order}
use Rattle.line_workers.specs.declared.orders.Order.TheVariants.{Send, Receive}
use Rattle.line_workers.specs.Followed.{AreDrilled, Follows, HasDone, HasReceivedFrom}
use Rattle.line_workers.specs.Scripts.{script_at, scripts_of, IsScripted}
use Rattle.line_workers.proofs.ScriptLemmas.{scripted}

follows_append : (inc : ℕ) (xs ys : List Order) (s t : List Event) → Follows inc xs s
    → Follows inc ys t → Follows inc (xs ++ ys) (s ++ t)
follows_append inc [] ys [] t h k = k
follows_append inc [] ys (e ∷ s) t h k = absurd h
follows_append inc (x ∷ xs) ys [] t h k = absurd h
follows_append inc (x ∷ xs) ys (e ∷ s) t h k = (h.0, follows_append inc xs ys s t h.1 k)

follows_long : (inc : ℕ) (xs : List Order) (es : List Event) → Follows inc xs es
    → length xs ≡ length es
follows_long inc [] [] h = refl
follows_long inc [] (e ∷ es) h = absurd h
follows_long inc (x ∷ xs) [] h = absurd h
follows_long inc (x ∷ xs) (e ∷ es) h = ap suc (follows_long inc xs es h.1)

-- a tape has an event for each order that was done
pub done_events : (xs : List Order) (a b : PostView) → HasDone xs a b
    → length b.tape ≡ length a.tape + length xs
done_events xs a b (s, r, d, ed, fd) =
    let long = follows_long (incarnation_of_post a) xs d fd in
    let all = ap length ed ∙ length-append a.tape d in
    omega (arith, long, all)

pub done_long : (xs : List Order) (a b : PostView) → HasDone xs a b → length xs ≤ length b.tape
done_long xs a b h = (let e = done_events xs a b h in omega (arith, e))

inc_same : (a b : PostView) → IsSamePost a b → incarnation_of_post b ≡ incarnation_of_post a
inc_same a b s =
    ap (incarnation_at b.opening) s.number ∙ ap (λ o. incarnation_at o a.number) s.opening

-- no order
pub done_none : (a : PostView) → HasDone [] a a
done_none a = (same_self a, λ f h. h, [], sym (append-nil a.tape), tt)

pub done_then : (xs ys : List Order) (a b c : PostView) → HasDone xs a b → HasDone ys b c
    → HasDone (xs ++ ys) a c
done_then xs ys a b c (s, r, d, ed, fd) (t, q, e, ee, fe) = (
  same_then a b c s t,
  λ f h. q f (r f h),
  d ++ e,
  ee ∙ (ap (λ x. x ++ e) ed ∙ append_assoc a.tape d e),
  follows_append (incarnation_of_post a) xs ys d e fd
      (subst (λ i. Follows i ys e) (inc_same a b s) fe),
)

begun_same : (a b : PostView) → b.floor ≡ a.floor → b.rounds ≡ a.rounds → (f : ℕ) → HasBegun f a
    → HasBegun f b
begun_same a b floor rounds f h = (floor ∙ h.0, rounds ∙ h.1)

pub done_sent : (a b : PostView) (to : ℕ) (body : List ℕ) → b ≡ sent_by a to body
    → HasDone (Send to body ∷ []) a b
done_sent a b to body e = (
  same_sent a b to body e,
  begun_same a b (ap (λ (v : PostView). v.floor) e)
      (ap (λ (v : PostView). v.rounds) e),
  SendEvent to (incarnation_of_post a) body
      ∷ [],
  ap (λ (v : PostView). v.tape) e,
  (refl, tt),
)

taken_tape : (a b : PostView) (name : MsgName) (body : List ℕ) → HasTaken a name body b
    → b.tape ≡ a.tape ++ Recv name ∷ []
taken_tape a b name body (e, way) = ap (λ (v : PostView). v.tape) e

taken_begun : (a b : PostView) (name : MsgName) (body : List ℕ) → HasTaken a name body b → (f : ℕ)
    → HasBegun f a → HasBegun f b
taken_begun a b name body (e, way) f (floor, rounds) = (
  ap (λ (v : PostView). v.floor) e ∙ floor,
  ap (λ (v : PostView). v.rounds) e ∙ ap
      (λ (r : List RecordedRound). recorded_by (record a { rounds = r }) (Recv name)) rounds,
)

pub done_taken : (a b : PostView) (from : ℕ) → HasReceivedFrom a from b
    → HasDone (Receive from ∷ []) a b
done_taken a b from (name, body, f, t) = (
  same_taken a b name body t,
  taken_begun a b name body t,
  Recv name ∷ [],
  taken_tape a b name body t,
  ((name, f, refl), tt),
)

pub drilled_push : (scripts : List (List Order)) (xs ys : List PostView) (x y : PostView)
    → AreDrilled scripts xs ys → HasDone (script_at scripts (length xs)) x y
    → AreDrilled scripts (xs ++ x ∷ []) (ys ++ y ∷ [])
drilled_push scripts xs ys x y s h = record {
  count = length_push ys y ∙ (ap (λ t. t + 1) s.count ∙ sym (length_push xs x));
  each = λ i a b ha hb. elim (slice_get_push xs x a i ha) [
    | inl (li, ra) ↦ elim (slice_get_push ys y b i hb) [
      | inl (lj, rb) ↦ s.each i a b ra rb
      | inr (ej, e) ↦ (let c = s.count in absurd (omega (arith, li, ej, c)))
    ]
    | inr (ei, d) ↦ elim (slice_get_push ys y b i hb) [
      | inl (lj, rb) ↦ (let c = s.count in absurd (omega (arith, lj, ei, c)))
      | inr (ej, e) ↦ subst (λ n. HasDone (script_at scripts n) a b) (sym ei)
          (subst (λ t. HasDone (script_at scripts (length xs)) a t) e
          (subst (λ t. HasDone (script_at scripts (length xs)) t y) d h))
    ]
  ];
}

pub drilled_more : (scripts : List (List Order)) (a xs ys b : List PostView) (x y : PostView)
    (script : List Order) → a ≡ xs ++ x ∷ [] → b ≡ ys ++ y ∷ [] → script_at scripts (length xs)
    ≡ script → AreDrilled scripts xs ys → HasDone script x y → AreDrilled scripts a b
drilled_more scripts a xs ys b x y script ea eb es s h =
    rw (ea, eb) (drilled_push scripts xs ys x y s (subst (λ o. HasDone o x y) (sym es) h))

pub script_there : (scripts : List (Vec Order Global)) (i : ℕ) (script : Vec Order Global)
    → slice_get scripts i ≡ Some script → script_at (scripts_of scripts) i ≡ script.items
script_there scripts i script at = get_or_from_slice_get (scripts_of scripts) i script.items []
    (slice_get-map (λ s. s.items) scripts i ∙ ap (option_map (λ s. s.items)) at)

pub there_at : (scripts : List (Vec Order Global)) (i : ℕ) (script : Vec Order Global) → i < length
    scripts → script ≡ get_or scripts i script → script_at (scripts_of scripts) i ≡ script.items
there_at scripts i script within is =
    script_there scripts i script (there scripts scripts i script refl within is)

-- the script at the place of the last worker
pub own_script : (scripts : List (Vec Order Global)) (a xs : List PostView) (x : PostView) (k : ℕ)
    (script : Vec Order Global) → a ≡ xs ++ x ∷ [] → length a ≤ length scripts → length xs ≡ k
    → script ≡ get_or scripts k script → script_at (scripts_of scripts) (length xs) ≡ script.items
own_script scripts a xs x k script is few place got =
    let more = ap length is ∙ length_push xs x in
    ap (script_at (scripts_of scripts)) place ∙ there_at scripts k script
    (omega (arith, few, more, place)) got

pub drilled_same : (scripts : List (List Order)) (old new : List PostView)
    → AreDrilled scripts old new → AreSamePosts old new
drilled_same scripts old new h =
    record { count = h.count; each = λ i a b ha hb. (h.each i a b ha hb).0 }

-- the workers of a first generation
abbrev pub AreFirst : ℕ → List PostView → Type 0
AreFirst n posts = (p : ℕ) (post : PostView) → slice_get posts p ≡ Some post
    → IsOpening post × (post.opening ≡ replicate n fresh)

-- a worker that began with nothing has the tape of its script
pub follows_all : (scripts : List (List Order)) (n : ℕ) (old new : List PostView) → AreFirst n old
    → AreDrilled scripts old new → length scripts ≡ length old
    → (p : ℕ) → Follows 0 (script_at scripts p) (tape_at (own_history new) p)
follows_all scripts n old new opened drilled long p = elim (cases_lt p (length new)) [
  | inl lt ↦
      let (b, hb) = in_list new p lt in
      let c = drilled.count in
      let a = get_or old p b in
      let ha = slice_get-get_or old p b (omega (arith, lt, c)) in
      let (same, rounds, done, is, follows) = drilled.each p a b ha hb in
      let (o, first) = opened p a ha in
      let bare : a.tape
      ≡ [] = o.tape ∙ (ap (λ h. tape_at h a.number) first ∙ tape_start n a.number) in
      let inc : incarnation_of_post a
      ≡ 0 = ap (λ h. incarnation_at h a.number) first ∙ incarnation_start n a.number in
      subst (Follows 0 (script_at scripts p)) (sym (own_tape new p b hb ∙ (is ∙ ap
      (λ t. t ++ done) bare))) (subst (λ i. Follows i (script_at scripts p) done) inc follows)
  | inr past ↦
      let c = drilled.count in
      subst (Follows 0 (script_at scripts p)) (sym (own_past new p past)) (subst
      (λ s. Follows 0 s []) (sym (get_or_past scripts p [] (omega (arith, past, c, long)))) tt)
]

-- with nobody failed what is gathered are the own tapes
pub gathered_all : (failed : List Bool) (posts : List PostView) (gathered : List Process)
    → AreGathered failed posts gathered → ((q : ℕ) → is_member failed q ≡ false) → (p : ℕ)
    → tape_at gathered p ≡ tape_at (own_history posts) p
gathered_all failed posts gathered h none p = elim (cases_lt p (length posts)) [
  | inl lt ↦ (let (post, at) = in_list posts p lt in ap (λ (t : Process). t.tape) (h.each p post at)
      ∙ (ap (λ b. gathered_tape b post) (none p) ∙ sym (own_tape posts p post at)))
  | inr past ↦ (let c = h.count in tape_past gathered p (omega (arith, past, c)) ∙ sym
      (own_past posts p past))
]

pub drill_makes : (scripts : List (List Order)) (n : ℕ) (old new : List PostView)
    (failed : List Bool) (gathered : List Process)
    → AreFirst n old → AreDrilled scripts old new → length scripts ≡ length old → IsFitFifo
    (own_history new) → AreGathered failed new gathered → ((q : ℕ) → is_member failed q ≡ false)
    → (q : ℕ) → IsScripted scripts q (tape_at gathered q)
drill_makes scripts n old new failed gathered opened drilled long fit h none q =
    subst (IsScripted scripts q) (sym (gathered_all failed new gathered h none q)) (scripted scripts
    (own_history new) fit (follows_all scripts n old new opened drilled long) q)

pub on_ok_done : {T E : Type 0} (r : Result T E) (P Q : Type 0) → (P → Q) → OnOk r P → OnOk r Q
on_ok_done (Ok x) P Q f h = f h
on_ok_done (Err e) P Q f h = tt

-- one order further
pub done_order : (script : List Order) (k : ℕ) (order : Order) (a b c : PostView)
    → slice_get script k ≡ Some order → HasDone (take k script) a b → HasDone (order ∷ []) b c
    → HasDone (take (k + 1) script) a c
done_order script k order a b c at h j =
    rw (take_next script k order at) (done_then (take k script) (order ∷ []) a b c h j)

pub some_of : (n : ℕ) → (n ≡ 0 → ⊥) → 0 < n
some_of zero h = absurd (h refl)
some_of (suc n) h = omega arith

-- no round was begun in a drill
pub first_begun : (scripts : List (List Order)) (old new : List PostView)
    → ((p : ℕ) (post : PostView) → slice_get old p ≡ Some post → HasBegun 0 post)
    → AreDrilled scripts old new → 0 < length old
    → (lead : PostView) × ((slice_get new 0 ≡ Some lead) × HasBegun 0 lead)
first_begun scripts old new begun drilled some =
    let c = drilled.count in
    let (lead, at) = in_list new 0 (omega (arith, some, c)) in
    let (a, ha) = in_list old 0 some in
    (lead, (at, (drilled.each 0 a lead ha at).1 0 (begun 0 a ha)))

pub floor_of : (lead : PostView) (floor : ℕ) → HasBegun 0 lead
    → floor ≡ latest lead.floor lead.rounds → floor ≡ 0
floor_of lead floor begun is = is ∙ (ap (λ f. latest f lead.rounds) begun.0 ∙ ap (latest 0) begun.1)
