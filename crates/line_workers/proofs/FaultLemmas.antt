-- Why a drill does not end well, and where.
use Rattle.std.proofs.Common.{cond, suc, true, ◌≡◌, ◌∙◌, ◌≤◌, ◌<◌, ◌++◌, ◌∷◌, [], ℕ, List, Some}
use Rattle.std.proofs.Common.{length, replicate, take, refl, sym, ap, inl, inr, arith, subst}
use Rattle.std.specs.Prelude.{◌==◌, ◌≢◌, slice_get, false}
use Rattle.std.proofs.lemmas.Option.{same_Some}
use Rattle.line_tape.specs.declared.events.Event.{Event}
use Rattle.line_tape.specs.History.{fresh, incarnation_at, tape_at}
use Rattle.line_tape.proofs.EventLemmas.{tape_start}
use Rattle.line_posts.specs.Generations.{AreInOrder}
use Rattle.line_posts.specs.Openings.{HasSlots, IsOpening}
use Rattle.line_posts.specs.Parcels.{parcels_sent}
use Rattle.line_posts.specs.Posts.{PostView, IsPost, incarnation_of_post, opening_tape}
use Rattle.line_posts.specs.declared.parcels.Parcel.TheVariants.{Message}
use Rattle.line_posts.specs.Ends.{items_at, slots_at, slots_in}
use Rattle.line_posts.proofs.MeetLemmas.{get_below, get_last}
use Rattle.line_posts.proofs.WholeLemmas.{incarnation_start}
use Rattle.line_workers.specs.declared.orders.Order.{Order}
use Rattle.line_workers.specs.declared.orders.Order.TheVariants.{Send, Receive, Check}
use Rattle.line_workers.specs.declared.refusals.DrillError.{DrillError}
use Rattle.line_workers.specs.declared.refusals.DrillWhy.{DrillWhy}
use Rattle.line_workers.specs.declared.refusals.DrillWhy.TheVariants.{NoThread, WaitedOut}
use Rattle.line_workers.specs.Faults.{of_order, AreStopped, HasDoneFirst, HasFailed, HasFilledRing}
use Rattle.line_workers.specs.Faults.{IsCause, IsFault}
use Rattle.line_workers.specs.Followed.{Follows, HasDone}
use Rattle.line_workers.specs.Scripts.{names_ordered, script_at}
use Rattle.line_workers.proofs.DrillLemmas.{AreFirst}

-- an order that could not be done, after those before it
pub failed_at : (script : List Order) (k : ℕ) (order : Order) (old now left : PostView)
    (why : DrillWhy) (p : ℕ) (e : DrillError) → slice_get script k ≡ Some order
    → HasDone (take k script) old now → IsPost now
    → p ≡ old.number → IsCause now order left why → e ≡ of_order p k why → HasFailed script old e
failed_at script k order old now left why p e at done known number cause is =
    (k, order, why, now, left, at, done, known, cause, is ∙ ap (λ x. of_order x k why) number)

-- one of the others stopped
pub stopped_below : (scripts : List (List Order)) (a xs : List PostView) (x : PostView)
    (e : DrillError) → a ≡ xs ++ x ∷ [] → AreStopped scripts xs e → AreStopped scripts a e
stopped_below scripts a xs x e is (inl none) = inl none
stopped_below scripts a xs x e is (inr (p, post, at, failed)) = inr
    (p, post, subst (λ v. slice_get v p ≡ Some post) (sym is) (get_below xs x p post at), failed)

-- the last one stopped
pub stopped_last : (scripts : List (List Order)) (a xs : List PostView) (x : PostView)
    (script : List Order) (e : DrillError) → a ≡ xs ++ x ∷ []
    → script_at scripts (length xs) ≡ script → HasFailed script x e → AreStopped scripts a e
stopped_last scripts a xs x script e is own failed =
    inr (
      length xs,
      x,
      subst (λ v. slice_get v (length xs) ≡ Some x) (sym is) (get_last xs x),
      subst
          (λ s. HasFailed s x e) (sym own) failed,
    )

-- a worker of a first generation, after its first orders
done_first : (scripts : List (List Order)) (n p k : ℕ) (post now : PostView) → IsOpening post
    → post.opening ≡ replicate n fresh → post.number ≡ p → length scripts ≡ n
    → IsPost now → HasDone (take k (script_at scripts p)) post now → HasDoneFirst scripts p k now
done_first scripts n p k post now opening begun number long known
    (same, rounds, done, tape, follows) =
    let bare : post.tape
    ≡ [] = opening.tape ∙ (ap (λ h. tape_at h post.number) begun ∙ tape_start n post.number) in
    let inc : incarnation_of_post post
    ≡ 0 = ap (λ h. incarnation_at h post.number) begun ∙ incarnation_start n post.number in
    record {
      known = known;
      number = same.number ∙ number;
      opening = same.opening ∙ (begun ∙ ap (λ m. replicate m fresh) (sym long));
      tape = subst (Follows 0 (take k (script_at scripts p))) (sym (tape ∙ ap (λ t. t ++ done)
          bare)) (subst (λ i. Follows i (take k (script_at scripts p)) done) inc follows);
    }

pub fault_of : (scripts : List (List Order)) (n : ℕ) (posts : List PostView) (e : DrillError)
    → AreFirst n posts → AreInOrder posts → length scripts ≡ n → AreStopped scripts posts e
    → IsFault scripts e
fault_of scripts n posts e first order long (inl none) = inl (NoThread, inr (inr (inr refl)), none)
fault_of scripts n posts e first order long
    (inr (p, post, at, (k, o, why, now, left, here, done, known, cause, is))) =
    let (number, many) = order p post at in
    let (opening, begun) = first p post at in
    inr (
      p,
      k,
      o,
      why,
      now,
      left,
      here,
      done_first scripts n p k post now opening begun number long
          known done,
      cause,
      is ∙ ap (λ x. of_order x k why) number,
    )

-- as many parcels as orders to send
parcels_ordered : (p to k inc : ℕ) (script : List Order) (tape : List Event) → Follows inc script
    tape → length (parcels_sent to k tape) ≡ length (names_ordered p to k script)
parcels_ordered p to k inc [] [] h = refl
parcels_ordered p to k inc [] (e ∷ es) h = absurd h
parcels_ordered p to k inc (o ∷ os) [] h = absurd h
parcels_ordered p to k inc (Send q body ∷ os) (e ∷ es) h =
    let ih = parcels_ordered p to (suc k) inc os es h.1 in
    ap (λ x. length (parcels_sent to k (x ∷ es))) h.0
    ∙ elim (q == to) as
    (λ b. length
    (cond b (Message (record { inc = inc; number = k; body = body })
    ∷ parcels_sent to (suc k) es) (parcels_sent to (suc k) es))
    ≡ length (cond b (record { from = p; inc = 0; number = k } ∷ names_ordered p to (suc k) os)
    (names_ordered p to (suc k) os))) [ true ↦ ap suc ih | false ↦ ih ]
parcels_ordered p to k inc (Receive from ∷ os) (e ∷ es) h =
    ap (λ x. length (parcels_sent to k (x ∷ es))) h.0.2 ∙ parcels_ordered p to k inc os es h.1
parcels_ordered p to k inc (Check state ∷ os) (e ∷ es) h =
    ap (λ x. length (parcels_sent to k (x ∷ es))) h.0 ∙ parcels_ordered p to k inc os es h.1

-- a worker that finds no slot for its first orders has sent as much as fits
filled_by : (n capacity to p : ℕ) (script : List Order) (post now : PostView) → IsPost now → HasDone
    script post now → post.tape ≡ [] → post.opening ≡ replicate n fresh → HasSlots capacity post
    → to < length now.opening → to ≢ now.number → slots_at now.outs to ≤ length
    (items_at now.outs to) → capacity ≤ length (names_ordered p to 0 script)
filled_by n capacity to p script post now known (same, rounds, done, tape, follows) bare first
    (slots, line) within other filled =
    let began : opening_tape now
    ≡ [] = ap (λ h. tape_at h now.number) (same.opening ∙ first) ∙ tape_start n now.number in
    let pushed : parcels_sent to 0 done ≡ items_at now.outs to =
    sym (ap (parcels_sent to 0) (tape ∙ ap (λ t. t ++ done) bare)) ∙ (known.sends_are to within
    other ∙ ap (λ t. parcels_sent to 0 t ++ items_at now.outs to) began) in
    let many = ap length (sym pushed) ∙ parcels_ordered p to 0
    (incarnation_of_post post) script done follows in
    let opened = ap length same.opening in
    let fits : slots_at now.outs to
    ≡ capacity = ap slots_in (same.outs to) ∙ slots to (omega (arith, within, opened)) in
    omega (arith, many, fits, filled)

pub ring_filled : (capacity n : ℕ) (scripts : List (List Order)) (posts : List PostView)
    (e : DrillError) → AreFirst n posts → AreInOrder posts
    → ((p : ℕ) (post : PostView) → slice_get posts p ≡ Some post → HasSlots capacity post)
    → AreStopped scripts posts e → HasFilledRing scripts capacity e
ring_filled capacity n scripts posts e first order slots (inl none) = λ p k to body is at.
    (let wrong = ap (λ (x : DrillError). x.worker) (sym none ∙ is) in cc wrong)
ring_filled capacity n scripts posts e first order slots
    (inr (q, post, there, (j, o, why, now, left, here, done, known, cause, was))) =
    λ p k to body is at.
    let same = sym was ∙ is in
    let number : post.number
    ≡ p = same_Some post.number p (ap (λ (x : DrillError). x.worker) same) in
    let place : j ≡ k = same_Some j k (ap (λ (x : DrillError). x.order) same) in
    let who : q ≡ p = sym (order q post there).0 ∙ number in
    let is_send : o ≡ Send to body =
    same_Some o (Send to body) (sym here ∙ (ap (λ x. slice_get (script_at scripts x) j) who ∙
    (ap (slice_get (script_at scripts p)) place ∙ at))) in
    let waited : why ≡ WaitedOut = ap (λ (x : DrillError). x.why) same in
    let full : IsCause now (Send to body) left WaitedOut = subst (λ w. IsCause now
    (Send to body) left w) waited (subst (λ x. IsCause now x left why) is_send cause) in
    let (may, filled) = full.1 in
    let (opening, begun) = first q post there in
    let bare = opening.tape ∙ (ap (λ h. tape_at h post.number) begun ∙ tape_start n post.number) in
    let enough = filled_by n capacity to p (take j (script_at scripts q)) post now known done bare
    begun (slots q post there) may.process may.other filled in
    subst (λ x. capacity ≤ length (names_ordered p to 0 (take x (script_at scripts p)))) place
    (subst (λ x. capacity ≤ length (names_ordered p to 0 (take j (script_at scripts x)))) who
    enough)
