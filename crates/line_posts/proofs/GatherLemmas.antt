-- The workers' own tapes are a history that links can lead to.
use Rattle.std.proofs.Common.{◌≡◌, ◌≢◌, ◌∙◌, ◌+◌, ◌<◌, ◌≤◌, ◌++◌, ◌∷◌, [], ℕ, List, Some, length}
use Rattle.std.proofs.Common.{get_or, refl, sym, ap, inl, inr, arith, subst}
use Rattle.std.specs.Prelude.{slice_get, option_map}
use Rattle.std.specs.List.{filter_map}
use Rattle.std.proofs.lemmas.Bool.{cases_lt, cases_eq}
use Rattle.std.proofs.lemmas.List.{append_assoc, append-nil, map-append, length-map, get_or_past}
use Rattle.std.proofs.lemmas.Option.{slice_get-map, slice_get_past, same_Some}
use Rattle.std.proofs.lemmas.Option.{get_or_from_slice_get, slice_get-get_or}
use Rattle.line_tape.specs.declared.items.Item.{Item}
use Rattle.line_tape.specs.Event.{incarnations_sent}
use Rattle.line_tape.specs.Fit.{sent_between, received_from, item_received, items_sent, IsPrefix}
use Rattle.line_tape.specs.Fit.{IsFitFifo, AreDistinct, MarksFollow}
use Rattle.line_tape.specs.History.{Process, fresh, tape_at}
use Rattle.line_tape.specs.Rounds.{rounds_checked}
use Rattle.line_laws.proofs.NextLemmas.{prefix_from}
use Rattle.line_posts.specs.Ends.{End, items_at, items_of, row_at}
use Rattle.line_posts.specs.declared.parcels.Parcel.{Parcel}
use Rattle.line_posts.specs.Parcels.{item_of, items_of_packets, items_of_parcels, parcels_sent}
use Rattle.line_posts.specs.Posts.{opening_tape, IsPost, PostView}
use Rattle.line_posts.specs.Generations.{own_history, own_process, AreAccounted, AreInOrder}
use Rattle.line_posts.specs.Generations.{IsGeneration}
use Rattle.line_posts.specs.Gathering.{AreAll, AreMet}
use Rattle.line_posts.proofs.ParcelLemmas.{parcels_append, parcels_names}

pub own_tape : (posts : List PostView) (p : ℕ) (post : PostView) → slice_get posts p ≡ Some post
    → tape_at (own_history posts) p ≡ post.tape
own_tape posts p post at =
    ap (λ (t : Process). t.tape) (get_or_from_slice_get (own_history posts) p (own_process post)
    fresh (slice_get-map own_process posts p ∙ ap (option_map own_process) at))

pub tape_past : (history : List Process) (p : ℕ) → length history ≤ p → tape_at history p ≡ []
tape_past history p past = ap (λ (t : Process). t.tape) (get_or_past history p fresh past)

pub own_past : (posts : List PostView) (p : ℕ) → length posts ≤ p
    → tape_at (own_history posts) p ≡ []
own_past posts p past = (let l = length-map posts own_process in tape_past (own_history posts) p
    (omega (arith, l, past)))

pub items_past : {T : Type 0} (ends : List (End T)) (q : ℕ) → length ends ≤ q → items_at ends q ≡ []
items_past ends q past = ap items_of (slice_get_past ends q past)

-- of two workers
pair_accounted : (from to : PostView) → IsPost from → IsPost to → from.opening ≡ to.opening
    → from.number ≢ to.number → (rest : List Parcel)
    → items_at to.ins from.number ++ rest ≡ items_at from.outs to.number
    → (filter_map (item_received from.number) to.tape
    ++ items_of_packets from.number (row_at to.kept from.number))
    ++ items_of_parcels from.number rest ≡ items_sent from.number to.number 0 from.tape
pair_accounted from to a b same apart rest met =
    let p = from.number in
    let q = to.number in
    let I : List Parcel → List Item = items_of_parcels p in
    let lt : q < length from.opening =
    (let w = b.within in let e = ap length same in omega (arith, w, e)) in
    ap (λ t. t ++ I rest) (b.receipts_are p)
    ∙ (append_assoc (sent_between to.opening p q) (I (items_at to.ins p)) (I rest)
    ∙ (ap (λ t. sent_between to.opening p q ++ t)
    (sym (map-append (item_of p) (items_at to.ins p) rest) ∙ ap I met)
    ∙ (ap (λ (o : List Process). sent_between o p q ++ I (items_at from.outs q)) (sym same)
    ∙ (ap (λ t. t ++ I (items_at from.outs q)) (sym (parcels_names p q 0 (opening_tape from)))
    ∙ (sym (map-append (item_of p) (parcels_sent q 0 (opening_tape from)) (items_at from.outs q))
    ∙ (ap I (sym (a.sends_are q lt (λ e. apart (sym e)))) ∙ parcels_names p q 0 from.tape))))))

prefix_of_nil : (xs ys : List Item) → xs ≡ [] → IsPrefix xs ys
prefix_of_nil xs ys e = prefix_from xs ys ys (sym (ap (λ t. t ++ ys) e))

nil_left : (xs ys : List Item) → xs ++ ys ≡ [] → xs ≡ []
nil_left [] ys e = refl
nil_left (x ∷ xs) ys e = cc e

-- a worker received from itself no more than it sent to itself
alone_begins : (post : PostView) → IsPost post → (z : List Item) × (items_sent post.number
    post.number 0 post.tape ≡ filter_map (item_received post.number) post.tape ++ z)
alone_begins post h =
    let p = post.number in
    let front = opening_tape post ++ post.line.items in
    let k = length (incarnations_sent (opening_tape post)) in
    let I : List Parcel → List Item = items_of_parcels p in
    let later = post.line.items ++ h.reports.0 in
    let kept = items_of_packets p (row_at post.kept p) in
    let got : filter_map (item_received p) post.tape ++ kept ≡ sent_between post.opening p p =
    h.receipts_are p ∙ (ap (λ t. sent_between post.opening p p ++ I t) h.alone ∙ append-nil
    (sent_between post.opening p p)) in
    let tape_is : post.tape ≡ opening_tape post
    ++ later = sym h.reports.1 ∙ append_assoc (opening_tape post) post.line.items h.reports.0 in
    let all : items_sent p p 0 post.tape
    ≡ sent_between post.opening p p ++ I (parcels_sent p (0 + k) later) =
    ap (items_sent p p 0) tape_is ∙ (sym (parcels_names p p 0 (opening_tape post ++ later))
    ∙ (ap I (parcels_append p 0 (opening_tape post) later)
    ∙ (map-append (item_of p) (parcels_sent p 0 (opening_tape post)) (parcels_sent p (0 + k) later)
    ∙ ap (λ t. t ++ I (parcels_sent p (0 + k) later)) (parcels_names p p 0 (opening_tape post)))))
    in (
      kept ++ I (parcels_sent p (0 + k) later),
      all ∙ (ap (λ t. t ++ I (parcels_sent p (0 + k) later)) (sym got) ∙ append_assoc
          (filter_map (item_received p) post.tape) kept (I (parcels_sent p (0 + k) later))),
    )

pub in_list : (posts : List PostView) (p : ℕ) → p < length posts
    → (post : PostView) × (slice_get posts p ≡ Some post)
in_list [] p lt = absurd (omega (arith, lt))
in_list (x ∷ xs) p lt = (get_or (x ∷ xs) p x, slice_get-get_or (x ∷ xs) p x lt)

module _ (posts : List PostView) (all : AreAll posts) (gen : IsGeneration posts)
    (met : AreMet posts) where
  pub accounted : AreAccounted posts
  accounted p q from to hp hq apart =
      let (a, np, lp) = all.each p from hp in
      let (b, nq, lq) = all.each q to hq in
      let (rest, e) = met p q from to hp hq in
      let P : ℕ → ℕ → Type 0 = λ x y. (filter_map (item_received x) to.tape ++ items_of_packets x
      (row_at to.kept x)) ++ items_of_parcels x rest ≡ items_sent x y 0 from.tape in
      let M : ℕ → ℕ → Type 0 = λ x y. items_at to.ins x ++ rest ≡ items_at from.outs y in
      let here : P from.number to.number =
      pair_accounted from to a b ((gen p q from to hp hq).0)
      (λ e. apart (sym np ∙ (e ∙ nq))) rest e in
      let there : P p q = subst (λ y. P p y) nq (subst (λ x. P x to.number) np here) in (
        rest,
        subst (λ y. M p y) nq (subst (λ x. M x to.number) np e),
        ap
            (λ t. (filter_map (item_received p) t ++ items_of_packets p (row_at to.kept p))
            ++ items_of_parcels p rest) (own_tape posts q to hq) ∙
            (there ∙ ap (items_sent p q 0) (sym (own_tape posts p from hp))),
      )

  ordered : (p q : ℕ)
      → IsPrefix (received_from (own_history posts) q p) (sent_between (own_history posts) p q)
  ordered p q = elim (cases_lt q (length posts)) [
    | inr past ↦ prefix_of_nil _ _ (ap (filter_map (item_received p)) (own_past posts q past))
    | inl ltq ↦
        let (to, hq) = in_list posts q ltq in
        let (b, nq, lq) = all.each q to hq in
        let got : received_from (own_history posts) q p ≡ filter_map (item_received p) to.tape = ap
        (filter_map (item_received p)) (own_tape posts q to hq) in
        elim (cases_lt p (length posts)) [
          | inr past ↦
              let c = b.in_count in
              prefix_of_nil _ _ (got ∙ nil_left _ _ (b.receipts_are p
              ∙ (ap (λ t. items_sent p to.number 0 t ++ items_of_parcels p (items_at to.ins p))
              (tape_past to.opening p (omega (arith, past, lq)))
              ∙ ap (items_of_parcels p) (items_past to.ins p (omega (arith, past, lq, c))))))
          | inl ltp ↦ elim (cases_eq p q) [
            | inl same ↦
                let P : ℕ → Type 0 = λ x. (z : List Item)
                × (items_sent x x 0 to.tape ≡ filter_map (item_received x) to.tape ++ z) in
                let (z, e) : P q = subst P nq (alone_begins to b) in
                let Q : ℕ → Type 0 = λ x. IsPrefix (received_from (own_history posts) q x)
                (sent_between (own_history posts) x q) in
                subst Q (sym same) (prefix_from (received_from (own_history posts) q q)
                (sent_between (own_history posts) q q) z
                (ap (items_sent q q 0) (own_tape posts q to hq) ∙ (e ∙ ap
                (λ t. filter_map (item_received q) t ++ z) (sym (own_tape posts q to hq)))))
            | inr apart ↦
                let (from, hp) = in_list posts p ltp in
                let (rest, met_is, e) = accounted p q from to hp hq apart in
                prefix_from _ _ (items_of_packets p (row_at to.kept p) ++ items_of_parcels p rest)
                (sym e ∙ append_assoc (received_from (own_history posts) q p)
                (items_of_packets p (row_at to.kept p)) (items_of_parcels p rest))
          ]
        ]
  ]

  pub fits : IsFitFifo (own_history posts)
  fits = record {
    order = λ p q. ordered p q;
    rounds = λ p. elim (cases_lt p (length posts)) [
      | inl lt ↦ (let (post, at) = in_list posts p lt in subst (λ t. AreDistinct (rounds_checked t))
          (sym (own_tape posts p post at)) ((all.each p post at).0.rounds))
      | inr past ↦ subst (λ t. AreDistinct (rounds_checked t)) (sym (own_past posts p past))
          (λ i j d lt within e. absurd (omega (arith, within)))
    ];
    marks = λ p. elim (cases_lt p (length posts)) [
      | inl lt ↦ (let (post, at) = in_list posts p lt in subst MarksFollow
          (sym (own_tape posts p post at)) ((all.each p post at).0.marks))
      | inr past ↦ subst MarksFollow (sym (own_past posts p past)) (λ i from round e. cc e)
    ];
  }

pub all_of : (posts : List PostView) → ((p : ℕ) (post : PostView) → slice_get posts p ≡ Some post
    → IsPost post) → AreInOrder posts → AreAll posts
all_of posts known order =
    record { each = λ p post at. (known p post at, (order p post at).0, (order p post at).1) }

-- one more of them seen
pub order_more : (K : PostView → Type 0) (posts : List PostView) (j : ℕ) (here : PostView)
    → slice_get posts j ≡ Some here → K here → here.number ≡ j → length here.opening ≡ length posts
    → ((k : ℕ) (post : PostView) → k < j → slice_get posts k ≡ Some post
    → K post × (post.number ≡ k) × (length post.opening ≡ length posts))
    → (k : ℕ) (post : PostView) → k < j + 1 → slice_get posts k ≡ Some post
    → K post × (post.number ≡ k) × (length post.opening ≡ length posts)
order_more K posts j here at known number count before k post lt there = elim (cases_lt k j) [
  | inl less ↦ before k post less there
  | inr ge ↦
      let same : j ≡ k = omega (arith, ge, lt) in
      let e : here ≡ post = same_Some _ _ (sym at ∙ (ap (slice_get posts) same ∙ there)) in
      subst (λ (t : PostView). K t × (t.number ≡ k) × (length t.opening ≡ length posts)) e
      (known, number ∙ same, count)
]
