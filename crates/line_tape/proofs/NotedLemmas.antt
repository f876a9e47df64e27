-- The index as receipts come and go.
use Rattle.std.proofs.Common.{◌≡◌, ◌≢◌, ℕ, zero, suc, ◌+◌, ◌-◌, ◌<◌, ◌≤◌, ◌⊎◌, ◌++◌, ◌∷◌, [], Bool}
use Rattle.std.proofs.Common.{true, false, List, length, take, set, get_or, map, refl, sym, ap, ◌∙◌}
use Rattle.std.proofs.Common.{subst, arith, inl, inr}
use Rattle.std.specs.Prelude.{if◌then◌else◌}
use Rattle.std.proofs.Math.ListN.{get_or-map}
use Rattle.std.proofs.Math.Seq.{get_or-append_seam, map-set_same}
use Rattle.std.proofs.lemmas.Grind.{get_or-set_at}
use Rattle.std.proofs.lemmas.Bool.{cases_eq}
use Rattle.std.proofs.lemmas.List.{get_or-set_same, get_or-set_other, get_or_append_left}
use Rattle.std.proofs.lemmas.List.{get_or-take, get_or_default, length_push, length-take-le}
use Rattle.line_names.specs.declared.limits.TheConstants.{MOST_PROCESSES}
use Rattle.line_names.specs.declared.messages.MsgName.{MsgName}
use Rattle.line_tape.specs.declared.limits.TheConstants.{MOST_EVENTS}
use Rattle.line_tape.specs.declared.receipts.chains.Receipt.{Receipt}
use Rattle.line_tape.specs.Ends.{EndsView, IsEndPut, link_of_sender}
use Rattle.line_tape.specs.Noted.{AreAlike, AreInTree, AreNoted, IsAhead, IsAside, IsBack}
use Rattle.line_tape.specs.Noted.{IsLastOfSender, IsWalkedTo, IsNode, IsPut, IsSeatOf, key_of}
use Rattle.line_tape.specs.Noted.{name_of_receipt, name_at, receipt_at, link_in_seat}
use Rattle.line_tape.proofs.AheadLemmas.{ahead_alike, aside_alike, chained_less, chained_more}
use Rattle.line_tape.proofs.AheadLemmas.{ends_put, from_of, last_alike, last_here, last_is_here}
use Rattle.line_tape.proofs.AheadLemmas.{last_longer, last_shorter, number_of}
use Rattle.line_tape.proofs.FirstLemmas.{only_ahead}
use Rattle.line_tape.proofs.SeatLemmas.{node_alike, node_le, same_seat, seated-append, seated-take}
use Rattle.line_tape.proofs.SeatLemmas.{tree_less, tree_more, tree_same}

abbrev near_of : Receipt → ℕ
near_of r = r.near

abbrev far_of : Receipt → ℕ
far_of r = r.far

-- a link put into a seat below a receipt
put_below : (rs : List Receipt) (root k link : ℕ) (far : Bool) (r : Receipt) → k < length rs
    → name_of_receipt r ≡ name_at rs k → (if far then r.far else r.near) ≡ link
    → (if far then r.near else r.far) ≡ (if far then (receipt_at rs k).near
    else (receipt_at rs k).far) → IsPut rs root (set rs k r) root (suc k) far link
put_below rs root k link far r low name here other = record {
  there = ap (λ (x : Receipt). if far then x.far else x.near) (get_or-set_same rs k r _ low) ∙ here;
  elsewhere = λ seat side. go far side seat here other;
  names = map-set_same name_of_receipt rs k r _ name;
}
  where
    same : (far side : Bool) (j : ℕ) → (if far then r.near else r.far)
        ≡ (if far then (receipt_at rs k).near else (receipt_at rs k).far) → j ≡ k
        → (link_in_seat (set rs k r) root (suc j) side ≡ link_in_seat rs root (suc j) side)
        ⊎ ((suc j ≡ suc k) × (suc j ≢ 0 → side ≡ far))
    same true true j o e = inr (ap (λ x. suc x) e, λ _. refl)
    same true false j o e = inl
        (ap near_of (get_or-set_at rs k j r _ e low) ∙ o ∙ ap (λ x. (receipt_at rs x).near) (sym e))
    same false true j o e = inl
        (ap far_of (get_or-set_at rs k j r _ e low) ∙ o ∙ ap (λ x. (receipt_at rs x).far) (sym e))
    same false false j o e = inr (ap (λ x. suc x) e, λ _. refl)

    go : (far side : Bool) (seat : ℕ) → (if far then r.far else r.near) ≡ link → (if far
        then r.near else r.far) ≡ (if far then (receipt_at rs k).near else (receipt_at rs k).far)
        → (link_in_seat (set rs k r) root seat side ≡ link_in_seat rs root seat side)
        ⊎ ((seat ≡ suc k) × (seat ≢ 0 → side ≡ far))
    go far side zero i o = inl refl
    go far side (suc j) i o = elim (cases_eq j k) [
      | inl e ↦ same far side j o e
      | inr ne ↦ inl
          (ap (λ (x : Receipt). if side then x.far else x.near) (get_or-set_other rs k j r _ ne))
    ]

pub put_seat : (rs : List Receipt) (root above link : ℕ) (far side : Bool) (x r : Receipt)
    → side ≡ far → above ≢ 0 → above ≤ length rs → x ≡ get_or rs (above - 1) x
    → name_of_receipt r ≡ name_of_receipt x → (if far then r.far else r.near) ≡ link
    → (if far then r.near else r.far) ≡ (if far then x.near else x.far)
    → IsPut rs root (set rs (above - 1) r) root above side link
put_seat rs root zero link far side x r same some low is name here other = absurd (some refl)
put_seat rs root (suc k) link far side x r same some low is name here other =
    let e : suc k - 1 ≡ k = omega arith in
    let l : k < length rs = omega arith in
    let found : x ≡ receipt_at rs k = is ∙ ap (λ j. get_or rs j x) e ∙ get_or_default rs k x _ l in
    subst (λ f. IsPut rs root (set rs (suc k - 1) r) root (suc k) f link) (sym same)
    (subst (λ j. IsPut rs root (set rs j r) root (suc k) far link) (sym e) (put_below rs root k
    link far r l (name ∙ ap name_of_receipt found) here (moved far other found)))
  where
    moved : (far : Bool) → (if far then r.near else r.far) ≡ (if far then x.near else x.far)
        → x ≡ receipt_at rs k → (if far then r.near else r.far)
        ≡ (if far then (receipt_at rs k).near else (receipt_at rs k).far)
    moved true o found = o ∙ ap near_of found
    moved false o found = o ∙ ap far_of found

pub names_alike : (rs os : List Receipt) (n : ℕ) → map name_of_receipt os ≡ map name_of_receipt rs
    → AreAlike rs os n
names_alike rs os n same = record {
  each = λ i l. sym (get_or-map name_of_receipt rs i _) ∙ ap (λ (names : List MsgName). get_or names
      i (name_of_receipt (receipt_at [] 0))) (sym same) ∙ get_or-map name_of_receipt os i _;
}

-- the receipts with one more
module _ (rs : List Receipt) (r : Receipt) where
  abbrev pub more : List Receipt
  more = rs ++ r ∷ []

  pub more_alike : AreAlike rs more (length rs)
  more_alike =
      record { each = λ i l. ap name_of_receipt (sym (get_or_append_left rs (r ∷ []) _ i l)) }

  pub more_here : receipt_at more (length rs) ≡ r
  more_here = get_or-append_seam rs r [] _

  pub more_links : (i : ℕ) → i < length rs → IsAhead rs i → ((receipt_at rs i).near
      ≡ (receipt_at more i).near) × ((receipt_at rs i).far ≡ (receipt_at more i).far)
  more_links i l a =
      let e : receipt_at rs i ≡ receipt_at more i = sym (get_or_append_left rs (r ∷ []) _ i l) in
      (ap near_of e, ap far_of e)

  pub more_near : (i : ℕ) → i < length rs → (receipt_at more i).near ≡ (receipt_at rs i).near
  more_near i l = ap near_of (get_or_append_left rs (r ∷ []) _ i l)

-- a receipt more that is ahead
pub noted_ahead : (rs : List Receipt) (last new : EndsView) (root : ℕ) (r : Receipt)
    → AreNoted rs last root → length rs < MOST_EVENTS → r.from < MOST_PROCESSES
    → IsEndPut last new r.from (length rs + 1)
    → ((i : ℕ) → i < length rs → (name_at rs i).from ≡ r.from → (name_at rs i).number < r.number)
    → r.near ≡ link_of_sender last r.from → IsBack rs (length rs) r.from r.far
    → AreNoted (rs ++ r ∷ []) new root
noted_ahead rs last new root r noted few sender put above near far =
    let n : ℕ = length rs in
    let os : List Receipt = rs ++ r ∷ [] in
    let h : AreAlike rs os n = more_alike rs r in
    let at : receipt_at os n ≡ r = more_here rs r in
    let name : name_at os n ≡ name_of_receipt r = ap name_of_receipt at in
    let from : from_of (name_at os n) ≡ r.from = ap from_of name in
    let long : length os ≡ suc n = omega (arith, length_push rs r) in
    let ahead : IsAhead os n = record {
      above = λ j l same.
          let e : name_at rs j ≡ name_at os j = h.each j l in
          let u : number_of (name_at rs j) ≡ number_of (name_at os j) = ap number_of e in
          let v : number_of (name_at os n) ≡ r.number = ap number_of name in
          let w : number_of (name_at rs j) < r.number = above j l (ap from_of e ∙ same ∙ from) in
          omega arith;
    } in
    let old : IsLastOfSender rs n r.from
    (link_of_sender last r.from) = noted.ends.each r.from sender in
    record {
      few = omega arith;
      chained = chained_more rs os n refl long h noted.chained (more_links rs r)
          (λ a. (
            last_alike rs rs n n _ _ _ _ (record { each = λ i l. refl }) (omega arith)
                (sym from) (sym near ∙ sym (ap near_of at)) old,
            subst
                (λ (x : Receipt). IsBack rs n (from_of (name_at os n)) x.far) (sym at)
                (subst (λ s. IsBack rs n s r.far) (sym from) far),
          ))
          (λ i l some back. more_near rs r i l) (λ some back. ahead)
          (subst (λ s. s < MOST_PROCESSES) (sym from) sender);
      ends = ends_put os last new (suc n) r.from (suc n) long
          (subst (IsEndPut last new r.from) (omega arith) put) (last_here os n r.from ahead from)
          (λ q l ne. last_longer rs os n q (link_of_sender last q) h
          (λ same. absurd (ne (sym same ∙ from))) (noted.ends.each q l));
      tree = tree_same rs os root n refl long h noted.tree
          (λ link side low. seated-append rs (r ∷ []) root link side low) (λ a. a.behind ahead);
    }

-- a receipt is not ahead where one before it has no lower number
pub not_ahead : (rs os : List Receipt) (r : Receipt) → AreAlike rs os (length rs)
    → name_at os (length rs) ≡ name_of_receipt r
    → ((i : ℕ) × (i < length rs) × ((name_at rs i).from ≡ r.from)
    × (r.number ≤ (name_at rs i).number)) → IsAhead os (length rs) → ⊥
not_ahead rs os r h name (i, l, from, low) a =
    let e : name_at rs i ≡ name_at os i = h.each i l in
    let u : number_of (name_at rs i) ≡ number_of (name_at os i) = ap number_of e in
    let v : number_of (name_at os (length rs)) ≡ r.number = ap number_of name in
    let w : number_of (name_at os i) < number_of (name_at os (length rs)) = a.above i l
    (sym (ap from_of e) ∙ from ∙ sym (ap from_of name)) in
    omega arith

-- a receipt more that is not, with other links of the tree at most
pub noted_behind : (rs os : List Receipt) (last : EndsView) (root other : ℕ) (r : Receipt)
    → AreNoted rs last root → length rs < MOST_EVENTS → length os ≡ suc (length rs)
    → AreAlike rs os (length rs) → name_at os (length rs) ≡ name_of_receipt r
    → r.from < MOST_PROCESSES
    → ((i : ℕ) → i < length rs → IsAhead rs i → ((receipt_at rs i).near ≡ (receipt_at os i).near)
    × ((receipt_at rs i).far ≡ (receipt_at os i).far))
    → ((i : ℕ) → i < length rs → (receipt_at os i).near ≢ 0 → (receipt_at os i).near ≤ i
    → (receipt_at os i).near ≡ (receipt_at rs i).near)
    → ((receipt_at os (length rs)).near ≡ 0)
    → ((i : ℕ) × (i < length rs) × ((name_at rs i).from ≡ r.from)
    × (r.number ≤ (name_at rs i).number))
    → AreInTree os other → AreNoted os last other
noted_behind rs os last root other r noted few long h name sender links nears leaf below tree =
    let n : ℕ = length rs in
    let from : from_of (name_at os n) ≡ r.from = ap from_of name in
    let v : number_of (name_at os n) ≡ r.number = ap number_of name in
    let low : number_of (name_at os n) ≤ number_of (name_at rs below.0) =
    (let w : r.number ≤ number_of (name_at rs below.0) = below.3 in omega arith) in
    record {
      few = omega arith;
      chained = chained_more rs os n refl long h noted.chained links
          (λ a. absurd (not_ahead rs os r h name below a)) nears (λ some back. absurd (some leaf))
          (subst (λ s. s < MOST_PROCESSES) (sym from) sender);
      ends = record {
        each = λ q l. subst (λ m. IsLastOfSender os m q (link_of_sender last q)) (sym long)
            (last_longer rs os n q (link_of_sender last q) h
            (λ same. (below.0, below.1, below.2 ∙ sym from ∙ same, low)) (noted.ends.each q l));
      };
      tree = tree;
    }

links_put : (rs more os : List Receipt) (root other above link n i : ℕ) (far : Bool) → length rs ≡ n
    → IsNode rs above → IsPut more root os other above far link
    → ((l : ℕ) (side : Bool) → l ≤ n → link_in_seat more root l side ≡ link_in_seat rs root l side)
    → i < n → IsAhead rs i
    → ((receipt_at rs i).near ≡ (receipt_at os i).near)
    × ((receipt_at rs i).far ≡ (receipt_at os i).far)
links_put rs more os root other above link n i far short node put same l a = (go false, go true)
  where
    go : (side : Bool) → link_in_seat rs root (suc i) side ≡ link_in_seat os other (suc i) side
    go side = elim (put.elsewhere (suc i) side) [
      | inl e ↦ sym (e ∙ same (suc i) side (omega arith))
      | inr (e, f) ↦ absurd ((node.each i (sym e)).1.behind a)
    ]

-- a link back that a receipt has after one is put elsewhere is the one that it had
near_put : (rs os : List Receipt) (root other above link i : ℕ) (far : Bool)
    → IsPut rs root os other above far link → ((receipt_at os i).near ≡ link → ⊥)
    → (receipt_at os i).near ≡ (receipt_at rs i).near
near_put rs os root other above link i far put ne = elim (put.elsewhere (suc i) false) [
  | inl e ↦ e
  | inr (e, f) ↦ absurd (ne (same_seat os other (suc i) above false far e f ∙ put.there))
]

-- a receipt more of a message that has one in the tree
pub noted_again : (rs : List Receipt) (last : EndsView) (root : ℕ) (r : Receipt)
    → AreNoted rs last root → length rs < MOST_EVENTS → r.from < MOST_PROCESSES → r.near ≡ 0
    → ((i : ℕ) × (i < length rs) × ((name_at rs i).from ≡ r.from)
    × (r.number ≤ (name_at rs i).number))
    → ((i : ℕ) × (i < length rs) × IsAside rs i × (name_at rs i ≡ name_of_receipt r))
    → AreNoted (rs ++ r ∷ []) last root
noted_again rs last root r noted few sender leaf below (i, l, aside, named) =
    let n : ℕ = length rs in
    let os : List Receipt = rs ++ r ∷ [] in
    let h : AreAlike rs os n = more_alike rs r in
    let name : name_at os n ≡ name_of_receipt r = ap name_of_receipt (more_here rs r) in
    let long : length os ≡ suc n = omega (arith, length_push rs r) in
    noted_behind rs os last root root r noted few long h name sender (more_links rs r)
    (λ i l some back. more_near rs r i l) (ap near_of (more_here rs r) ∙ leaf) below
    (tree_same rs os root n refl long h noted.tree
    (λ link side low. seated-append rs (r ∷ []) root link side low) (λ a. a.first i l
    (aside_alike rs os n i h l aside).behind (sym (h.each i l) ∙ named ∙ sym name)))

leaf_of : (r : Receipt) (side : Bool) → r.near ≡ 0 → r.far ≡ 0
    → (if side then r.far else r.near) ≡ 0
leaf_of r true near far = far
leaf_of r false near far = near

-- a receipt more, in the seat of its message that was empty
pub noted_aside : (rs os : List Receipt) (last : EndsView) (root other above : ℕ) (far : Bool)
    (r : Receipt) → AreNoted rs last root → length rs < MOST_EVENTS → length os ≡ suc (length rs)
    → r.from < MOST_PROCESSES
    → r.near ≡ 0 → r.far ≡ 0
    → ((i : ℕ) × (i < length rs) × ((name_at rs i).from ≡ r.from)
    × (r.number ≤ (name_at rs i).number))
    → link_in_seat rs root above far ≡ 0
    → IsSeatOf rs root (name_of_receipt r) above far
    → IsPut (rs ++ r ∷ []) root os other above far (length rs + 1) → AreNoted os last other
noted_aside rs os last root other above far r noted few long sender near back below was seat put =
    let n : ℕ = length rs in
    let more : List Receipt = rs ++ r ∷ [] in
    let h : AreAlike rs more n = more_alike rs r in
    let k : AreAlike more os (suc n) = names_alike more os (suc n) put.names in
    let alike : AreAlike rs os n = record { each = λ i l. h.each i l ∙ k.each i (omega arith) } in
    let name : name_at os n
    ≡ name_of_receipt r = sym (k.each n (omega arith)) ∙ ap name_of_receipt (more_here rs r) in
    let low : above ≤ n = node_le rs above seat.node in
    let there : link_in_seat os other above far ≡ suc n = omega (arith, put.there) in
    let aside : IsAside os n = record {
      first = λ j l behind same. only_ahead rs root above far (name_of_receipt r) seat was j l
          (λ a. behind (ahead_alike rs os n j alike l a)) (alike.each j l ∙ same ∙ name);
      behind = λ a. not_ahead rs os r alike name below a;
    } in
    noted_behind rs os last root other r noted few long alike name sender
    (λ i l a. links_put rs more os root other above (n + 1) n i far refl seat.node put
    (λ link side low. seated-append rs (r ∷ []) root link side low) l a)
    (λ i l some back. near_put more os root other above (n + 1) i far put
    (λ e. absurd (omega (arith, e, back, l))) ∙ more_near rs r i l)
    (elim (put.elsewhere (suc n) false) [
      | inl e ↦ e ∙ ap near_of (more_here rs r) ∙ near
      | inr (e, f) ↦ absurd (omega arith)
    ])
    below
    (tree_more rs os root other n above far seat.led.0 refl long alike noted.tree
    (λ link side few. elim (put.elsewhere link side)
    [ inl e ↦ inl (e ∙ seated-append rs (r ∷ []) root link side few) | inr e ↦ inr e ])
    there was
    (λ side. elim (put.elsewhere (suc n) side) [
      | inl e ↦ e ∙ ap (λ (x : Receipt). if side then x.far else x.near)
          (more_here rs r) ∙ leaf_of r side near back
      | inr (e, f) ↦ absurd (omega arith)
    ])
    aside seat.node (subst (λ (m : MsgName). IsWalkedTo rs root (key_of m) above far seat.led.0)
    (sym name) seat.led.1))

-- the receipts without the last
take_alike : (os : List Receipt) (n : ℕ) → AreAlike os (take n os) n
take_alike os n = record { each = λ i l. ap name_of_receipt (sym (get_or-take n os i _ l)) }

take_links : (os : List Receipt) (n i : ℕ) → i < n → ((receipt_at os i).near
    ≡ (receipt_at (take n os) i).near) × ((receipt_at os i).far ≡ (receipt_at (take n os) i).far)
take_links os n i l =
    let e : receipt_at os i ≡ receipt_at (take n os) i = sym (get_or-take n os i _ l) in
    (ap near_of e, ap far_of e)

-- no link of the tree is to a receipt that isn't aside
no_link : (os : List Receipt) (root n link : ℕ) (side : Bool) → AreInTree os root
    → (IsAside os n → ⊥) → IsNode os link → link_in_seat os root link side ≢ suc n
no_link os root n link side tree other node e = other ((tree.nodes link side node).each n e).1

-- a receipt less that is ahead
pub noted_less_ahead : (os : List Receipt) (last new : EndsView) (root n : ℕ) → AreNoted os last
    root → length os ≡ suc n → IsEndPut last new (receipt_at os n).from (receipt_at os n).near
    → link_of_sender last (receipt_at os n).from ≡ suc n → AreNoted (take n os) new root
noted_less_ahead os last new root n noted long put at =
    let rs : List Receipt = take n os in
    let s : ℕ = (receipt_at os n).from in
    let h : AreAlike os rs n = take_alike os n in
    let short : length rs ≡ n = length-take-le n os (omega arith) in
    let sender : s < MOST_PROCESSES = noted.chained.senders n (omega arith) in
    let here : (n < length os) × IsAhead os n
    × (from_of (name_at os n) ≡ s) = (noted.ends.each s sender).back.each n at in
    record {
      few = (let f : length os ≤ MOST_EVENTS = noted.few in omega arith);
      chained = chained_less rs os n short long h noted.chained (λ i l a. take_links os n i l)
          (λ i l some. sym (take_links os n i l).0);
      ends = ends_put rs last new n s (receipt_at os n).near short put (last_alike os rs n n _ _ _ _
          h (omega arith) refl refl (noted.chained.near n (omega arith) here.1))
          (λ q l ne.
          let old : IsLastOfSender os (suc n) q (link_of_sender last q) = subst
          (λ m. IsLastOfSender os m q (link_of_sender last q)) long (noted.ends.each q l) in
          last_shorter rs os n q (link_of_sender last q) h
          (λ e. ne (sym (old.back.each n e).2)) old);
      tree = tree_less rs os root root n short long h noted.tree
          (λ link side low node. inl (
            seated-take os n root link side low,
            no_link os root n link
                side noted.tree (λ a. a.behind here.1) node,
          ));
    }

-- what stays of the chains where the last receipt is not ahead
less_behind : (rs os : List Receipt) (last : EndsView) (root other n : ℕ) → AreNoted os last root
    → length rs ≡ n → length os ≡ suc n → AreAlike os rs n
    → ((i : ℕ) → i < n → IsAhead os i → ((receipt_at os i).near ≡ (receipt_at rs i).near)
    × ((receipt_at os i).far ≡ (receipt_at rs i).far))
    → ((i : ℕ) → i < n → (receipt_at rs i).near ≢ 0
    → (receipt_at rs i).near ≡ (receipt_at os i).near)
    → (IsAhead os n → ⊥) → AreInTree rs other → AreNoted rs last other
less_behind rs os last root other n noted short long h links nears behind tree = record {
  few = (let f : length os ≤ MOST_EVENTS = noted.few in omega arith);
  chained = chained_less rs os n short long h noted.chained links nears;
  ends = record {
    each = λ q l.
        let old : IsLastOfSender os (suc n) q (link_of_sender last q) = subst
        (λ m. IsLastOfSender os m q (link_of_sender last q)) long (noted.ends.each q l) in
        subst (λ m. IsLastOfSender rs m q (link_of_sender last q)) (sym short) (last_shorter rs os n
        q (link_of_sender last q) h (λ e. behind (old.back.each n e).1) old);
  };
  tree = tree;
}

is_behind : (os : List Receipt) (last : EndsView) (root n : ℕ) → AreNoted os last root
    → length os ≡ suc n → link_of_sender last (receipt_at os n).from ≢ suc n → IsAhead os n → ⊥
is_behind os last root n noted long other a =
    let s : ℕ = (receipt_at os n).from in
    let sender : s < MOST_PROCESSES = noted.chained.senders n (omega arith) in
    other (last_is_here os n s (link_of_sender last s) a refl (subst
    (λ m. IsLastOfSender os m s (link_of_sender last s)) long (noted.ends.each s sender)))

-- a receipt less that is in no link
pub noted_less_again : (os : List Receipt) (last : EndsView) (root n above : ℕ) (far : Bool)
    → AreNoted os last root → length os ≡ suc n
    → link_of_sender last (receipt_at os n).from ≢ suc n → IsSeatOf os root (name_at os n) above far
    → link_in_seat os root above far ≢ suc n → AreNoted (take n os) last root
noted_less_again os last root n above far noted long other seat ne =
    let rs : List Receipt = take n os in
    let h : AreAlike os rs n = take_alike os n in
    let short : length rs ≡ n = length-take-le n os (omega arith) in
    less_behind rs os last root root n noted short long h (λ i l a. take_links os n i l)
    (λ i l some. sym (take_links os n i l).0) (is_behind os last root n noted long other)
    (tree_less rs os root root n short long h noted.tree
    (λ link side low node. inl (
      seated-take os n root link side low,
      no_link os root n link side
          noted.tree (λ a. ne (seat.found n (omega arith) a refl)) node,
    )))

-- a receipt less of the tree
pub noted_less_aside : (os mid : List Receipt) (last : EndsView) (root other n above : ℕ)
    (far : Bool) → AreNoted os last root → length os ≡ suc n → length mid ≡ suc n
    → link_of_sender last (receipt_at os n).from ≢ suc n → IsSeatOf os root (name_at os n) above far
    → link_in_seat os root above far ≡ suc n
    → IsPut os root mid other above far 0 → AreNoted (take n mid) last other
noted_less_aside os mid last root other n above far noted long whole ne seat at put =
    let rs : List Receipt = take n mid in
    let k : AreAlike os mid n = names_alike os mid n put.names in
    let t : AreAlike mid rs n = take_alike mid n in
    let h : AreAlike os rs n = record { each = λ i l. k.each i l ∙ t.each i l } in
    let short : length rs ≡ n = length-take-le n mid (omega arith) in
    less_behind rs os last root other n noted short long h
    (λ i l a.
    let e : ((receipt_at os i).near ≡ (receipt_at mid i).near)
    × ((receipt_at os i).far ≡ (receipt_at mid i).far) = links_put os os mid root other above 0
    (suc n) i far long seat.node put (λ link side low. refl) (omega arith) a in
    let f : ((receipt_at mid i).near ≡ (receipt_at rs i).near)
    × ((receipt_at mid i).far ≡ (receipt_at rs i).far) = take_links mid n i l in
    (e.0 ∙ f.0, e.1 ∙ f.1))
    (λ i l some.
    let f : (receipt_at mid i).near ≡ (receipt_at rs i).near = (take_links mid n i l).0 in
    sym f ∙ near_put os mid root other above 0 i far put (λ e. some (sym f ∙ e)))
    (is_behind os last root n noted long ne)
    (tree_less rs os root other n short long h noted.tree (λ link side low node.
    let cut : link_in_seat rs other link side
    ≡ link_in_seat mid other link side = seated-take mid n other link side low in
    let gone : (link ≡ above) × (link ≢ 0 → side ≡ far) →
    ((link_in_seat rs other link side ≡ 0) × (link_in_seat os root link side ≡ suc n)) = λ same. (
      cut ∙ same_seat mid other link above side far same.0 same.1 ∙ put.there,
      same_seat os root link
          above side far same.0 same.1 ∙ at,
    ) in
    elim (put.elsewhere link side) [
      | inl e ↦ elim (cases_eq (link_in_seat os root link side) (suc n)) [
        | inl is ↦ inr (gone (noted.tree.apart link above side far node seat.node
            (λ none. absurd (omega (arith, is, none))) (is ∙ sym at)))
        | inr other ↦ inl (cut ∙ e, other)
      ]
      | inr same ↦ inr (gone same)
    ]))

-- the lists as they stand in a call: a slice of the receipts, and the receipts with one more
module _ (rs items : List Receipt) (last : EndsView) (root : ℕ) (seen : rs ≡ items)
    (before : AreNoted items last root) (few : length items < MOST_EVENTS) where
  noted_so : AreNoted rs last root
  noted_so = subst (λ (xs : List Receipt). AreNoted xs last root) (sym seen) before

  few_so : length rs < MOST_EVENTS
  few_so = let same : length rs
      ≡ length items = ap (λ (xs : List Receipt). length xs) seen in omega arith

  pushed_so : (new : List Receipt) (r : Receipt) → new ≡ items ++ r ∷ [] → new ≡ rs ++ r ∷ []
  pushed_so new r pushed = pushed ∙ ap (λ (xs : List Receipt). xs ++ r ∷ []) (sym seen)

  pub added_ahead : (new : List Receipt) (ends : EndsView) (link : ℕ) (receipt linked : Receipt)
      → new ≡ items ++ linked ∷ [] → link ≡ length items + 1
      → name_of_receipt linked ≡ name_of_receipt receipt
      → receipt.from < MOST_PROCESSES → IsEndPut last ends receipt.from link
      → ((i : ℕ) → i < length rs → (name_at rs i).from ≡ receipt.from
      → (name_at rs i).number < receipt.number)
      → linked.near ≡ link_of_sender last receipt.from
      → IsBack rs (length rs) receipt.from linked.far → AreNoted new ends root
  added_ahead new ends link receipt linked pushed is same sender put above near far =
      let from : linked.from ≡ receipt.from = ap from_of same in
      let number : linked.number ≡ receipt.number = ap number_of same in
      let many : length rs ≡ length items = ap (λ (xs : List Receipt). length xs) seen in
      let links : link ≡ length rs + 1 = omega arith in
      let put_so : IsEndPut last ends linked.from (length rs + 1) = subst (IsEndPut last ends
      linked.from) links (subst (λ s. IsEndPut last ends s link) (sym from) put) in
      subst (λ (xs : List Receipt). AreNoted xs ends root) (sym (pushed_so new linked pushed))
      (noted_ahead rs last ends root linked noted_so few_so (omega arith) put_so
      (λ i l e. let w : number_of (name_at rs i) < receipt.number = above i l
      (e ∙ from) in omega arith)
      (near ∙ ap (λ s. link_of_sender last s) (sym from))
      (subst (λ s. IsBack rs (length rs) s linked.far) (sym from) far))

  pub added_again : (new : List Receipt) (r : Receipt) → new ≡ items ++ r ∷ []
      → r.from < MOST_PROCESSES → r.near ≡ 0
      → ((i : ℕ) × (i < length rs) × ((name_at rs i).from ≡ r.from)
      × (r.number ≤ (name_at rs i).number))
      → (above : ℕ) (far : Bool) → IsSeatOf rs root (name_of_receipt r) above far
      → link_in_seat rs root above far ≢ 0 → AreNoted new last root
  added_again new r pushed sender leaf below above far seat some =
      let k : ℕ = link_in_seat rs root above far - 1 in
      let is : link_in_seat rs root above far ≡ suc k = omega arith in
      let there : (k < length rs)
      × IsAside rs k = (noted_so.tree.nodes above far seat.node).each k is in
      subst (λ (xs : List Receipt). AreNoted xs last root) (sym (pushed_so new r pushed))
      (noted_again rs last root r noted_so few_so sender leaf below
      (k, there.0, there.1, seat.named k is))

  pub pushed_node : (new : List Receipt) (r : Receipt) (link : ℕ) → new ≡ items ++ r ∷ []
      → IsNode rs link → IsNode new link
  pushed_node new r link pushed node =
      let long : length (rs ++ r ∷ []) ≡ suc (length rs) = omega (arith, length_push rs r) in
      subst (λ (xs : List Receipt). IsNode xs link) (sym (pushed_so new r pushed))
      (node_alike rs (rs ++ r ∷ []) (length rs) link (more_alike rs r) (omega arith)
      (node_le rs link node) node)

  pub added_aside : (mid os : List Receipt) (other above link : ℕ) (far : Bool) (r : Receipt)
      → mid ≡ items ++ r ∷ [] → link ≡ length items + 1
      → length os ≡ suc (length items) → r.from < MOST_PROCESSES → r.near ≡ 0 → r.far ≡ 0
      → ((i : ℕ) × (i < length rs) × ((name_at rs i).from ≡ r.from)
      × (r.number ≤ (name_at rs i).number))
      → link_in_seat rs root above far ≡ 0
      → IsSeatOf rs root (name_of_receipt r) above far → IsPut mid root os other above far link
      → AreNoted os last other
  added_aside mid os other above link far r pushed is long sender near back below was seat put =
      let many : length rs ≡ length items = ap (λ (xs : List Receipt). length xs) seen in
      noted_aside rs os last root other above far r noted_so few_so
      (omega arith) sender near back below was seat
      (subst (λ k. IsPut (rs ++ r ∷ []) root os other above far k) (omega arith) (subst (λ
      (xs : List Receipt). IsPut xs root os other above far link) (pushed_so mid r pushed) put))

-- and before the last receipt goes
module _ (rs items : List Receipt) (last : EndsView) (root n k link : ℕ) (seen : rs ≡ items)
    (before : AreNoted items last root) (long : length items ≡ suc n) (here : k ≡ n)
    (is : link ≡ suc n) where
  noted_seen : AreNoted rs last root
  noted_seen = subst (λ (xs : List Receipt). AreNoted xs last root) (sym seen) before

  long_seen : length rs ≡ suc n
  long_seen = ap (λ (xs : List Receipt). length xs) seen ∙ long

  pub unlinked_ahead : (new : EndsView) → IsEndPut last new (receipt_at rs k).from (receipt_at rs
      k).near → link_of_sender last (receipt_at rs k).from ≡ link → AreNoted (take n items) new root
  unlinked_ahead new put e =
      let p : IsEndPut last new (receipt_at rs n).from (receipt_at rs n).near = subst
      (λ j. IsEndPut last new (receipt_at rs j).from (receipt_at rs j).near) here put in
      let f : link_of_sender last (receipt_at rs n).from
      ≡ suc n = subst (λ j. link_of_sender last (receipt_at rs j).from ≡ link) here e ∙ is in
      subst (λ (xs : List Receipt). AreNoted (take n xs) new root) seen
      (noted_less_ahead rs last new root n noted_seen long_seen p f)

  other_at : link_of_sender last (receipt_at rs k).from ≢ link
      → link_of_sender last (receipt_at rs n).from ≢ suc n
  other_at ne e =
      ne (subst (λ j. link_of_sender last (receipt_at rs j).from ≡ link) (sym here) (e ∙ sym is))

  seat_at : (above : ℕ) (far : Bool) → IsSeatOf rs root (name_at rs k) above far
      → IsSeatOf rs root (name_at rs n) above far
  seat_at above far seat = subst (λ j. IsSeatOf rs root (name_at rs j) above far) here seat

  pub unlinked_again : (above : ℕ) (far : Bool) → link_of_sender last (receipt_at rs k).from ≢ link
      → IsSeatOf rs root (name_at rs k) above far → link_in_seat rs root above far ≢ link
      → AreNoted (take n items) last root
  unlinked_again above far other seat ne = subst
      (λ (xs : List Receipt). AreNoted (take n xs) last root) seen
      (noted_less_again rs last root n above far noted_seen long_seen (other_at other)
      (seat_at above far seat) (λ e. ne (e ∙ sym is)))

  pub unlinked_aside : (mid : List Receipt) (other_root above : ℕ) (far : Bool) → length mid ≡ suc n
      → link_of_sender last (receipt_at rs k).from ≢ link
      → IsSeatOf rs root (name_at rs k) above far → link_in_seat rs root above far ≡ link
      → IsPut items root mid other_root above far 0 → AreNoted (take n mid) last other_root
  unlinked_aside mid other_root above far whole other seat e put = noted_less_aside rs mid last root
      other_root n above far noted_seen long_seen whole (other_at other) (seat_at above far seat) (e
      ∙ is) (subst (λ (xs : List Receipt). IsPut xs root mid other_root above far 0) (sym seen) put)
