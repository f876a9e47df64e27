-- Receipts that are ahead, aside or last, as receipts come and go.
use Rattle.std.proofs.Common.{◌≡◌, ◌≢◌, ℕ, zero, suc, ◌<◌, ◌≤◌, List, length, refl, sym, ap, ◌∙◌}
use Rattle.std.proofs.Common.{subst, arith, inl, inr}
use Rattle.std.proofs.lemmas.Bool.{cases_lt, cases_eq}
use Rattle.line_names.specs.declared.limits.TheConstants.{MOST_PROCESSES}
use Rattle.line_names.specs.declared.messages.MsgName.{MsgName}
use Rattle.line_tape.specs.declared.receipts.chains.Receipt.{Receipt}
use Rattle.line_tape.specs.Ends.{EndsView, IsEndPut, link_of_sender}
use Rattle.line_tape.specs.Noted.{AreAlike, AreChained, AreLast, IsAhead, IsAside, IsBack}
use Rattle.line_tape.specs.Noted.{IsLastOfSender, IsWayBack, name_at, receipt_at}

abbrev pub from_of : MsgName → ℕ
from_of m = m.from

abbrev pub number_of : MsgName → ℕ
number_of m = m.number

pub alike_back : (rs os : List Receipt) (n : ℕ) → AreAlike rs os n → AreAlike os rs n
alike_back rs os n h = record { each = λ i l. sym (h.each i l) }

pub ahead_alike : (rs os : List Receipt) (n i : ℕ) → AreAlike rs os n → i < n → IsAhead rs i
    → IsAhead os i
ahead_alike rs os n i h l a = record {
  above = λ j e same.
      let x : name_at rs j ≡ name_at os j = h.each j (omega arith) in
      let y : name_at rs i ≡ name_at os i = h.each i l in
      let u : number_of (name_at rs j) ≡ number_of (name_at os j) = ap number_of x in
      let v : number_of (name_at rs i) ≡ number_of (name_at os i) = ap number_of y in
      let w : number_of (name_at rs j) < number_of (name_at rs i) = a.above j e
      (ap from_of x ∙ same ∙ sym (ap from_of y)) in
      omega arith;
}

pub aside_alike : (rs os : List Receipt) (n i : ℕ) → AreAlike rs os n → i < n → IsAside rs i
    → IsAside os i
aside_alike rs os n i h l a = record {
  first = λ j e behind same. a.first j e (λ ahead. behind (ahead_alike rs os n j h
      (omega arith) ahead)) (h.each j (omega arith) ∙ same ∙ sym (h.each i l));
  behind = λ ahead. a.behind (ahead_alike os rs n i (alike_back rs os n h) l ahead);
}

pub back_alike : (rs os : List Receipt) (n k s t link other : ℕ) → AreAlike rs os n → k ≤ n → s ≡ t
    → link ≡ other → IsBack rs k s link → IsBack os k t other
back_alike rs os n k s t link other h few same is b = record {
  each = λ i e.
      let old : (i < k) × IsAhead rs i × (from_of (name_at rs i) ≡ s) = b.each i (is ∙ e) in
      let within : i < k = old.0 in (
        old.0,
        ahead_alike rs os n i h (omega arith) old.1,
        sym
            (ap from_of (h.each i (omega arith))) ∙ old.2 ∙ same,
      );
}

-- a link to none of more, and as such of another sender that is the same
pub back_wide : (rs : List Receipt) (n m s t link : ℕ) → n ≤ m → s ≡ t → IsBack rs n s link
    → IsBack rs m t link
back_wide rs n m s t link few same b = record {
  each = λ i e.
      let old : (i < n) × IsAhead rs i × (from_of (name_at rs i) ≡ s) = b.each i e in
      let within : i < n = old.0 in
      (omega arith, old.1, old.2 ∙ same);
}

pub back_le : (rs : List Receipt) (n s link : ℕ) → IsBack rs n s link → link ≤ n
back_le rs n s zero b = omega arith
back_le rs n s (suc i) b = let l : i < n = (b.each i refl).0 in omega arith

pub last_alike : (rs os : List Receipt) (n k s t link other : ℕ) → AreAlike rs os n → k ≤ n → s ≡ t
    → link ≡ other → IsLastOfSender rs k s link → IsLastOfSender os k t other
last_alike rs os n k s t link other h few same is b = record {
  back = back_alike rs os n k s t link other h few same is b.back;
  most = λ i l e.
      let x : name_at rs i ≡ name_at os i = h.each i (omega arith) in
      let old : (j : ℕ) × (link ≡ suc j) × (number_of (name_at rs i) ≤ number_of (name_at rs j)) =
      b.most i l (ap from_of x ∙ e ∙ sym same) in
      let within : old.0 < k = (b.back.each old.0 old.1).0 in
      let y : name_at rs old.0 ≡ name_at os old.0 = h.each old.0 (omega arith) in
      let u : number_of (name_at rs i) ≡ number_of (name_at os i) = ap number_of x in
      let v : number_of (name_at rs old.0) ≡ number_of (name_at os old.0) = ap number_of y in
      let w : number_of (name_at rs i) ≤ number_of (name_at rs old.0) = old.2 in
      (old.0, sym is ∙ old.1, omega arith);
}

-- the last one is still that of its sender when a receipt comes that is not above it
pub last_longer : (rs os : List Receipt) (n s link : ℕ) → AreAlike rs os n
    → (from_of (name_at os n) ≡ s → (j : ℕ) × (j < n) × (from_of (name_at rs j) ≡ s)
    × (number_of (name_at os n) ≤ number_of (name_at rs j)))
    → IsLastOfSender rs n s link → IsLastOfSender os (suc n) s link
last_longer rs os n s link h below b = record {
  back = record {
    each = λ i e.
        let old : (i < n) × IsAhead rs i × (from_of (name_at rs i) ≡ s) = b.back.each i e in
        let within : i < n = old.0 in (
          omega arith,
          ahead_alike rs os n i h within old.1,
          sym
              (ap from_of (h.each i within)) ∙ old.2,
        );
  };
  most = λ i l e. elim (cases_lt i n) [
    | inl g ↦ (last_alike rs os n n s s link link h (omega arith) refl refl b).most i g e
    | inr g ↦
        let is : i ≡ n = omega arith in
        let low : (j : ℕ) × (j < n) × (from_of (name_at rs j) ≡ s) × (number_of (name_at os n) ≤
        number_of (name_at rs j)) = below (subst (λ k. from_of (name_at os k) ≡ s) is e) in
        let old : (j : ℕ) × (link ≡ suc j) ×
        (number_of (name_at rs low.0) ≤ number_of (name_at rs j)) = b.most low.0 low.1 low.2 in
        let within : old.0 < n = (b.back.each old.0 old.1).0 in
        let v : number_of (name_at rs old.0)
        ≡ number_of (name_at os old.0) = ap number_of (h.each old.0 within) in
        let p : number_of (name_at os n) ≤ number_of (name_at rs low.0) = low.3 in
        let q : number_of (name_at rs low.0) ≤ number_of (name_at rs old.0) = old.2 in
        let u : number_of (name_at os i)
        ≡ number_of (name_at os n) = ap (λ k. number_of (name_at os k)) is in
        (old.0, old.1, omega arith)
  ];
}

-- and when the last receipt goes, and is not it
pub last_shorter : (rs os : List Receipt) (n s link : ℕ) → AreAlike os rs n → link ≢ suc n
    → IsLastOfSender os (suc n) s link → IsLastOfSender rs n s link
last_shorter rs os n s link h other b =
    last_alike os rs n n s s link link h (omega arith) refl refl (record {
      back = record {
        each = λ i e.
            let old : (i < suc n) × IsAhead os i × (from_of (name_at os i) ≡ s) = b.back.each i e in
            let within : i < suc n = old.0 in
            let apart : i ≢ n = λ is. other (e ∙ ap (λ k. suc k) is) in
            (omega arith, old.1, old.2);
      };
      most = λ i l e. b.most i (omega arith) e;
    })

-- the last receipt is the link's where it is ahead
pub last_here : (os : List Receipt) (n s : ℕ) → IsAhead os n → from_of (name_at os n) ≡ s
    → IsLastOfSender os (suc n) s (suc n)
last_here os n s a from = record {
  back = record {
    each = λ i e.
        let is : n ≡ i = omega arith in
        (omega arith, subst (IsAhead os) is a, subst (λ k. from_of (name_at os k) ≡ s) is from);
  };
  most = λ i l e. elim (cases_lt i n) [
    | inl g ↦
        let w : number_of (name_at os i) < number_of (name_at os n) = a.above i g (e ∙ sym from) in
        (n, refl, omega arith)
    | inr g ↦
        let is : i ≡ n = omega arith in
        let u : number_of (name_at os i)
        ≡ number_of (name_at os n) = ap (λ k. number_of (name_at os k)) is in
        (n, refl, omega arith)
  ];
}

-- and it is no other's
pub last_is_here : (os : List Receipt) (n s link : ℕ) → IsAhead os n → from_of (name_at os n) ≡ s
    → IsLastOfSender os (suc n) s link → link ≡ suc n
last_is_here os n s link a from b =
    let old : (j : ℕ) × (link ≡ suc j)
    × (number_of (name_at os n) ≤ number_of (name_at os j)) = b.most n (omega arith) from in
    let there : (old.0 < suc n) × IsAhead os old.0
    × (from_of (name_at os old.0) ≡ s) = b.back.each old.0 old.1 in
    let within : old.0 < suc n = there.0 in
    let high : number_of (name_at os n) ≤ number_of (name_at os old.0) = old.2 in
    elim (cases_lt old.0 n) [
      | inl g ↦
          let w : number_of (name_at os old.0) < number_of (name_at os n) = a.above old.0 g
          (there.2 ∙ sym from) in
          absurd (omega arith)
      | inr g ↦ let is : link ≡ suc old.0 = old.1 in omega arith
    ]

-- the links to the last of each sender, where one of them is put anew
pub ends_put : (os : List Receipt) (last new : EndsView) (m s link : ℕ) → length os ≡ m
    → IsEndPut last new s link → IsLastOfSender os m s link
    → ((q : ℕ) → q < MOST_PROCESSES → q ≢ s → IsLastOfSender os m q (link_of_sender last q))
    → AreLast os new
ends_put os last new m s link len put here others = record {
  each = λ q l. elim (cases_eq q s) [
    | inl e ↦ subst (λ x. IsLastOfSender os x q (link_of_sender new q)) (sym len)
        (subst (IsLastOfSender os m q) (sym (ap (link_of_sender new) e ∙ put.there))
        (subst (λ x. IsLastOfSender os m x link) (sym e) here))
    | inr ne ↦ subst (λ x. IsLastOfSender os x q (link_of_sender new q)) (sym len)
        (subst (IsLastOfSender os m q) (sym (put.elsewhere q ne)) (others q l ne))
  ];
}

-- the links between the first receipts, where these keep them
pub chained_alike : (rs os : List Receipt) (n : ℕ) → AreAlike rs os n → n ≤ length rs
    → AreChained rs
    → ((i : ℕ) → i < n → IsAhead rs i → ((receipt_at rs i).near ≡ (receipt_at os i).near)
    × ((receipt_at rs i).far ≡ (receipt_at os i).far))
    → (i : ℕ) → i < n → IsAhead os i
    → IsLastOfSender os i (from_of (name_at os i)) (receipt_at os i).near
    × IsBack os i (from_of (name_at os i)) (receipt_at os i).far
chained_alike rs os n h few chained links i l a =
    let old : IsAhead rs i = ahead_alike os rs n i (alike_back rs os n h) l a in
    let from : from_of (name_at rs i) ≡ from_of (name_at os i) = ap from_of (h.each i l) in
    let within : i < length rs = omega arith in (
      last_alike rs os n i (from_of (name_at rs i)) (from_of (name_at os i)) (receipt_at rs i).near
          (receipt_at os i).near h (omega arith) from (links i l old).0 (chained.near i within old),
      back_alike rs os n i (from_of (name_at rs i)) (from_of (name_at os i)) (receipt_at rs i).far
          (receipt_at os i).far h (omega arith) from (links i l old).1 (chained.far i within old),
    )

-- a receipt is still ahead by its link back
told_alike : (rs os : List Receipt) (n : ℕ) → AreAlike rs os n → n ≤ length rs → AreChained rs
    → (i : ℕ) → i < n → (receipt_at os i).near ≡ (receipt_at rs i).near
    → (receipt_at os i).near ≢ 0 → (receipt_at os i).near ≤ i → IsAhead os i
told_alike rs os n h few chained i l same some back =
    ahead_alike rs os n i h l
    (chained.told i (omega arith) (λ none. some (same ∙ none)) (omega (arith, same, back)))

-- one receipt more
pub chained_more : (rs os : List Receipt) (n : ℕ) → length rs ≡ n → length os ≡ suc n
    → AreAlike rs os n → AreChained rs
    → ((i : ℕ) → i < n → IsAhead rs i → ((receipt_at rs i).near ≡ (receipt_at os i).near)
    × ((receipt_at rs i).far ≡ (receipt_at os i).far))
    → (IsAhead os n → IsLastOfSender rs n (from_of (name_at os n)) (receipt_at os n).near
    × IsBack rs n (from_of (name_at os n)) (receipt_at os n).far)
    → ((i : ℕ) → i < n → (receipt_at os i).near ≢ 0 → (receipt_at os i).near ≤ i
    → (receipt_at os i).near ≡ (receipt_at rs i).near)
    → ((receipt_at os n).near ≢ 0 → (receipt_at os n).near ≤ n → IsAhead os n)
    → from_of (name_at os n) < MOST_PROCESSES → AreChained os
chained_more rs os n short long h chained links here nears told sender = record {
  near = λ i l a. elim (cases_lt i n) [
    | inl g ↦ (chained_alike rs os n h (omega arith) chained links i g a).0
    | inr g ↦
        let is : n ≡ i = omega arith in
        subst (λ k. IsLastOfSender os k (from_of (name_at os k)) (receipt_at os k).near) is
        (last_alike rs os n n _ _ _ _ h (omega arith) refl refl
        (here (subst (IsAhead os) (sym is) a)).0)
  ];
  far = λ i l a. elim (cases_lt i n) [
    | inl g ↦ (chained_alike rs os n h (omega arith) chained links i g a).1
    | inr g ↦
        let is : n ≡ i = omega arith in
        subst (λ k. IsBack os k (from_of (name_at os k)) (receipt_at os k).far) is (back_alike rs os
        n n _ _ _ _ h (omega arith) refl refl (here (subst (IsAhead os) (sym is) a)).1)
  ];
  told = λ i l some back. elim (cases_lt i n) [
    | inl g ↦ told_alike rs os n h (omega arith) chained i g (nears i g some back) some back
    | inr g ↦
        let is : n ≡ i = omega arith in
        subst (IsAhead os) is (told (subst (λ k. (receipt_at os k).near ≢ 0) (sym is) some)
        (subst (λ k. (receipt_at os k).near ≤ k) (sym is) back))
  ];
  senders = λ i l. elim (cases_lt i n) [
    | inl g ↦ subst (λ x. x < MOST_PROCESSES) (ap from_of (h.each i g))
        (chained.senders i (omega arith))
    | inr g ↦
        let is : n ≡ i = omega arith in
        subst (λ k. from_of (name_at os k) < MOST_PROCESSES) is sender
  ];
}

-- one receipt less
pub chained_less : (rs os : List Receipt) (n : ℕ) → length rs ≡ n → length os ≡ suc n
    → AreAlike os rs n → AreChained os
    → ((i : ℕ) → i < n → IsAhead os i → ((receipt_at os i).near ≡ (receipt_at rs i).near)
    × ((receipt_at os i).far ≡ (receipt_at rs i).far))
    → ((i : ℕ) → i < n → (receipt_at rs i).near ≢ 0
    → (receipt_at rs i).near ≡ (receipt_at os i).near)
    → AreChained rs
chained_less rs os n short long h chained links nears = record {
  near = λ i l a. (chained_alike os rs n h (omega arith) chained links i (omega arith) a).0;
  far = λ i l a. (chained_alike os rs n h (omega arith) chained links i (omega arith) a).1;
  told = λ i l some back. told_alike os rs n h (omega arith) chained i (omega arith)
      (nears i (omega arith) some) some back;
  senders = λ i l. subst (λ x. x < MOST_PROCESSES) (ap from_of (h.each i (omega arith)))
      (chained.senders i (omega arith));
}

-- the way back from the last one of a sender leads over all of them
pub way_from_last : (rs : List Receipt) (m : MsgName) (link : ℕ)
    → IsLastOfSender rs (length rs) m.from link → IsWayBack rs m link
way_from_last rs m link last = record {
  back = last.back;
  each = λ i l a from number.
      let k : (k : ℕ) × (link ≡ suc k)
      × (number_of (name_at rs i) ≤ number_of (name_at rs k)) = last.most i l from in
      let there : (k.0 < length rs) × IsAhead rs k.0
      × (from_of (name_at rs k.0) ≡ m.from) = last.back.each k.0 k.1 in
      way_from rs i k.0 link a k.1 (there.2 ∙ sym from) k.2;
}
  where
    way_from : (rs : List Receipt) (i k link : ℕ) → IsAhead rs i → link ≡ suc k
        → from_of (name_at rs k) ≡ from_of (name_at rs i)
        → number_of (name_at rs i) ≤ number_of (name_at rs k) → i < link
    way_from rs i k link a is from high = elim (cases_lt k i) [
      | inl g ↦ let w : number_of (name_at rs k) < number_of (name_at rs i) =
          a.above k g from in absurd (omega arith)
      | inr g ↦ omega arith
    ]
