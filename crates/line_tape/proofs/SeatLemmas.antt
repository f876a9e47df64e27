-- The tree of receipts as they come and go, and walks in it.
use Rattle.std.proofs.Common.{◌≡◌, ◌≢◌, ℕ, zero, suc, ◌+◌, ◌-◌, ◌<◌, ◌≤◌, ◌⊎◌, ◌++◌, Bool, false}
use Rattle.std.proofs.Common.{List, length, take, refl, sym, ap, ◌∙◌, subst, arith, inl, inr}
use Rattle.std.specs.Prelude.{if◌then◌else◌}
use Rattle.std.proofs.lemmas.Bool.{cases_lt, cases_eq}
use Rattle.std.proofs.lemmas.List.{get_or_append_left, get_or-take}
use Rattle.line_names.specs.declared.messages.MsgName.{MsgName}
use Rattle.line_tape.specs.declared.receipts.chains.Receipt.{Receipt}
use Rattle.line_tape.specs.Noted.{AreAlike, AreInTree, IsAside, IsWalkedTo, IsNode, IsSeatOf}
use Rattle.line_tape.specs.Noted.{is_far, key_of, name_at, next_down, rest_of_key, link_in_seat}
use Rattle.line_tape.specs.Noted.{link_by_key}
use Rattle.line_tape.proofs.AheadLemmas.{alike_back, aside_alike}

pub none_node : (rs : List Receipt) → IsNode rs 0
none_node rs = record { each = λ i e. absurd (omega arith) }

pub node_le : (rs : List Receipt) (link : ℕ) → IsNode rs link → link ≤ length rs
node_le rs zero node = omega arith
node_le rs (suc i) node = let l : i < length rs = (node.each i refl).0 in omega arith

-- a node of these receipts is one of others of the same messages
pub node_alike : (rs os : List Receipt) (n link : ℕ) → AreAlike rs os n → n ≤ length os → link ≤ n
    → IsNode rs link → IsNode os link
node_alike rs os n link h few low node = record {
  each = λ i e. (omega arith, aside_alike rs os n i h (omega arith) (node.each i e).1);
}

pub seated-append : (rs more : List Receipt) (root link : ℕ) (far : Bool) → link ≤ length rs
    → link_in_seat (rs ++ more) root link far ≡ link_in_seat rs root link far
seated-append rs more root zero far low = refl
seated-append rs more root (suc i) far low = ap (λ (r : Receipt). if far then r.far else r.near)
    (get_or_append_left rs more _ i (omega arith))

pub seated-take : (rs : List Receipt) (n root link : ℕ) (far : Bool) → link ≤ n
    → link_in_seat (take n rs) root link far ≡ link_in_seat rs root link far
seated-take rs n root zero far low = refl
seated-take rs n root (suc i) far low =
    ap (λ (r : Receipt). if far then r.far else r.near) (get_or-take n rs i _ (omega arith))

-- two ways to write one seat
pub same_seat : (rs : List Receipt) (root link above : ℕ) (side far : Bool) → link ≡ above
    → (link ≢ 0 → side ≡ far) → link_in_seat rs root link side ≡ link_in_seat rs root above far
same_seat rs root zero above side far e same = ap (λ k. link_in_seat rs root k far) e
same_seat rs root (suc i) above side far e same =
    let is : side ≡ far = same (λ none. absurd (omega arith)) in
    ap (link_in_seat rs root (suc i)) is ∙ ap (λ k. link_in_seat rs root k far) e

down_node : (rs : List Receipt) (root link : ℕ) (far : Bool) → AreInTree rs root → IsNode rs link
    → IsNode rs (next_down rs root link far)
down_node rs root zero far tree node = none_node rs
down_node rs root (suc i) far tree node = tree.nodes (suc i) far node

pub walked_node : (rs : List Receipt) (root key d : ℕ) → AreInTree rs root
    → IsNode rs (link_by_key rs root key d)
walked_node rs root key zero tree = tree.nodes 0 false (none_node rs)
walked_node rs root key (suc d) tree = down_node rs root (link_by_key rs root key d)
    (is_far (rest_of_key key d)) tree (walked_node rs root key d tree)

-- a walk that has ended stays so
pub walked_off : (rs : List Receipt) (root key d e : ℕ) → link_by_key rs root key d ≡ 0
    → link_by_key rs root key (d + e) ≡ 0
walked_off rs root key d zero h =
    let e : d ≡ d + 0 = omega arith in subst (λ k. link_by_key rs root key k ≡ 0) e h
walked_off rs root key d (suc e) h =
    let is : suc (d + e) ≡ d + suc e = omega arith in
    subst (λ k. link_by_key rs root key k ≡ 0) is (ap (λ k. next_down rs root k
    (is_far (rest_of_key key (d + e)))) (walked_off rs root key d e h))

pub next_some : (rs : List Receipt) (root link : ℕ) (far : Bool) → link ≢ 0
    → next_down rs root link far ≡ link_in_seat rs root link far
next_some rs root zero far some = absurd (some refl)
next_some rs root (suc i) far some = refl

-- what a walk has still to find
abbrev pub IsStillAhead : List Receipt → ℕ → MsgName → ℕ → Type 0
IsStillAhead rs root m d = (i : ℕ) → i < length rs → IsAside rs i → name_at rs i ≡ m
    → (e : ℕ) × (link_by_key rs root (key_of m) (d + e) ≡ suc i)

pub walk_begins : (rs : List Receipt) (root : ℕ) (m : MsgName) → AreInTree rs root
    → IsStillAhead rs root m 0
walk_begins rs root m tree i l a named =
    let old : (d : ℕ)
    × (link_by_key rs root (key_of (name_at rs i)) d ≡ suc i) = tree.reached i l a in
    let is : old.0 ≡ 0 + old.0 = omega arith in (
      old.0,
      subst (λ k. link_by_key rs root (key_of m) k ≡ suc i) is
          (subst (λ (x : MsgName). link_by_key rs root (key_of x) old.0 ≡ suc i) named old.1),
    )

pub walk_goes_on : (rs : List Receipt) (root d link : ℕ) (m : MsgName)
    → link_by_key rs root (key_of m) d ≡ link → ((i : ℕ) → link ≡ suc i → name_at rs i ≢ m)
    → IsStillAhead rs root m d → IsStillAhead rs root m (suc d)
walk_goes_on rs root d link m here other before i l a named = go (before i l a named)
  where
    go : (e : ℕ) × (link_by_key rs root (key_of m) (d + e) ≡ suc i)
        → (e : ℕ) × (link_by_key rs root (key_of m) (suc d + e) ≡ suc i)
    go (zero, at) = let is : d + 0 ≡ d = omega arith in absurd
        (other i (sym here ∙ subst (λ k. link_by_key rs root (key_of m) k ≡ suc i) is at) named)
    go (suc e, at) = let is : d + suc e ≡ suc d + e = omega arith in
        (e, subst (λ k. link_by_key rs root (key_of m) k ≡ suc i) is at)

-- two receipts aside of one message are one
pub aside_once : (rs : List Receipt) (i j : ℕ) → IsAside rs i → IsAside rs j
    → name_at rs i ≡ name_at rs j → i ≡ j
aside_once rs i j a b same = elim (cases_lt i j) [
  | inl l ↦ absurd (b.first i l a.behind same)
  | inr g ↦ elim
      (cases_lt j i) [ inl l ↦ absurd (a.first j l b.behind (sym same)) | inr k ↦ omega arith ]
]

-- the walk ends at a receipt of the message
pub seat_found : (rs : List Receipt) (root above link d : ℕ) (far : Bool) (m : MsgName)
    → AreInTree rs root → IsNode rs above → link_in_seat rs root above far ≡ link
    → IsWalkedTo rs root (key_of m) above far d
    → link ≢ 0 → name_at rs (link - 1) ≡ m → IsSeatOf rs root m above far
seat_found rs root above zero d far m tree node at led some named = absurd (some refl)
seat_found rs root above (suc k) d far m tree node at led some named =
    let e : suc k - 1 ≡ k = omega arith in
    let here : name_at rs k ≡ m = subst (λ j. name_at rs j ≡ m) e named in
    let aside : IsAside rs k = ((tree.nodes above far node).each k at).1 in
    record {
      node = node;
      led = (d, led);
      named = λ i is. let same : k
          ≡ i = omega (arith, at, is) in subst (λ j. name_at rs j ≡ m) same here;
      found = λ i l a name. at ∙ ap (λ j. suc j) (aside_once rs k i aside a (here ∙ sym name));
    }

-- and at an empty seat
pub seat_none : (rs : List Receipt) (root above link d : ℕ) (far : Bool) (m : MsgName)
    → AreInTree rs root → IsNode rs above → link_in_seat rs root above far ≡ link
    → link_by_key rs root (key_of m) d ≡ link → IsWalkedTo rs root (key_of m) above far d
    → IsStillAhead rs root m d → link ≡ 0 → IsSeatOf rs root m above far
seat_none rs root above link d far m tree node at here led before none = record {
  node = node;
  led = (d, led);
  named = λ i is. absurd (omega (arith, at, none, is));
  found = λ i l a name.
      let more : (e : ℕ) × (link_by_key rs root (key_of m) (d + e) ≡ suc i) = before i l a name in
      let off : link_by_key rs root (key_of m) (d + more.0)
      ≡ 0 = walked_off rs root (key_of m) d more.0 (here ∙ none) in
      absurd (omega (arith, off, more.1));
}

-- other receipts keep the links up to a bound
abbrev Keeps : List Receipt → ℕ → List Receipt → ℕ → ℕ → Type 0
Keeps rs root os other bound = (link : ℕ) (far : Bool) → IsNode rs link
    → link_in_seat rs root link far ≢ 0 → link_in_seat rs root link far ≤ bound
    → link_in_seat os other link far ≡ link_in_seat rs root link far

kept_step : (rs os : List Receipt) (root other bound : ℕ) (far : Bool) → AreInTree rs root
    → Keeps rs root os other bound → (from to i : ℕ) → IsNode rs from
    → next_down rs root from far ≡ suc i → suc i ≤ bound
    → ((k : ℕ) → from ≡ suc k → suc k ≤ bound → to ≡ suc k) → next_down os other to far ≡ suc i
kept_step rs os root other bound far tree keep zero to i node e low before = absurd (omega arith)
kept_step rs os root other bound far tree keep (suc k) to i node e low before =
    let some : link_in_seat rs root (suc k) far ≢ 0 = λ none. absurd (omega (arith, e, none)) in
    let later : suc k < link_in_seat rs root (suc k) far = tree.later (suc k) far node some in
    let is : to ≡ suc k = before k refl (omega (arith, e)) in
    ap (λ x. next_down os other x far) is ∙ keep (suc k) far node some (omega (arith, e)) ∙ e

-- and so the walks that end there
pub kept_walk : (rs os : List Receipt) (root other bound key : ℕ) → AreInTree rs root
    → Keeps rs root os other bound → (d i : ℕ) → link_by_key rs root key d ≡ suc i → suc i ≤ bound
    → link_by_key os other key d ≡ suc i
kept_walk rs os root other bound key tree keep zero i e low =
    keep 0 false (none_node rs) (λ none. absurd (omega (arith, e, none))) (omega (arith, e)) ∙ e
kept_walk rs os root other bound key tree keep (suc d) i e low =
    kept_step rs os root other bound (is_far (rest_of_key key d)) tree keep
    (link_by_key rs root key d) (link_by_key os other key d) i (walked_node rs root key d tree)
    e low (λ k is less. kept_walk rs os root other bound key tree keep d k is less)

reached_alike : (rs os : List Receipt) (root other n : ℕ) → AreAlike rs os n → n ≤ length rs
    → AreInTree rs root → Keeps rs root os other n → (i : ℕ) → i < n → IsAside os i
    → (d : ℕ) × (link_by_key os other (key_of (name_at os i)) d ≡ suc i)
reached_alike rs os root other n h few tree keep i l a =
    let old : (d : ℕ) × (link_by_key rs root (key_of (name_at rs i)) d ≡ suc i) = tree.reached i
    (omega arith) (aside_alike os rs n i (alike_back rs os n h) l a) in (
      old.0,
      subst (λ (m : MsgName). link_by_key os other (key_of m) old.0 ≡ suc i) (h.each i l)
          (kept_walk rs os root other n (key_of (name_at rs i)) tree keep old.0 i old.1
          (omega arith)),
    )

-- one receipt more, which isn't in the tree
module _ (rs os : List Receipt) (root n : ℕ) (short : length rs ≡ n) (long : length os ≡ suc n)
    (h : AreAlike rs os n) (tree : AreInTree rs root)
    (same : (link : ℕ) (far : Bool) → link ≤ n → link_in_seat os root link far
    ≡ link_in_seat rs root link far) (other : IsAside os n → ⊥) where
  old_node : (link : ℕ) → IsNode os link → IsNode rs link
  old_node link node = record {
    each = λ i e.
        let a : IsAside os i = (node.each i e).1 in
        let l : i < length os = (node.each i e).0 in
        let ne : i ≢ n = λ is. other (subst (IsAside os) is a) in
        (omega arith, aside_alike os rs n i (alike_back rs os n h) (omega arith) a);
  }

  new_node : (link : ℕ) → IsNode rs link → IsNode os link
  new_node link node = node_alike rs os n link h (omega arith)
      (let l : link ≤ length rs = node_le rs link node in omega arith) node

  same_at : (link : ℕ) (far : Bool) → IsNode os link
      → link_in_seat os root link far ≡ link_in_seat rs root link far
  same_at link far node =
      same link far (let l : link ≤ length rs = node_le rs link (old_node link node) in omega arith)

  pub tree_same : AreInTree os root
  tree_same = record {
    nodes = λ link far node. subst (IsNode os) (sym (same_at link far node))
        (new_node (link_in_seat rs root link far) (tree.nodes link far (old_node link node)));
    later = λ link far node some. subst (λ k. link < k) (sym (same_at link far node))
        (tree.later link far (old_node link node) (λ none. some (same_at link far node ∙ none)));
    apart = λ a b x y one two some is. tree.apart a b x y (old_node a one) (old_node b two)
        (λ none. some (same_at a x one ∙ none)) (sym (same_at a x one) ∙ is ∙ same_at b y two);
    reached = λ i l a.
        let ne : i ≢ n = λ is. other (subst (IsAside os) is a) in
        reached_alike rs os root root n h (omega arith) tree (λ link far node some low. same link
        far (let w : link ≤ length rs = node_le rs link node in omega arith)) i (omega arith) a;
  }

-- one receipt more, in a seat that was empty
module _ (rs os : List Receipt) (root other n above : ℕ) (far : Bool) (d : ℕ) (short : length rs
    ≡ n) (long : length os ≡ suc n) (h : AreAlike rs os n) (tree : AreInTree rs root)
    (slot : (link : ℕ) (side : Bool) → link ≤ n → (link_in_seat os other link side
    ≡ link_in_seat rs root link side) ⊎ ((link ≡ above) × (link ≢ 0 → side ≡ far)))
    (there : link_in_seat os other above far ≡ suc n) (was : link_in_seat rs root above far ≡ 0)
    (leaf : (side : Bool) → link_in_seat os other (suc n) side ≡ 0)
    (aside : IsAside os n) (node : IsNode rs above)
    (led : IsWalkedTo rs root (key_of (name_at os n)) above far d) where
  abbrev IsSlot : ℕ → Bool → Type 0
  IsSlot link side = (link_in_seat os other link side ≡ link_in_seat rs root link side)
      ⊎ ((link ≡ above) × (link ≢ 0 → side ≡ far))

  up_node : (link : ℕ) → IsNode rs link → IsNode os link
  up_node link low = node_alike rs os n link h (omega arith)
      (let l : link ≤ length rs = node_le rs link low in omega arith) low

  down : (link : ℕ) → link ≤ n → IsNode os link → IsNode rs link
  down link low up = node_alike os rs n link (alike_back rs os n h) (omega arith) low up

  here_node : IsNode os (suc n)
  here_node = record
      { each = λ i e. let is : n ≡ i = omega arith in (omega arith, subst (IsAside os) is aside) }

  low_or_here : (link : ℕ) → IsNode os link → (link ≤ n) ⊎ (link ≡ suc n)
  low_or_here link up =
      let l : link ≤ length os = node_le os link up in
      elim (cases_eq link (suc n)) [ inl e ↦ inr e | inr ne ↦ inl (omega arith) ]

  -- where a link is, its seat is no new one
  low_some : (link : ℕ) (side : Bool) → IsNode os link → link_in_seat os other link side ≢ 0
      → link ≤ n
  low_some link side up some = elim (low_or_here link up) [
    | inl low ↦ low
    | inr e ↦ absurd (some (ap (λ k. link_in_seat os other k side) e ∙ leaf side))
  ]

  -- a link is as it was, or it is the new one
  split : (link : ℕ) (side : Bool) → link ≤ n
      → (link_in_seat os other link side ≡ link_in_seat rs root link side)
      ⊎ ((link_in_seat os other link side ≡ suc n) × (link_in_seat rs root link side ≡ 0)
      × (link ≡ above) × (link ≢ 0 → side ≡ far))
  split link side low = elim (slot link side low) [
    | inl e ↦ inl e
    | inr (e, f) ↦ inr (
      same_seat os other link above side far e f ∙ there,
      same_seat rs root link
          above side far e f ∙ was,
      e,
      f,
    )
  ]

  old_le : (link : ℕ) (side : Bool) → IsNode rs link → link_in_seat rs root link side ≤ n
  old_le link side low = let l : link_in_seat rs root link side ≤ length rs = node_le rs
      (link_in_seat rs root link side) (tree.nodes link side low) in omega arith

  keeps : Keeps rs root os other n
  keeps link side low some few =
      elim (split link side (let l : link ≤ length rs = node_le rs link low in omega arith)) [
        | inl e ↦ e
        | inr (a, b, c, f) ↦ absurd (some b)
      ]

  pub nodes_more : (link : ℕ) (side : Bool) → IsNode os link
      → IsNode os (link_in_seat os other link side)
  nodes_more link side up = elim (low_or_here link up) [
    | inl low ↦ elim (split link side low) [
      | inl e ↦ subst (IsNode os) (sym e)
          (up_node (link_in_seat rs root link side) (tree.nodes link side (down link low up)))
      | inr (e, b, c, f) ↦ subst (IsNode os) (sym e) here_node
    ]
    | inr e ↦ subst (IsNode os) (sym (ap (λ k. link_in_seat os other k side) e ∙ leaf side))
        (none_node os)
  ]

  pub later_more : (link : ℕ) (side : Bool) → IsNode os link → link_in_seat os other link side ≢ 0
      → link < link_in_seat os other link side
  later_more link side up some =
      let low : link ≤ n = low_some link side up some in
      elim (split link side low) [
        | inl e ↦ subst (λ k. link < k) (sym e)
            (tree.later link side (down link low up) (λ none. some (e ∙ none)))
        | inr (e, b, c, f) ↦ subst (λ k. link < k) (sym e) (omega arith)
      ]

  pub apart_more : (a b : ℕ) (x y : Bool) → IsNode os a → IsNode os b → link_in_seat os other a x ≢
      0 → link_in_seat os other a x ≡ link_in_seat os other b y → (a ≡ b) × (a ≢ 0 → x ≡ y)
  apart_more a b x y one two some is =
      let p : a ≤ n = low_some a x one some in
      let q : b ≤ n = low_some b y two (λ none. some (is ∙ none)) in
      elim (split a x p) [
        | inl e ↦ elim (split b y q) [
          | inl g ↦ tree.apart a b x y (down a p one) (down b q two) (λ none. some (e ∙ none))
              (sym e ∙ is ∙ g)
          | inr (g, u, v, w) ↦
              let l : link_in_seat rs root a x ≤ n = old_le a x (down a p one) in
              let k : link_in_seat rs root a x ≡ suc n = sym e ∙ is ∙ g in
              absurd (omega arith)
        ]
        | inr (e, r, s, t) ↦ elim (split b y q) [
          | inl g ↦
              let l : link_in_seat rs root b y ≤ n = old_le b y (down b q two) in
              let k : link_in_seat rs root b y ≡ suc n = sym g ∙ sym is ∙ e in
              absurd (omega arith)
          | inr (g, u, v, w) ↦ (s ∙ sym v, λ ne. t ne ∙ sym (w (λ none. ne (s ∙ sym v ∙ none))))
        ]
      ]

  led_here : (d : ℕ) → IsWalkedTo rs root (key_of (name_at os n)) above far d
      → (e : ℕ) × (link_by_key os other (key_of (name_at os n)) e ≡ suc n)
  led_here zero none = (0, ap (λ k. link_in_seat os other k far) (sym none) ∙ there)
  led_here (suc d) (to, some, side) =
      let key : ℕ = key_of (name_at os n) in
      go above refl
    where
      go : (x : ℕ) → above ≡ x → (e : ℕ) × (link_by_key os other (key_of (name_at os n)) e ≡ suc n)
      go zero e = absurd (some e)
      go (suc k) e =
          let low : above ≤ length rs = node_le rs above node in
          let kept : link_by_key os other (key_of (name_at os n)) d ≡ suc k = kept_walk rs os root
          other n (key_of (name_at os n)) tree keeps d k (to ∙ e) (omega arith) in (
            suc d,
            ap (λ x. next_down os other x (is_far (rest_of_key (key_of (name_at os n)) d)))
                kept ∙ ap (link_in_seat os other (suc k)) (sym side) ∙ ap
                (λ x. link_in_seat os other x far) (sym e) ∙ there,
          )

  pub tree_more : AreInTree os other
  tree_more = record {
    nodes = nodes_more;
    later = later_more;
    apart = apart_more;
    reached = λ i l a. elim (cases_lt i n) [
      | inl g ↦ reached_alike rs os root other n h (omega arith) tree keeps i g a
      | inr g ↦
          let is : n ≡ i = omega arith in
          subst (λ k. (e : ℕ) × (link_by_key os other (key_of (name_at os k)) e ≡ suc k)) is
          (led_here d led)
    ];
  }

-- one receipt less, and no link to it
module _ (rs os : List Receipt) (root other n : ℕ) (short : length rs ≡ n)
    (long : length os ≡ suc n) (h : AreAlike os rs n) (tree : AreInTree os root)
    (slot : (link : ℕ) (side : Bool) → link ≤ n → IsNode os link
    → ((link_in_seat rs other link side ≡ link_in_seat os root link side)
    × (link_in_seat os root link side ≢ suc n))
    ⊎ ((link_in_seat rs other link side ≡ 0) × (link_in_seat os root link side ≡ suc n))) where
  was_node : (link : ℕ) → IsNode rs link → IsNode os link
  was_node link low = node_alike rs os n link (alike_back os rs n h) (omega arith)
      (let l : link ≤ length rs = node_le rs link low in omega arith) low

  still_node : (link : ℕ) → link ≢ suc n → IsNode os link → IsNode rs link
  still_node link ne up = node_alike os rs n link h (omega arith)
      (let l : link ≤ length os = node_le os link up in omega arith) up

  few_node : (link : ℕ) → IsNode rs link → link ≤ n
  few_node link low = let l : link ≤ length rs = node_le rs link low in omega arith

  pub tree_less : AreInTree rs other
  tree_less = record {
    nodes = λ link side low. elim (slot link side (few_node link low) (was_node link low)) [
      | inl (e, ne) ↦ subst (IsNode rs) (sym e) (still_node (link_in_seat os root link side) ne
          (tree.nodes link side (was_node link low)))
      | inr (e, f) ↦ subst (IsNode rs) (sym e) (none_node rs)
    ];
    later = λ link side low some. elim (slot link side (few_node link low) (was_node link low)) [
      | inl (e, ne) ↦ subst (λ k. link < k) (sym e)
          (tree.later link side (was_node link low) (λ none. some (e ∙ none)))
      | inr (e, f) ↦ absurd (some e)
    ];
    apart = λ a b x y one two some is. elim (slot a x (few_node a one) (was_node a one)) [
      | inl (e, ne) ↦ elim (slot b y (few_node b two) (was_node b two)) [
        | inl (g, ng) ↦ tree.apart a b x y (was_node a one) (was_node b two)
            (λ none. some (e ∙ none)) (sym e ∙ is ∙ g)
        | inr (g, f) ↦ absurd (some (is ∙ g))
      ]
      | inr (e, f) ↦ absurd (some e)
    ];
    reached =
        λ i l a. reached_alike os rs root other n h (omega arith) tree (λ link side up some low.
        let later : link < link_in_seat os root link side = tree.later link side up some in
        elim (slot link side (omega arith) up) [
          | inl (e, ne) ↦ e
          | inr (e, f) ↦ absurd (omega arith)
        ]) i (omega arith) a;
  }
