-- Links by blocks, as blocks come and links are put.
use Rattle.std.proofs.Common.{◌≡◌, ◌≢◌, ℕ, zero, suc, ◌+◌, ◌*◌, ◌/◌, ◌%◌, ◌<◌, ◌≤◌, ◌∷◌, [], List}
use Rattle.std.proofs.Common.{length, set, get_or, replicate, refl, sym, ap, ◌∙◌, arith, inl, inr}
use Rattle.std.proofs.lemmas.Bool.{cases_eq}
use Rattle.std.proofs.lemmas.List.{get_or-set_same, get_or-set_other, get_or_past}
use Rattle.line_tape.specs.Ends.{AreBlocks, EndsView, block_of, link_of_sender, link_in}
use Rattle.line_tape.specs.Ends.{block_count}

-- a sender with a link has a block
pub has_block : (ends : EndsView) (sender : ℕ) → link_of_sender ends sender ≢ 0
    → block_of ends sender ≢ 0
has_block ends sender some none = some (ap (λ b. link_in ends.links b (sender % 16)) none)

pub taken_le : (blocks : List ℕ) → block_count blocks ≤ length blocks
taken_le [] = omega arith
taken_le (zero ∷ bs) = omega (arith, taken_le bs)
taken_le (suc b ∷ bs) = omega (arith, taken_le bs)

-- where one sixteen has no block there are fewer blocks than sixteens
pub taken_lt : (blocks : List ℕ) (group : ℕ) → group < length blocks → get_or blocks group 0 ≡ 0
    → block_count blocks < length blocks
taken_lt [] group low none = absurd (omega arith)
taken_lt (zero ∷ bs) group low none = omega (arith, taken_le bs)
taken_lt (suc b ∷ bs) zero low none = absurd (omega arith)
taken_lt (suc b ∷ bs) (suc group) low none = omega (arith, taken_lt bs group (omega arith) none)

pub taken_set : (blocks : List ℕ) (group block : ℕ) → group < length blocks → get_or blocks group 0
    ≡ 0 → block_count (set blocks group (suc block)) ≡ suc (block_count blocks)
taken_set [] group block low none = absurd (omega arith)
taken_set (zero ∷ bs) zero block low none = refl
taken_set (suc b ∷ bs) zero block low none = absurd (omega arith)
taken_set (zero ∷ bs) (suc group) block low none = taken_set bs group block (omega arith) none
taken_set (suc b ∷ bs) (suc group) block low none =
    ap (λ n. suc n) (taken_set bs group block (omega arith) none)

pub taken_none : (n : ℕ) → block_count (replicate n 0) ≡ 0
taken_none zero = refl
taken_none (suc n) = taken_none n

pub link_same : (links more : List ℕ) (block place : ℕ) → ((place : ℕ) → get_or more place 0
    ≡ get_or links place 0) → link_in more block place ≡ link_in links block place
link_same links more zero place same = refl
link_same links more (suc block) place same = same (block * 16 + place)

-- the blocks with one more
pub blocks_more : (blocks links more : List ℕ) (group : ℕ) → AreBlocks blocks links
    → group < length blocks → get_or blocks group 0 ≡ 0
    → length more ≡ length links + 16 → AreBlocks (set blocks group (suc (block_count blocks))) more
blocks_more blocks links more group are low none long =
    let count : block_count (set blocks group (suc (block_count blocks)))
    ≡ suc (block_count blocks) = taken_set blocks group (block_count blocks) low none in
    let here : get_or (set blocks group (suc (block_count blocks))) group 0 ≡ suc
    (block_count blocks) = get_or-set_same blocks group (suc (block_count blocks)) 0 low in
    record {
      full = (let f : length links ≡ block_count blocks * 16 = are.full in omega arith);
      within = λ g. elim (cases_eq g group) [
        | inl e ↦ omega (
          arith,
          here,
          count,
          ap
              (λ j. get_or (set blocks group (suc (block_count blocks))) j 0) e,
        )
        | inr ne ↦ omega
            (arith, get_or-set_other blocks group g (suc (block_count blocks)) 0 ne, are.within g)
      ];
      apart = λ g h some same. elim (cases_eq g group) [
        | inl e ↦ elim (cases_eq h group) [
          | inl f ↦ e ∙ sym f
          | inr nf ↦ absurd
              (omega (
                arith,
                same,
                here,
                ap
                    (λ j. get_or (set blocks group (suc (block_count blocks))) j 0) e,
                get_or-set_other
                    blocks group h (suc (block_count blocks)) 0 nf,
                are.within h,
              ))
        ]
        | inr ne ↦ elim (cases_eq h group) [
          | inl f ↦ absurd
              (omega (
                arith,
                same,
                here,
                ap
                    (λ j. get_or (set blocks group (suc (block_count blocks))) j 0) f,
                get_or-set_other
                    blocks group g (suc (block_count blocks)) 0 ne,
                are.within g,
              ))
          | inr nf ↦
              let a : get_or (set blocks group (suc (block_count blocks))) g 0 ≡ get_or blocks g 0 =
              get_or-set_other blocks group g (suc (block_count blocks)) 0 ne in
              let b : get_or (set blocks group (suc (block_count blocks))) h 0 ≡ get_or blocks h 0 =
              get_or-set_other blocks group h (suc (block_count blocks)) 0 nf in
              are.apart g h (λ z. some (a ∙ z)) (sym a ∙ same ∙ b)
        ]
      ];
    }

-- and the links are as they were
pub ends_more : (old new : EndsView) (group : ℕ) → AreBlocks old.blocks old.links
    → group < length old.blocks → get_or old.blocks group 0 ≡ 0
    → new.blocks ≡ set old.blocks group (suc (block_count old.blocks))
    → ((place : ℕ) → get_or new.links place 0 ≡ get_or old.links place 0)
    → (sender : ℕ) → link_of_sender new sender ≡ link_of_sender old sender
ends_more old new group are low none blocks links sender = link_same old.links new.links
    (block_of new sender) (sender % 16) links ∙ elim (cases_eq (sender / 16) group) [
      | inl e ↦
          let there : block_of new sender
          ≡ suc (block_count old.blocks) = ap (λ j. get_or new.blocks j 0) e ∙ ap
          (λ (bs : List ℕ). get_or bs group 0) blocks ∙ get_or-set_same old.blocks group
          (suc (block_count old.blocks)) 0 low in
          let before : block_of old sender ≡ 0 = ap (λ j. get_or old.blocks j 0) e ∙ none in
          let past : length old.links ≤ block_count old.blocks * 16 + sender % 16 = omega
          (arith, are.full) in
          ap (λ b. link_in old.links b (sender % 16)) there ∙ get_or_past old.links
          (block_count old.blocks * 16 + sender % 16) 0 past ∙ sym
          (ap (λ b. link_in old.links b (sender % 16)) before)
      | inr ne ↦ ap (λ b. link_in old.links b (sender % 16))
          (ap (λ (bs : List ℕ). get_or bs (sender / 16) 0) blocks ∙ get_or-set_other old.blocks
          group
          (sender / 16) (suc (block_count old.blocks)) 0 ne)
    ]

-- no blocks
pub no_blocks : (n : ℕ) (links : List ℕ) → links ≡ [] → AreBlocks (replicate n 0) links
no_blocks n links none = record {
  full = (let few : length links
      ≡ 0 = ap (λ (xs : List ℕ). length xs) none in omega (arith, taken_none n));
  within = λ group. omega (arith, zeros n group);
  apart = λ group other some same. absurd (some (zeros n group));
}
  where
    zeros : (n group : ℕ) → get_or {A = ℕ} (replicate n 0) group 0 ≡ 0
    zeros zero group = refl
    zeros (suc n) zero = refl
    zeros (suc n) (suc group) = zeros n group
