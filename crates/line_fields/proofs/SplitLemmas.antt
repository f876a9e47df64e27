-- The fields of a line, as far as the bits of a chunk's mask go.
use Rattle.std.proofs.Common.{◌≡◌, ◌≢◌, ◌≤◌, ◌<◌, ◌||◌, ◌∙◌, ◌++◌, ◌∷◌, ◌+◌, ◌-◌, ◌/◌, ◌^◌, ℕ, List}
use Rattle.std.proofs.Common.{[], Bool, true, false, length, map, get_or, refl, ap, sym, subst}
use Rattle.std.proofs.Common.{arith, ne_eqb}
use Rattle.std.proofs.lemmas.Simd.{none_from_empty_mask}
use lib.Count.{count_trailing_zeros}
use lib.Lanes.{chunk, mask_l}
use Rattle.line_fields.specs.Rows.{is_end, is_mark}
use Rattle.line_fields.proofs.EndLemmas.{IsParted, parted_at_comma, parted_runs}
use Rattle.line_fields.proofs.MarkLemmas.{IsFirstMark, first_mark}

-- what is left of the mask of a chunk of sixteen bytes, from a place in it on, as far as which the
-- text is cut into fields
pub record IsUnder (text ends : List ℕ) (at next marks : ℕ) : Type 0 where
  pub parted : IsParted text ends next
  pub low : at ≤ next
  pub high : next ≤ at + 16
  pub room : at + 16 ≤ length text
  pub mask : marks ≡ mask_l (map is_mark (chunk next ((at + 16) - next) text))

pub under_begins : (text ends : List ℕ) (at marks : ℕ) → IsParted text ends at → at + 16 ≤ length
    text → marks ≡ mask_l (map is_mark (chunk at 16 text)) → IsUnder text ends at at marks
under_begins text ends at marks so room is =
    let all : 16 ≡ (at + 16) - at = omega arith in
    record {
      parted = so;
      low = omega arith;
      high = omega arith;
      room = room;
      mask = is ∙ ap
          (λ (n : ℕ). mask_l (map is_mark (chunk at n text))) all;
    }

-- the lowest bit, and what is left behind it
pub under_first : (text ends : List ℕ) (at next marks : ℕ) → IsUnder text ends at next marks
    → 0 < marks
    → IsFirstMark text next ((at + 16) - next) (count_trailing_zeros 64 marks)
    (marks / 2 ^ (count_trailing_zeros 64 marks + 1))
under_first text ends at next marks under some =
    first_mark text next ((at + 16) - next) marks (omega (arith, under.low, under.high, under.room))
    (omega (arith, under.low)) under.mask some

pub under_mark : (text ends : List ℕ) (at next marks : ℕ) → IsUnder text ends at next marks
    → 0 < marks → IsParted text ends (next + count_trailing_zeros 64 marks)
under_mark text ends at next marks under some =
    let first = under_first text ends at next marks under some in
    parted_runs text ends next (count_trailing_zeros 64 marks) under.parted
    (omega (arith, first.within, under.high, under.room)) first.none

pub under_more : (text ends : List ℕ) (at next marks : ℕ) → IsUnder text ends at next marks
    → 0 < marks → get_or text (next + count_trailing_zeros 64 marks) 0 ≡ 44
    → IsUnder text (ends ++ (next + count_trailing_zeros 64 marks) ∷ []) at ((next +
    count_trailing_zeros 64 marks) + 1) (marks / 2 ^ (count_trailing_zeros 64 marks + 1))
under_more text ends at next marks under some comma =
    let first = under_first text ends at next marks under some in
    let r : ℕ = count_trailing_zeros 64 marks in
    let place : next + (r + 1) ≡ (next + r) + 1 = omega arith in
    let width : ((at + 16) - next) - (r + 1) ≡ (at + 16) - ((next + r) + 1) = omega arith in
    record {
      parted = parted_at_comma text ends (next + r) (under_mark text ends at next marks under some)
          (omega (arith, first.within, under.high, under.room)) comma;
      low = omega (arith, under.low);
      high = omega (arith, first.within, under.high);
      room = under.room;
      mask = first.left ∙ ap
          (λ (i : ℕ). mask_l (map is_mark (chunk i (((at + 16) - next) - (r + 1)) text))) place ∙ ap
          (λ (n : ℕ). mask_l (map is_mark (chunk ((next + r) + 1) n text))) width;
    }

-- where no bit is left, no byte of the chunk ends a field any more
pub under_ends : (text ends : List ℕ) (at next marks : ℕ) → IsUnder text ends at next marks
    → marks ≡ 0 → IsParted text ends (at + 16)
under_ends text ends at next marks under none =
    let n : ℕ = (at + 16) - next in
    let room : next + n ≤ length text = omega (arith, under.high, under.room) in
    let whole : next + n ≡ at + 16 = omega (arith, under.high) in
    subst (λ (i : ℕ). IsParted text ends i) whole (parted_runs text ends next n under.parted room
    (none_from_empty_mask is_mark text next n 0 room (sym under.mask ∙ none)))

-- what ends a field and is no comma ends a line
pub other_mark : (b : ℕ) → is_mark b ≡ true → b ≢ 44 → is_end b ≡ true
other_mark b h other = sym (ap (λ (x : Bool). x || is_end b) (ne_eqb b 44 other)) ∙ h

-- none of the three bytes ends no field
pub other_byte : (b : ℕ) → b ≢ 44 → b ≢ 10 → b ≢ 13 → is_mark b ≡ false
other_byte b comma feed return = rw (ne_eqb b 44 comma, ne_eqb b 10 feed, ne_eqb b 13 return) refl

-- a line feed or a carriage return ends a line
pub feed_ends : (b : ℕ) → b ≡ 10 → is_end b ≡ true
feed_ends b is = rw is refl

pub return_ends : (b : ℕ) → b ≡ 13 → is_end b ≡ true
return_ends b is = rw is refl

-- a byte that ends no field is passed
pub parted_passes : (text ends : List ℕ) (at : ℕ) → IsParted text ends at → at < length text
    → is_mark (get_or text at 0) ≡ false → IsParted text ends (at + 1)
parted_passes text ends at so lt other =
    parted_runs text ends at 1 so (omega (arith, lt)) (λ i low high. let here : at ≡ i = omega
    (arith, low, high) in subst (λ (k : ℕ). is_mark (get_or text k 0) ≡ false) here other)
