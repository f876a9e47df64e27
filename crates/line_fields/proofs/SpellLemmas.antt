-- Bytes spelled in the lanes of a vector.
use Rattle.std.proofs.Common.{◌≡◌, ◌<◌, ◌+◌, ◌-◌, ◌/◌, ◌%◌, ◌∙◌, ◌++◌, ◌∷◌, [], ℕ, List, ap, sym}
use Rattle.std.proofs.Common.{map, zero, suc, cond, refl, append_assoc, get_or, length, take, drop}
use Rattle.std.proofs.Common.{replicate, arith, w8, Fits}
use Rattle.std.specs.Prelude.{nat_lt}
use lib.Lanes.{zip2, sel_l, pick_l, top, Each1}
use Rattle.std.proofs.lemmas.List.{drop_all, drop_more, take-append-drop}
use Rattle.std.proofs.lemmas.Grind.{flat_map-append}
use Rattle.std.proofs.lemmas.Simd.{Each1-get_or, tops_compared, zip2_splat}
use Rattle.line_fields.specs.Texts.{hex_digit, hex_pair, hex_text}
use Rattle.line_fields.proofs.TextLemmas.{rest_is}
use Rattle.line_fields.proofs.LaneLemmas.{is_less, plus, sel_of_maps}

-- the digits of lanes as they are computed
abbrev digits : List ℕ → List ℕ
digits lanes = sel_l (map (top 7) (zip2 is_less lanes (replicate 16 10)))
    (zip2 plus lanes (replicate 16 48)) (zip2 plus lanes (replicate 16 87))

digit_is : (x : ℕ) → x < 16 → cond (nat_lt x 10) (plus x 48) (plus x 87) ≡ hex_digit x
digit_is x lt =
    let number : plus x 48 ≡ 48 + x = omega (arith, lt) in
    let letter : plus x 87 ≡ 87 + x = omega (arith, lt) in
    rw (number, letter) refl

map_digit : (lanes : List ℕ) → Each1 (λ x. x < 16) lanes
    → map (λ x. cond (nat_lt x 10) (plus x 48) (plus x 87)) lanes ≡ map hex_digit lanes
map_digit [] small = refl
map_digit (x ∷ rest) small = λ i. digit_is x small.0 i ∷ map_digit rest small.1 i

digits_are : (lanes : List ℕ) → length lanes ≡ 16 → Each1 (λ x. x < 16) lanes
    → digits lanes ≡ map hex_digit lanes
digits_are lanes long small =
    sel_of_maps (λ x. nat_lt x 10) (λ x. plus x 48) (λ x. plus x 87) lanes _ _ _
    (tops_compared w8 nat_lt lanes (replicate 16 10) ∙ zip2_splat nat_lt lanes 16 10 long)
    (zip2_splat plus lanes 16 48 long) (zip2_splat plus lanes 16 87 long)
    ∙ map_digit lanes small

-- the halves of eight bytes, side by side
abbrev halves : List ℕ → List ℕ
halves bytes = pick_l 0 (zip2 (λ a b. a / b) bytes (replicate 8 16) ++ zip2 (λ a b. a % b) bytes
    (replicate 8 16)) (0 ∷ 8 ∷ 1 ∷ 9 ∷ 2 ∷ 10 ∷ 3 ∷ 11 ∷ 4 ∷ 12 ∷ 5 ∷ 13 ∷ 6 ∷ 14 ∷ 7 ∷ 15 ∷ [])

high : (byte : ℕ) → byte < 256 → byte / 16 < 16
high byte lt = omega (arith, lt)

low : (byte : ℕ) → byte % 16 < 16
low byte = omega arith

spelled_eight : (a b c d e f g h : ℕ) → a < 256 → b < 256 → c < 256 → d < 256 → e < 256 → f < 256
    → g < 256 → h < 256
    → digits (halves (a ∷ b ∷ c ∷ d ∷ e ∷ f ∷ g ∷ h ∷ []))
    ≡ hex_text (a ∷ b ∷ c ∷ d ∷ e ∷ f ∷ g ∷ h ∷ [])
unfolding hex_text
spelled_eight a b c d e f g h la lb lc ld le lf lg lh =
    digits_are (halves (a ∷ b ∷ c ∷ d ∷ e ∷ f ∷ g ∷ h ∷ [])) refl (
      high a la,
      (
        low a,
        (
          high b lb,
          (
            low b,
            (
              high c lc,
              (
                low c,
                (
                  high d ld,
                  (
                    low d,
                    (
                      high e le,
                      (low e, (high f lf, (low f, (high g lg, (low g, (high h lh, (low h, tt))))))),
                    ),
                  ),
                ),
              ),
            ),
          ),
        ),
      ),
    )

-- a list by its elements from a place on
abbrev reads : ℕ → ℕ → List ℕ → List ℕ
reads zero k xs = []
reads (suc n) k xs = get_or xs k 0 ∷ reads n (k + 1) xs

reads_are : (n k : ℕ) (xs : List ℕ) → length xs ≡ k + n → drop k xs ≡ reads n k xs
reads_are zero k xs long = drop_all k xs (omega (arith, long))
reads_are (suc n) k xs long = drop_more xs k 0 (omega (arith, long)) ∙ ap
    (λ (ys : List ℕ). get_or xs k 0 ∷ ys) (reads_are n (k + 1) xs (omega (arith, long)))

-- eight bytes are spelled
pub spelled : (bytes : List ℕ) → length bytes ≡ 8 → Each1 (Fits w8) bytes
    → digits (halves bytes) ≡ hex_text bytes
spelled bytes long fit =
    let same : bytes ≡ reads 8 0 bytes = reads_are 8 0 bytes (omega (arith, long)) in
    let below : (i : ℕ) → i < 8 → get_or bytes i 0 < 256 = λ i lt.
    (Each1-get_or (Fits w8) bytes i 0 (omega (arith, long, lt)) fit).fits in
    ap (λ (v : List ℕ). digits (halves v)) same
    ∙ spelled_eight (get_or bytes 0 0) (get_or bytes 1 0) (get_or bytes 2 0) (get_or bytes 3 0)
    (get_or bytes 4 0) (get_or bytes 5 0) (get_or bytes 6 0) (get_or bytes 7 0)
    (below 0 (omega arith)) (below 1 (omega arith)) (below 2 (omega arith)) (below 3 (omega arith))
    (below 4 (omega arith)) (below 5 (omega arith)) (below 6 (omega arith))
    (below 7 (omega arith))
    ∙ ap hex_text (sym same)

-- bytes before others are spelled before them
hex_text-append : (xs ys : List ℕ) → hex_text (xs ++ ys) ≡ hex_text xs ++ hex_text ys
unfolding hex_text
hex_text-append xs ys = flat_map-append hex_pair xs ys

pub spelled_more : (front bytes : List ℕ) (n : ℕ) → (front ++ hex_text (take n bytes))
    ++ hex_text (take (length bytes - n) (drop n bytes)) ≡ front ++ hex_text bytes
spelled_more front bytes n =
    ap (λ (rest : List ℕ). (front ++ hex_text (take n bytes)) ++ hex_text rest) (rest_is bytes n)
    ∙ append_assoc front (hex_text (take n bytes)) (hex_text (drop n bytes)) ∙ ap
    (λ (ds : List ℕ). front ++ ds) (sym
    (hex_text-append (take n bytes) (drop n bytes)) ∙ ap hex_text (take-append-drop n bytes))
