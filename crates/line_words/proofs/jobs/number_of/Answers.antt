-- What is read of an option is what its text spells.
use Rattle.std.proofs.Common.{rules, arith, Bool, true, false, ◌≡◌, ◌∙◌, ◌↔◌, ◌^◌, ◌<◌, ◌≤◌, ap, ℕ}
use Rattle.std.proofs.Common.{List, Option, Result, Ok, Err, Some, None, IsSomeAnd, refl, subst}
use Rattle.std.proofs.Common.{sym}
use Rattle.std.proofs.lemmas.Grind.{common_steps}
use Rattle.std.specs.Bool.{then_some}
use Rattle.std.specs.Str.Parse.{ExplainsUnsignedError, HasUnsignedDigitsIfOk, ParsesUnsigned}
use Rattle.clap.specs.Words.{Row, Text, found_of, one_of, one_text, rows_of}
use Rattle.clap.specs.Matches.{ReadsOne}
use Rattle.clap.proofs.WalkLemmas.{one_text-rows}
use Rattle.line_words.specs.Words.{IsNumberOf, Spells}
use Rattle.line_words.proofs.jobs.number_of.Goals as goal

-- a number that is read of a text is the one that the text spells
read_is_spelled : {E : Type 0} (G : Text → Result ℕ E → Type 0)
    → ((t : Text) (r : Result ℕ E) → G t r → ParsesUnsigned 32 10 t r)
    → (o : Option Text) (n : ℕ) → (o ≡ None → Some n ≡ None)
    → ((t : Text) → o ≡ Some t → ReadsOne G t (Some n))
    → IsSomeAnd o (λ (t : Text). Spells t n)
read_is_spelled G parses None n none reads = absurd (cc (none refl))
read_is_spelled G parses (Some t) n none reads =
    let parsed = parses t (Ok n) (reads t refl) in
    (parsed.0.0, sym parsed.1)

-- a text of which no number is read spells none of 32 bits
none_is_spelled : {E : Type 0} (G : Text → Result ℕ E → Type 0)
    → ((t : Text) (r : Result ℕ E) → G t r → ParsesUnsigned 32 10 t r)
    → (o : Option Text) (n : ℕ) → ((t : Text) → o ≡ Some t → ReadsOne G t None) → n < 2 ^ 32
    → IsSomeAnd o (λ (t : Text). Spells t n) → ⊥
none_is_spelled G parses None n reads fits spelled = spelled
none_is_spelled G parses (Some t) n reads fits spelled =
    let read = reads t refl in
    parses t (Err read.0) read.1 (spelled.0, rw spelled.1 fits)

-- a text spells one number
spelled_once : (o : Option Text) (m n : ℕ) → IsSomeAnd o (λ (t : Text). Spells t m)
    → IsSomeAnd o (λ (t : Text). Spells t n) → m ≡ n
spelled_once None m n one other = absurd one
spelled_once (Some t) m n one other = sym one.1 ∙ other.1

-- where the number that is read lies in the range, it is the option's, and else the option has none
decided : (name : Text) (least most : ℕ) (options : List Row) (n : ℕ) (inside : Bool)
    → IsSomeAnd (one_of name options) (λ (t : Text). Spells t n)
    → (inside ≡ true → (least ≤ n) × (n ≤ most)) → (inside ≡ false → least ≤ n → n ≤ most → ⊥)
    → (k : ℕ) → (then_some inside n ≡ Some k) ↔ IsNumberOf name least most options k
decided name least most options n true spelled within outside k = (
  λ same. let is : n ≡ k =
      cc same in subst (λ (j : ℕ). IsNumberOf name least most options j) is (record {
        spelled = spelled;
        no_less = (within refl).0;
        no_more = (within refl).1;
      }),
  λ h. ap (λ (j : ℕ). Some j) (spelled_once (one_of name options) n k spelled h.spelled),
)
decided name least most options n false spelled within outside k = (
  λ same. absurd (cc same),
  λ h. let is : n ≡ k = spelled_once (one_of name options) n k spelled h.spelled in
      absurd (outside refl (rw is h.no_less) (rw is h.no_more)),
)

pub returns-in_err-number : goal.returns-in_err-number
returns-in_err-number c k =
    let o : Option Text = one_text (found_of c.args.options.now) c.args.option.now in
    let rows : o ≡ one_of c.args.option.now (rows_of (found_of c.args.options.now)) = one_text-rows
    (found_of c.args.options.now) c.args.option.now in
    let none : c.from_residual.result ≡ None = c.from_residual.ensures in (
      λ same. absurd (cc (none, same)),
      λ h. let fits : k < 2 ^ 32 = search rules in
          absurd (none_is_spelled (λ bs r. ParsesUnsigned 32 10 bs r × ExplainsUnsignedError 10 bs r
          × HasUnsignedDigitsIfOk bs r) (λ t r g. g.0) o k
          (λ t same. c.in_err-number.ensures.value t same) fits (rw rows h.spelled)),
    )

pub returns : goal.returns
returns c k =
    let o : Option Text = one_text (found_of c.args.options.now) c.args.option.now in
    let rows : o ≡ one_of c.args.option.now (rows_of (found_of c.args.options.now)) = one_text-rows
    (found_of c.args.options.now) c.args.option.now in
    let n : ℕ = c.in_ok-number.number in
    let spelled : IsSomeAnd o (λ (t : Text). Spells t n) =
    read_is_spelled (λ bs r. ParsesUnsigned 32 10 bs r × ExplainsUnsignedError 10 bs r
    × HasUnsignedDigitsIfOk bs r) (λ t r g. g.0) o n
    c.in_ok-number.ensures.none c.in_ok-number.ensures.value in
    let at_option = subst
    (λ (x : Option Text). IsSomeAnd x (λ (t : Text). Spells t n)) rows spelled in
    rw c.then_some.ensures
    (decided c.args.option.now c.args.least c.args.most _ n c.contains.result at_option
    (λ is. (grind (arith, common_steps), grind (arith, common_steps)))
    (λ is no_less no_more. grind (arith, common_steps)) k)
