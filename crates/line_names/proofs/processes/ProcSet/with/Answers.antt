use Rattle.std.proofs.Common.{◌≡◌, ℕ, List, Bool, ◌<◌, ◌^◌, true, false, get_or, length, set, sym}
use Rattle.std.proofs.Common.{ap, ◌∙◌, ◌/◌, arith}
use Rattle.std.proofs.lemmas.List.{get_or-set_same, get_or-set_other, length-set}
use Rattle.line_names.specs.declared.limits.TheConstants.{MOST_PROCESSES}
use Rattle.line_names.specs.declared.processes.TheConstants.{WORDS}
use Rattle.line_names.specs.Bits.{members_of}
use Rattle.line_names.specs.Sets.{is_member, with_member}
use Rattle.line_names.proofs.BitLemmas.{many_members, members_of_more, with_bit, word_fits}
use Rattle.line_names.proofs.BitLemmas.{words_again}
use Rattle.line_names.proofs.processes.ProcSet.with.Goals as goal

pub invariant_of-result : goal.invariant_of-result
invariant_of-result c =
    let words : List ℕ = c.self.inside.words in
    let p : ℕ = c.get-p.result in
    let fit : (k : ℕ) → get_or (with_bit words p) k 0 < 2 ^ 64 = λ k. word_fits words p k
    c.self.invariant.many c.get-p.ensures.few c.self.invariant.fit in
    let many : length (with_bit words p)
    ≡ WORDS = length-set words (p / 64) _ ∙ c.self.invariant.many in
    record {
      many = many;
      fit = fit;
      again = words_again (with_bit words p) many fit;
    }

pub returns-clause-value : goal.returns-clause-value
returns-clause-value c =
    members_of_more c.self.inside.words c.get-p.result c.self.invariant.many c.get-p.ensures.few
    ∙ ap (λ s. with_member s c.get-p.result) c.self.view_is ∙ ap
    (λ p. with_member c.args.self p) c.get-p.ensures.value

many_of : (words : List ℕ) (s : List Bool) → members_of words ≡ s → length s ≡ MOST_PROCESSES
many_of words s is = ap (λ (xs : List Bool). length xs) (sym is) ∙ many_members words

pub returns-clause-member : goal.returns-clause-member
returns-clause-member c =
    let is : members_of (with_bit c.self.inside.words c.get-p.result)
    ≡ set c.args.self c.args.p true =
    members_of_more c.self.inside.words c.get-p.result c.self.invariant.many c.get-p.ensures.few
    ∙ ap (λ s. with_member s c.get-p.result) c.self.view_is ∙ ap
    (λ p. with_member c.args.self p) c.get-p.ensures.value in
    let many : length c.args.self
    ≡ MOST_PROCESSES = many_of c.self.inside.words c.args.self c.self.view_is in
    let there : is_member (members_of (with_bit c.self.inside.words c.get-p.result)) c.args.p
    ≡ true =
    ap (λ s. is_member s c.args.p) is ∙ get_or-set_same c.args.self c.args.p true false
    (omega (arith, c.get-p.ensures.value, c.get-p.ensures.few, many)) in
    search

pub returns-clause-others : goal.returns-clause-others
returns-clause-others c q other =
    ap (λ s. is_member s q) (members_of_more c.self.inside.words c.get-p.result
    c.self.invariant.many c.get-p.ensures.few
    ∙ ap (λ s. with_member s c.get-p.result) c.self.view_is ∙ ap
    (λ p. with_member c.args.self p) c.get-p.ensures.value)
    ∙ get_or-set_other c.args.self c.args.p q true false other
