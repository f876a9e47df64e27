-- Message by message, then the row, and what the sort promises.
use Rattle.std.proofs.Common.{◌≡◌, ◌<◌, ◌+◌, ◌++◌, ◌∷◌, [], ℕ, List, length, map, take, sym, ap}
use Rattle.std.proofs.Common.{◌∙◌, subst, arith}
use Rattle.std.specs.List.{Contains}
use Rattle.std.proofs.lemmas.List.{map-append, take_all, take_more}
use Rattle.std.proofs.lemmas.List.Sorted.{IsNonDecreasingBy-from_sort, Contains-permutation}
use Rattle.line_names.specs.declared.messages.MsgName.{MsgName}
use Rattle.line_catalogue.proofs.numbers.Numbers.of_both.Goals as goal

pub loop-message-preserved : goal.loop-message-preserved
loop-message-preserved c =
    let i : ℕ = c.loop-message.message-index in
    let all : List MsgName = c.args.messages.now in
    let item : MsgName = c.message-item.result in
    let of : List MsgName → List ℕ = λ ms. map (λ (m : MsgName). m.number) ms in
    let within : i < length all = omega arith in
    let more : of (take i all) ++ item.number ∷ []
    ≡ of (take (i + 1) all) = sym
    (map-append (λ (m : MsgName). m.number) (take i all) (item ∷ [])) ∙ ap (λ (x : MsgName). of
    (take i all ++ x ∷ [])) c.message-item.is ∙ ap of (sym (take_more all i item within)) in
    c.in_ok-push.ensures.items ∙ ap
    (λ (xs : List ℕ). xs ++ item.number ∷ []) c.loop-message.invariant ∙ more

pub returns-clause-sorted : goal.returns-clause-sorted
returns-clause-sorted c = IsNonDecreasingBy-from_sort
    (λ x. x) c.sort_unstable.new.self.items c.sort_unstable.ensures.sorted

pub returns-clause-kept : goal.returns-clause-kept
returns-clause-kept c = λ number among.
    let of : List MsgName → List ℕ = λ ms. map (λ (m : MsgName). m.number) ms in
    let read : c.extend_from_slice.new.self.items ≡ of c.args.messages.now ++ c.args.row.now =
    c.in_ok-extend_from_slice.ensures.items ∙ ap
    (λ (xs : List ℕ). c.loop-message.numbers.items ++ xs)
    (c.as_slice.ensures.value ∙ c.row.view_is) ∙ ap (λ (xs : List ℕ). xs ++ c.args.row.now)
    (c.loop-message.invariant ∙ ap of
    (take_all c.loop-message.message-index c.args.messages.now (omega arith)))
    in
    Contains-permutation c.extend_from_slice.new.self.items c.sort_unstable.new.self.items number
    c.sort_unstable.ensures.permutation
    (subst (λ (xs : List ℕ). Contains xs number) (sym read) among)
