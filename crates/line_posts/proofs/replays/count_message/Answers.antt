use Rattle.std.proofs.Common.{◌≡◌, ◌∙◌, ◌+◌, ◌<◌, length, set, get_or, sym, subst, arith}
use Rattle.line_posts.specs.Ends.{row_at}
use Rattle.line_posts.specs.Replays.{cell_at, counts_of, with_cell}
use Rattle.line_posts.proofs.CountLemmas.{counted_more, few_between, goes_within}
use Rattle.line_posts.proofs.replays.count_message.Goals as goal

pub count_one-requires-clause-to : goal.count_one-requires-clause-to
count_one-requires-clause-to c =
    let within = goes_within c.args.history.now.processes c.args.message.now c.in-Some.to
    c.n-limits.ensures.limits (sym c.addressee.ensures ∙ c.in-Some.is) in
    let long = c.requires.2.square.each c.args.message.now.from within.0 in
    let to = c.get.ensures.value in
    let lt = within.1 in
    subst (λ v. c.get.result < length (row_at (counts_of c.args.counts.now.items) v))
    (sym c.get-p.ensures.value) (omega (arith, long, to, lt))

pub count_one-requires-clause-few : goal.count_one-requires-clause-few
count_one-requires-clause-few c =
    let within = goes_within c.args.history.now.processes c.args.message.now c.in-Some.to
    c.n-limits.ensures.limits (sym c.addressee.ensures ∙ c.in-Some.is) in
    let few = few_between c.args.history.now.processes c.requires.0 c.args.message.now
    c.args.message.now.from c.get.result
    (counts_of c.args.counts.now.items) c.args.sums.now.items within.0 c.requires.2 in
    let most = c.requires.1 in
    subst (λ v. cell_at 0 (counts_of c.args.counts.now.items) v c.get.result < 18446744073709551615)
    (sym c.get-p.ensures.value) (omega (arith, few, most))

pub returns-in-Some : goal.returns-in-Some
returns-in-Some c = λ messages h.
    (let e = sym c.addressee.ensures ∙ c.in-Some.is in
    let within = goes_within c.args.history.now.processes c.args.message.now c.in-Some.to
    c.n-limits.ensures.limits e in
    let C = counts_of c.args.counts.now.items in
    let N = counts_of c.count_one.new.counts.items in
    let S = c.args.sums.now.items in
    let T = c.count_one.new.sums.items in
    let counts : N ≡ with_cell C c.args.message.now.from c.in-Some.to
    (cell_at 0 C c.args.message.now.from c.in-Some.to + 1) =
    subst (λ v. N
    ≡ with_cell C c.args.message.now.from v (cell_at 0 C c.args.message.now.from v + 1))
    c.get.ensures.value (subst (λ v. N ≡ with_cell C v c.get.result
    (cell_at 0 C v c.get.result + 1)) c.get-p.ensures.value c.count_one.ensures.counts) in
    let sums : T ≡ set S c.args.message.now.from (get_or S c.args.message.now.from 0 + 1) = subst
    (λ v. T ≡ set S v (get_or S v 0 + 1)) c.get-p.ensures.value c.count_one.ensures.sums in
    counted_more c.args.history.now.processes messages c.args.message.now c.in-Some.to C N S T e
    within.0 within.1 counts sums h)
