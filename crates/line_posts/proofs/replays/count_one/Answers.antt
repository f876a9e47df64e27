use Rattle.std.proofs.Common.{◌≡◌, ◌∙◌, ◌+◌, ◌<◌, length, get_or, set, sym, ap, arith}
use Rattle.line_posts.specs.Ends.{row_at}
use Rattle.line_posts.proofs.RowLemmas.{row_seen}
use Rattle.line_posts.specs.Replays.{counts_of, cell_at}
use Rattle.line_posts.proofs.SortLemmas.{cell_put, other_default}
use Rattle.line_posts.proofs.replays.count_one.Goals as goal

pub returns-clause-counts : goal.returns-clause-counts
returns-clause-counts c =
    let rows = c.args.counts.now.items in
    let V = c.index_mut-row.result.now in
    let row : row_at (counts_of rows) c.args.p ≡ V.items = row_seen (λ v. v.items) rows c.args.p V
    c.requires.from ∙ ap (λ v. v.items) (sym c.index_mut-row.ensures.value) in
    let lt : c.args.q < length V.items =
    (let r = ap length row in let f = c.requires.to in omega (arith, r, f)) in
    let old : cell_at 0 (counts_of rows) c.args.p c.args.q
    ≡ get_or V.items c.args.q 0 = ap (λ t. get_or t c.args.q 0) row in
    let at : c.index_mut-2.result.now
    ≡ cell_at 0 (counts_of rows) c.args.p c.args.q = c.index_mut-2.ensures.value ∙
    (other_default V.items c.args.q c.index_mut-2.result.now 0 lt ∙ sym old) in
    cell_put (λ v. v.items) rows c.args.p c.args.q V _
    (cell_at 0 (counts_of rows) c.args.p c.args.q + 1) c.requires.from
    c.index_mut-row.ensures.value (ap (λ k. set V.items c.args.q (k + 1)) at)
