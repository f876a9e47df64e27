-- The processes looked at so far grow by one, up to all that there are.
use Rattle.std.proofs.Common.{◌≡◌, ℕ, List, refl, sym, ◌∙◌, subst, arith}
use Rattle.std.proofs.lemmas.Bool.{false≢true}
use borrow.Author.Count.{below_more}
use Rattle.line_names.specs.declared.choices.Choice.{Choice}
use Rattle.line_tape.specs.History.{Process}
use Rattle.line_tape.specs.Line.{events_before, AreSentBefore}
use Rattle.line_tape.proofs.LineLemmas.{IsConsistent-below}
use Rattle.line_live.proofs.ResumedLemmas.{fits_sent}
use Rattle.line_live.proofs.held.is_consistent_at.Goals as goal

pub returns-then-not-fits : goal.returns-then-not-fits
returns-then-not-fits c =
    let history : List Process = c.args.catalogue.now.processes in
    let line : List Choice = c.args.line.now in
    let both = fits_sent history line c.unwrap-p.result c.at.result c.reach.result c.in_ok-sent.sent
    c.at.ensures c.in_ok-sent.ensures c.reach.ensures.decides in (
      λ h. absurd (false≢true h),
      λ consistent. absurd (false≢true
          (sym c.if-not-fits.true ∙ c.fits.ensures.1 (both.1 (consistent c.unwrap-p.result)))),
    )

pub each-preserved : goal.each-preserved
each-preserved c =
    let history : List Process = c.args.catalogue.now.processes in
    let line : List Choice = c.args.line.now in
    let at : c.unwrap-p.result ≡ c.each.q = (rw c.unwrap-p.ensures at c.try_new.ensures).1 in
    let both = fits_sent history line c.unwrap-p.result c.at.result c.reach.result c.in_ok-sent.sent
    c.at.ensures c.in_ok-sent.ensures c.reach.ensures.decides in
    below_more (λ p. AreSentBefore history line (events_before history line p)) c.each.q
    c.each.invariant
    (subst (λ (p : ℕ). AreSentBefore history line (events_before history line p)) at
    (both.0 (c.fits.ensures.0 c.if-not-fits.false)))

pub returns : goal.returns
returns c = (
  λ _. IsConsistent-below c.args.catalogue.now.processes c.args.line.now (λ q within.
      c.each.invariant q (omega (arith, within, c.each-test.false, c.n-n.ensures.value))),
  λ _. refl,
)
