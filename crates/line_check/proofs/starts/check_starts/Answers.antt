-- Where the processes before go on is right.
use Rattle.std.proofs.Common.{◌≡◌, ◌<◌, ℕ, List, length, Some, sym, ap, ◌∙◌, subst, refl, arith}
use Rattle.std.specs.List.{slice_get}
use Rattle.std.proofs.lemmas.Bool.{false≢true}
use Rattle.std.proofs.lemmas.Option.{slice_get_read, same_Some}
use borrow.Author.Count.{below_more}
use Rattle.line_names.specs.declared.choices.Choice.{Choice}
use Rattle.line_tape.specs.History.{Process}
use Rattle.line_check.specs.declared.answers.Start.{Start}
use Rattle.line_check.specs.Answers.{start_due}
use Rattle.line_check.specs.Faults.{IsStartFault}
use Rattle.line_check.proofs.StartLemmas.{fault-start, start-due, starts-right}
use Rattle.line_check.proofs.starts.check_starts.Goals as goal

pub returns-in-Err-clause-fault : goal.returns-in-Err-clause-fault
returns-in-Err-clause-fault c =
    let history : List Process = c.args.history.now.processes in
    let line : List Choice = c.args.line.now in
    let at : c.unwrap-p.result ≡ c.loop-q.q = (rw c.unwrap-p.ensures at c.try_new.ensures).1 in
    record {
      p = c.loop-q.q;
      start = c.index-starts-q.result;
      entry_is = refl;
      before = c.loop-q.invariant;
      here = slice_get_read c.args.starts.now _ c.loop-q.q c.index-starts-q.result refl
          c.loop-q-test.true c.index-starts-q.is;
      wrong = subst (λ (p : ℕ). IsStartFault (start_due history line p) c.index-starts-q.result
          c.in-Err.code) at c.in-Err.ensures.fault;
    }

pub returns-in-Err-clause-ok : goal.returns-in-Err-clause-ok
returns-in-Err-clause-ok c = (
  λ h. absurd (false≢true h),
  λ same.
      let history : List Process = c.args.history.now.processes in
      let line : List Choice = c.args.line.now in
      let at : c.unwrap-p.result ≡ c.loop-q.q = (rw c.unwrap-p.ensures at c.try_new.ensures).1 in
      let wrong : IsStartFault
      (start_due history line c.loop-q.q) c.index-starts-q.result c.in-Err.code = subst
      (λ (p : ℕ). IsStartFault (start_due history line p) c.index-starts-q.result c.in-Err.code)
      at c.in-Err.ensures.fault in
      let here : slice_get c.args.starts.now c.loop-q.q
      ≡ Some c.index-starts-q.result = slice_get_read c.args.starts.now _ c.loop-q.q
      c.index-starts-q.result refl c.loop-q-test.true c.index-starts-q.is in
      let within : c.loop-q.q < length history = omega
      (arith, c.loop-q-test.true, c.requires.count) in
      let right : c.index-starts-q.result
      ≡ start_due history line c.loop-q.q = same_Some _ _ (sym here ∙ ap (λ (xs : List Start).
      slice_get xs c.loop-q.q) same ∙ start-due history line c.loop-q.q within) in
      absurd (fault-start _ _ wrong right),
)

pub loop-q-preserved : goal.loop-q-preserved
loop-q-preserved c =
    let history : List Process = c.args.history.now.processes in
    let line : List Choice = c.args.line.now in
    let at : c.unwrap-p.result ≡ c.loop-q.q = (rw c.unwrap-p.ensures at c.try_new.ensures).1 in
    let here : slice_get c.args.starts.now c.loop-q.q
    ≡ Some c.index-starts-q.result = slice_get_read c.args.starts.now _ c.loop-q.q
    c.index-starts-q.result refl c.loop-q-test.true c.index-starts-q.is in
    let right : c.index-starts-q.result ≡ start_due history line c.loop-q.q =
    c.in_default.ensures.ok.0 refl ∙ ap (start_due history line) at in
    below_more (λ (r : ℕ). slice_get c.args.starts.now r ≡ Some (start_due history line r))
    c.loop-q.q c.loop-q.invariant (here ∙ ap Some right)

pub returns-clause-ok : goal.returns-clause-ok
returns-clause-ok c = (
  λ h. starts-right c.args.history.now.processes c.args.line.now c.args.starts.now c.requires.count
      (λ q within. c.loop-q.invariant q (omega (arith, within, c.requires.count))),
  λ h. refl,
)
