-- One visit after another.
use Rattle.std.proofs.Common.{◌≡◌, ℕ, ◌+◌, Bool, true, false, ◌||◌, List, sym, ◌∙◌, subst, refl}
use Rattle.std.proofs.Common.{arith}
use Rattle.std.proofs.lemmas.Bool.{or_parts, false≢true}
use borrow.Author.Count.{below_more}
use Rattle.line_names.specs.declared.choices.Choice.{Choice}
use Rattle.line_tape.specs.History.{Process}
use Rattle.line_tape.specs.Line.{events_before, AreSentBefore}
use Rattle.line_plan.specs.Search.{IsMoved, AreSentBelow}

module _ (history : List Process) where
  -- two visits move the line as one
  pub IsMoved-on : (old mid new : List Choice) (e f g : ℕ) (a b : Bool) → IsMoved history old e a
      mid f → IsMoved history mid f b new g → IsMoved history old e (a || b) new g
  IsMoved-on old mid new e f g true true first second = record {
    same_line = λ h. absurd (false≢true (sym h));
    same_entries = λ h. absurd (false≢true (sym h));
    more_entries = λ h. omega (arith, first.more_entries refl, second.more_entries refl);
    paid = omega (arith, first.paid, second.paid);
  }
  IsMoved-on old mid new e f g true false first second = record {
    same_line = λ h. absurd (false≢true (sym h));
    same_entries = λ h. absurd (false≢true (sym h));
    more_entries = λ h. omega (arith, first.more_entries refl, second.same_entries refl);
    paid = omega (arith, first.paid, second.paid);
  }
  IsMoved-on old mid new e f g false true first second = record {
    same_line = λ h. absurd (false≢true (sym h));
    same_entries = λ h. absurd (false≢true (sym h));
    more_entries = λ h. omega (arith, first.same_entries refl, second.more_entries refl);
    paid = omega (arith, first.paid, second.paid);
  }
  IsMoved-on old mid new e f g false false first second = record {
    same_line = λ h. second.same_line refl ∙ first.same_line refl;
    same_entries = λ h. second.same_entries refl ∙ first.same_entries refl;
    more_entries = λ h. absurd (false≢true h);
    paid = omega (arith, first.paid, second.paid);
  }

  -- where no visit lowered the line, each process visited still has no orphan
  pub AreSentBelow-on : (mid new : List Choice) (f g q : ℕ) (a b : Bool)
      → IsMoved history mid f b new g → (a ≡ false → AreSentBelow history mid q)
      → AreSentBefore history new (events_before history new q) → (a || b) ≡ false
      → AreSentBelow history new (q + 1)
  AreSentBelow-on mid new f g q a b moved before here h =
      let parts = or_parts a b h in
      let same : new ≡ mid = moved.same_line parts.1 in
      below_more (λ k. AreSentBefore history new (events_before history new k)) q (subst
      (λ (line : List Choice). AreSentBelow history line q) (sym same) (before parts.0)) here
