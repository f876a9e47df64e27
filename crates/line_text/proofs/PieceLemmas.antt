-- Inputs in pieces.
use Rattle.std.proofs.Common.{◌≡◌, ℕ, List, [], ◌∷◌, ◌++◌, refl, sym, ap, ◌∙◌, subst}
use Rattle.std.specs.Prelude.{Result}
use Rattle.line_fields.specs.declared.faults.Fault.{Fault}
use Rattle.line_fields.specs.Records.{Record}
use Rattle.line_text.specs.declared.outcomes.Outcome.{Outcome}
use Rattle.line_text.specs.Conversations.{Serves, ServesBoth, Standing, records_ending_in}
use Rattle.line_text.specs.Lines.{Pending, pending_after}
use Rattle.line_text.specs.Rules.{Rules, HearsAll, worst}
use Rattle.line_text.proofs.HeardLemmas.{HearsAll-both, worst-append}
use Rattle.line_text.proofs.LineLemmas.{pending_both, records_both}

module _ {S A : Type 0} (rules : Rules S A) where
  -- the answers to some records and to more: those to the first, and the machine between
  record IsParted (old : S) (records more : List (Result Record Fault)) (answers : List A)
      (new : S) : Type 0 where
    first : List A
    rest : List A
    all : answers ≡ first ++ rest
    mid : S
    before : HearsAll rules old records first mid
    after : HearsAll rules mid more rest new

  parted : (old : S) (records more : List (Result Record Fault)) (answers : List A) (new : S)
      → HearsAll rules old (records ++ more) answers new → IsParted old records more answers new
  parted old [] more answers new h =
      record { first = []; rest = answers; all = refl; mid = old; before = refl; after = h }
  parted old (r ∷ records) more [] new h = absurd h
  parted old (r ∷ records) more (one ∷ answers) new (next, is, h) =
      let k = parted next records more answers new h in
      record {
        first = one ∷ k.first;
        rest = k.rest;
        all = ap (λ (rest : List A). one ∷ rest) k.all;
        mid = k.mid;
        before = (next, is, k.before);
        after = k.after;
      }

  pub in_pieces : (old new : Standing S) (bytes more : List ℕ) (answers : List A)
      → Serves rules old (bytes ++ more) answers new → ServesBoth rules old bytes more answers new
  in_pieces old new bytes more answers h =
      let k = parted old.state (records_ending_in old.pending bytes)
      (records_ending_in (pending_after old.pending bytes) more) answers new.state
      (subst (λ (rs : List (Result Record Fault)). HearsAll rules old.state rs answers new.state)
      (records_both old.pending bytes more) h.heard) in
      record {
        first = k.first;
        rest = k.rest;
        all = k.all;
        mid = record {
          state = k.mid;
          pending = pending_after old.pending bytes;
          outcome = worst
              rules old.outcome k.first;
        };
        before = record { heard = k.before; pending = refl; outcome = refl };
        after = record {
          heard = k.after;
          pending = h.pending ∙ pending_both old.pending bytes more;
          outcome = h.outcome ∙ ap (λ (these : List A). worst rules old.outcome these) k.all ∙
              worst-append rules old.outcome k.first k.rest;
        };
      }

  pub of_pieces : (old new : Standing S) (bytes more : List ℕ) (answers : List A)
      → ServesBoth rules old bytes more answers new → Serves rules old (bytes ++ more) answers new
  of_pieces old new bytes more answers h =
      let after : HearsAll rules h.mid.state
      (records_ending_in (pending_after old.pending bytes) more) h.rest new.state =
      subst (λ (p : Pending). HearsAll rules h.mid.state
      (records_ending_in p more) h.rest new.state) h.before.pending h.after.heard in
      record {
        heard =
            subst (λ (rs : List (Result Record Fault)). HearsAll rules old.state rs answers
            new.state) (sym (records_both old.pending bytes more))
            (subst (λ (these : List A). HearsAll rules old.state
            (records_ending_in old.pending bytes ++ records_ending_in
            (pending_after old.pending bytes) more) these new.state) (sym h.all)
            (HearsAll-both rules old.state h.mid.state new.state
            (records_ending_in old.pending bytes) (records_ending_in
            (pending_after old.pending bytes) more) h.first h.rest h.before.heard after));
        pending = h.after.pending ∙ ap (λ (p : Pending). pending_after p more) h.before.pending ∙
            sym (pending_both old.pending bytes more);
        outcome =
            h.after.outcome ∙ ap (λ (o : Outcome). worst rules o h.rest) h.before.outcome ∙ sym
            (worst-append rules old.outcome h.first h.rest)
            ∙ ap (λ (these : List A). worst rules old.outcome these) (sym h.all);
      }
