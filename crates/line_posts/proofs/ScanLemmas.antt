-- Looking for the check of a round, event by event, and among the recorded rounds.
use Rattle.std.proofs.Common.{◌≡◌, ℕ, zero, suc, ◌+◌, true, false, List, [], ◌∷◌, ◌++◌, Option}
use Rattle.std.proofs.Common.{Some, None, refl, sym, ap, ◌∙◌, arith}
use Rattle.std.specs.Prelude.{is_some, take, slice_get, ◌||◌, MatchOption}
use Rattle.line_names.specs.declared.messages.MsgName.{MsgName}
use Rattle.line_rounds.specs.Recording.{RecordedRound, round_of, messages_by}
use Rattle.line_tape.specs.declared.events.Event.{Event}
use Rattle.line_tape.specs.Rounds.{has_check_of, is_check_of}
use Rattle.std.proofs.lemmas.Option.{same_Some}
use Rattle.line_laws.proofs.GrowthLemmas.{has_check_push}
use Rattle.line_posts.specs.Journals.{IsRecorded}
use Rattle.line_posts.proofs.RecordLemmas.{or-true, found_checked}

-- a tape, event by event
pub take_one_more : (xs : List Event) (i : ℕ) (e : Event) → slice_get xs i ≡ Some e
    → take (suc i) xs ≡ take i xs ++ e ∷ []
take_one_more [] i e h = cc h
take_one_more (x ∷ xs) zero e h = cc h
take_one_more (x ∷ xs) (suc i) e h = ap (λ (t : List Event). x ∷ t) (take_one_more xs i e h)

pub none_more : (tape : List Event) (r i : ℕ) (e : Event) → slice_get tape i ≡ Some e → is_check_of
    r e ≡ false → has_check_of r (take i tape) ≡ false → has_check_of r (take (i + 1) tape) ≡ false
none_more tape r i e at other none =
    let more : i + 1 ≡ suc i = omega arith in
    ap (λ v. has_check_of r (take v tape)) more ∙ (ap (has_check_of r) (take_one_more tape i e at)
    ∙ (has_check_push (take i tape) e r ∙ (ap (λ b. b || is_check_of r e) none ∙ other)))

pub some_there : (tape : List Event) (r i : ℕ) (e : Event) → slice_get tape i ≡ Some e
    → is_check_of r e ≡ true → has_check_of r tape ≡ true
some_there [] r i e at is = cc at
some_there (x ∷ xs) r zero e at is = (let s : x ≡ e = same_Some x e at in ap
    (λ v. is_check_of r v || has_check_of r xs) s ∙ ap (λ b. b || has_check_of r xs) is)
some_there (x ∷ xs) r (suc i) e at is =
    ap (λ b. is_check_of r x || b) (some_there xs r i e at is) ∙ or-true (is_check_of r x)

-- a channel is told only of a round that is recorded
pub told_checked : {X : Type 0} (o : Option X) (f : X → List MsgName) (n floor : ℕ)
    (tape : List Event) (rounds : List RecordedRound) (from r : ℕ) → IsRecorded n floor tape rounds
    → is_some o ≡ true
    → MatchOption o (messages_by (round_of rounds r) from ≡ None)
    (λ x. messages_by (round_of rounds r) from ≡ Some (f x)) → has_check_of r tape ≡ true
told_checked None f n floor tape rounds from r h some told = cc some
told_checked (Some x) f n floor tape rounds from r h some told =
    elim (round_of rounds r) as (λ o. round_of rounds r ≡ o → has_check_of r tape ≡ true) [
      | None ↦ λ e.
          (let g : None ≡ Some (f x) = ap (λ o. messages_by o from) (sym e) ∙ told in cc g)
      | (Some round) ↦ λ e. found_checked n tape rounds r round h.each e
    ] refl
