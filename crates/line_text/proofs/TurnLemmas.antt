-- Turns of a conversation, one after the other.
use Rattle.std.proofs.Common.{◌≡◌, ◌<◌, ◌≤◌, ℕ, ◌+◌, true, false, List, [], ◌++◌, length, take}
use Rattle.std.proofs.Common.{refl, sym, ap, ◌∙◌, subst, inl, inr, arith, length-append}
use Rattle.std.specs.Prelude.{Option, None, Some, Result}
use Rattle.std.proofs.lemmas.Bool.{false≢true}
use Rattle.std.proofs.lemmas.List.{append-nil, length-take-le}
use Rattle.line_devices.specs.Devices.{Fills, FillsFront, IsDone, Puts, PutsButEnd}
use Rattle.line_devices.proofs.PutLemmas.{all_told, fills_both, puts_both}
use Rattle.line_fields.specs.declared.faults.Fault.{Fault}
use Rattle.line_fields.specs.Records.{Record}
use Rattle.line_text.specs.declared.outcomes.Outcome.{Outcome}
use Rattle.line_text.specs.declared.outcomes.Outcome.TheVariants as outcomes
use Rattle.line_text.specs.Lines.{Pending, Kept, last_record, pending_after}
use Rattle.line_text.specs.Conversations.{Serves, Standing, first_standing}
use Rattle.line_text.specs.Conversations.{records_ending_in}
use Rattle.line_text.specs.Answerers.{PutsAnswersFront}
use Rattle.line_text.specs.Rules.{Rules, HearsAll, answers_text, worst}
use Rattle.line_text.specs.Turns.{AnswersFrontOf, AnswersLines, AnswersText}
use Rattle.line_text.specs.Turns.{AnswersUntilFailure, BreaksOff, BreaksTurn, HearsOut}
use Rattle.line_text.specs.Turns.{LosesBytes, PutsAnswers, PutsLast, TakesTurn}
use Rattle.line_text.proofs.HeardLemmas.{HearsAll-both, answers_text-append, front_after}
use Rattle.line_text.proofs.HeardLemmas.{worst-append}
use Rattle.line_text.proofs.PieceLemmas.{of_pieces}
use Rattle.line_text.proofs.LineLemmas.{pending_nil, records_both, records_nil}

module _ {S A : Type 0} (rules : Rules S A) where
  -- ---- nothing came

  puts_nothing : (taken : Option (List ℕ)) → Puts taken taken []
  puts_nothing None = tt
  puts_nothing (Some xs) = sym (append-nil xs)

  serves_nothing : (old : Standing S) → Serves rules old [] [] old
  serves_nothing old = record {
    heard = subst (λ (rs : List (Result Record Fault)). HearsAll rules old.state rs [] old.state)
        (sym (records_nil old.pending)) refl;
    pending = sym (pending_nil old.pending);
    outcome = refl;
  }

  pub none_put : (old : Standing S) (taken : Option (List ℕ))
      → PutsAnswers rules old [] old taken taken
  none_put old taken =
      record { answers = []; serves = serves_nothing old; put = puts_nothing taken }

  -- ---- more came

  pub answers_on : (old mid new : Standing S) (bytes more : List ℕ)
      (taken between now : Option (List ℕ)) → PutsAnswers rules old bytes mid taken between
      → PutsAnswers rules mid more new between now
      → PutsAnswers rules old (bytes ++ more) new taken now
  answers_on old mid new bytes more taken between now h k = record {
    answers = h.answers ++ k.answers;
    serves = of_pieces rules old new bytes more (h.answers ++ k.answers) (record {
      first =
          h.answers;
      rest = k.answers;
      all = refl;
      mid = mid;
      before = h.serves;
      after = k.serves;
    });
    put =
        subst (λ (t : List ℕ). Puts taken now t)
        (sym (answers_text-append rules h.answers k.answers))
        (puts_both taken between now (answers_text rules h.answers)
        (answers_text rules k.answers) h.put k.put);
  }

  -- all that was put is put but for nothing
  all_but_none : (taken now : Option (List ℕ)) (text : List ℕ) → Puts taken now text
      → PutsButEnd taken now [] text
  all_but_none taken now text put =
      record { front = text; put = put; parts = sym (append-nil text) }

  module _ (first : S) where
    -- of the answers to more a front was put
    pub front_on : (mid : Standing S) (text : List ℕ) (more : List (Result Record Fault))
        (taken between now : Option (List ℕ)) → PutsAnswers rules (first_standing first) text mid
        taken between → PutsAnswersFront rules mid.state [] more between now
        → PutsAnswersFront rules first [] (records_ending_in (Kept []) text ++ more) taken now
    front_on mid text more taken between now h k =
        front_after rules first mid.state [] []
        (records_ending_in (Kept []) text) more h.answers taken between now h.serves.heard
        (all_but_none taken between (answers_text rules h.answers) h.put) k

    -- ---- a conversation so far

    -- a source gave this text, all lines that ended in it were answered, and there were no more
    -- turns than bytes
    pub record IsServedTo (turns : ℕ) (new : Standing S) (left later : Option (List ℕ))
        (given counted : ℕ) (taken now : Option (List ℕ)) : Type 0 where
      pub text : List ℕ
      pub fills : Fills left later text
      pub count : counted ≡ given + length text
      pub answered : PutsAnswers rules (first_standing first) text new taken now
      pub few : turns ≤ length text

    fills_nothing : (left : Option (List ℕ)) → Fills left left []
    fills_nothing None = tt
    fills_nothing (Some xs) = refl

    pub served_none : (new : Standing S) (left : Option (List ℕ)) (given : ℕ) (taken : Option (List
        ℕ)) → new ≡ (first_standing first) → IsServedTo 0 new left left given given taken taken
    served_none new left given taken is = record {
      text = [];
      fills = fills_nothing left;
      count = let nothing : length {A = ℕ} [] ≡ 0 = refl in omega (arith, nothing);
      answered = subst (λ (s : Standing S). PutsAnswers rules
          (first_standing first) [] s taken taken) (sym is) (none_put (first_standing first) taken);
      few = omega arith;
    }

    -- nothing is left behind nothing
    none_left : (left between later : Option (List ℕ)) (text xs : List ℕ) → left ≡ Some xs
        → Fills left between text → Fills between later [] → IsDone between → later ≡ Some []
    none_left None between later text xs told fills none done = absurd cc
    none_left (Some ys) None later text xs told fills none done = absurd fills
    none_left (Some ys) (Some zs) None text xs told fills none done = absurd none
    none_left (Some ys) (Some zs) (Some ws) text xs told fills none done = ap Some (sym none ∙ done)

    front_of_none : (left : Option (List ℕ)) → FillsFront left left
    front_of_none None = tt
    front_of_none (Some xs) = ([], refl)

    module _ (turns : ℕ) (mid : Standing S) (left between : Option (List ℕ)) (given counted : ℕ)
        (taken put : Option (List ℕ))
        (h : IsServedTo turns mid left between given counted taken put) where
      pub served_on : (new : Standing S) (later : Option (List ℕ)) (total : ℕ)
          (now : Option (List ℕ)) → TakesTurn rules mid new between later counted total put now true
          → IsServedTo (turns + 1) new left later given total taken now
      served_on new later total now k = record {
        text = h.text ++ k.bytes;
        fills = fills_both left between later h.text k.bytes h.fills k.fills;
        count = omega (arith, h.count, k.count, length-append h.text k.bytes);
        answered = answers_on
            (first_standing first) mid new h.text k.bytes taken put now h.answered k.answered;
        few = omega (arith, h.few, k.some refl, length-append h.text k.bytes);
      }

      pub served_all : (new : Standing S) (later : Option (List ℕ)) (total : ℕ)
          (now : Option (List ℕ)) → TakesTurn rules mid new between later counted total put now
          false → IsDone between → AnswersLines rules first new left later given total taken now
      served_all new later total now k done =
          let none : k.bytes ≡ [] = k.none refl in
          let text : h.text ++ k.bytes
          ≡ h.text = ap (λ (bs : List ℕ). h.text ++ bs) none ∙ append-nil h.text in
          let fills : Fills left later h.text = subst (λ (t : List ℕ). Fills left later t) text
          (fills_both left between later h.text k.bytes h.fills k.fills) in
          let count : total ≡ given + length h.text = omega
          (arith, h.count, k.count, ap length text, length-append h.text k.bytes) in
          record {
            text = h.text;
            gives = record {
              counted = count;
              told = λ xs told. (
                all_told left between h.text xs told h.fills done,
                none_left left between later
                    h.text xs told h.fills
                    (subst (λ (bs : List ℕ). Fills between later bs) none k.fills) done,
              );
            };
            fills = fills;
            answered = subst
                (λ (t : List ℕ). PutsAnswers rules (first_standing first) t new taken now) text
                (answers_on (first_standing first) mid new h.text k.bytes taken put now h.answered
                k.answered);
          }

      pub served_until : (later : Option (List ℕ)) (total : ℕ) (now : Option (List ℕ))
          → LosesBytes between later counted total → now ≡ put
          → AnswersUntilFailure rules first left later given total taken now
      served_until later total now k same = record {
        text = h.text;
        mid = between;
        new = mid;
        fills = h.fills;
        lost = k.lost;
        count = k.count ∙ h.count;
        answered = subst (λ (t : Option (List ℕ)). PutsAnswers rules
            (first_standing first) h.text mid taken t) (sym same) h.answered;
      }

      -- its calls were too many
      pub served_still : AnswersUntilFailure rules first left between given counted taken put
      served_still = served_until between counted put
          (record { lost = front_of_none between; count = refl }) refl

      pub served_front : (later : Option (List ℕ)) (total : ℕ) (now : Option (List ℕ))
          → BreaksTurn rules mid between later counted total put now
          → BreaksOff rules first left later given total taken now
      served_front later total now k =
          let more : PutsAnswersFront rules mid.state []
          (records_ending_in (pending_after (Kept []) h.text) k.bytes) put now =
          subst (λ (p : Pending). PutsAnswersFront rules mid.state []
          (records_ending_in p k.bytes) put now) h.answered.serves.pending k.answered in
          record {
            text = h.text ++ k.bytes;
            fills = fills_both left between later h.text k.bytes h.fills k.fills;
            count = omega (arith, h.count, k.count, length-append h.text k.bytes);
            answered =
                subst (λ (rs : List (Result Record Fault)). PutsAnswersFront rules first [] rs taken
                now) (sym (records_both (Kept []) h.text k.bytes))
                (front_on mid h.text (records_ending_in (pending_after (Kept []) h.text) k.bytes)
                taken put now h.answered more);
          }

    -- ---- the end of the input

    pub answers_whole : (mid new : Standing S) (text : List ℕ) (taken between now : Option (List ℕ))
        (outcome : Outcome) → PutsAnswers rules (first_standing first) text mid taken between
        → PutsLast rules mid new between now → outcome ≡ new.outcome
        → AnswersText rules first text outcome taken now
    answers_whole mid new text taken between now outcome h k is =
        let last : HearsAll rules mid.state
        (last_record (pending_after (Kept []) text)) k.answers new.state =
        subst (λ (p : Pending). HearsAll rules mid.state (last_record p) k.answers new.state)
        h.serves.pending k.ends.heard in
        record {
          answers = h.answers ++ k.answers;
          state = new.state;
          serves = HearsAll-both rules first mid.state new.state (records_ending_in (Kept []) text)
              (last_record (pending_after (Kept []) text)) h.answers k.answers h.serves.heard last;
          worst_of = is ∙ k.ends.outcome ∙ ap (λ (o : Outcome). worst rules o k.answers)
              h.serves.outcome ∙ sym (worst-append rules outcomes.Done h.answers k.answers);
          put =
              subst (λ (t : List ℕ). Puts taken now t)
              (sym (answers_text-append rules h.answers k.answers))
              (puts_both taken between now (answers_text rules h.answers)
              (answers_text rules k.answers) h.put k.put);
        }

    pub heard_out : (mid new : Standing S) (left later : Option (List ℕ)) (given counted : ℕ)
        (taken between now : Option (List ℕ)) → AnswersLines rules first mid left later given
        counted taken between → PutsLast rules mid new between now
        → HearsOut rules first new.state left later given counted
    heard_out mid new left later given counted taken between now h k =
        let last : HearsAll rules mid.state
        (last_record (pending_after (Kept []) h.text)) k.answers new.state =
        subst (λ (p : Pending). HearsAll rules mid.state (last_record p) k.answers new.state)
        h.answered.serves.pending k.ends.heard in
        record {
          text = h.text;
          gives = h.gives;
          answers = h.answered.answers ++ k.answers;
          serves = HearsAll-both rules first mid.state new.state
              (records_ending_in (Kept []) h.text) (last_record (pending_after (Kept []) h.text))
              h.answered.answers k.answers h.answered.serves.heard last;
        }

    pub breaks_at_end : (mid : Standing S) (left later : Option (List ℕ)) (given counted : ℕ)
        (taken between now : Option (List ℕ))
        → AnswersLines rules first mid left later given counted taken between
        → PutsAnswersFront rules mid.state [] (last_record mid.pending) between now
        → AnswersFrontOf rules first left later given counted taken now
    breaks_at_end mid left later given counted taken between now h k =
        let last : PutsAnswersFront rules mid.state []
        (last_record (pending_after (Kept []) h.text)) between now =
        subst (λ (p : Pending). PutsAnswersFront rules mid.state [] (last_record p) between now)
        h.answered.serves.pending k in
        record {
          text = h.text;
          fills = h.fills;
          count = h.gives.counted;
          answered = inr (
            h.gives,
            front_on mid h.text
                (last_record (pending_after (Kept []) h.text)) taken between now h.answered last,
          );
        }

    pub breaks_before : (left later : Option (List ℕ)) (given counted : ℕ)
        (taken now : Option (List ℕ)) → BreaksOff rules first left later given counted taken now
        → AnswersFrontOf rules first left later given counted taken now
    breaks_before left later given counted taken now h =
        record { text = h.text; fills = h.fills; count = h.count; answered = inl h.answered }

  -- ---- one turn

  pub turn_none : (old : Standing S) (left later : Option (List ℕ)) (given counted : ℕ)
      (taken : Option (List ℕ)) (count : ℕ) (room : List ℕ) → count ≡ 0
      → Fills left later (take count room) → counted ≡ given + count
      → TakesTurn rules old old left later given counted taken taken false
  turn_none old left later given counted taken count room zero fills counts =
      let nothing : length {A = ℕ} [] ≡ 0 = refl in
      record {
        bytes = [];
        fills = subst (λ (n : ℕ). Fills left later (take n room)) zero fills;
        count = omega (arith, nothing);
        answered = none_put old taken;
        some = λ e. absurd (false≢true e);
        none = λ e. refl;
      }

  module _ (old : Standing S) (left later : Option (List ℕ)) (given counted : ℕ)
      (taken now : Option (List ℕ)) (count : ℕ) (room : List ℕ) (within : count ≤ length room)
      (fills : Fills left later (take count room)) (counts : counted ≡ given + count) where
    counted_in : counted ≡ given + length (take count room)
    counted_in = counts ∙ ap (λ (n : ℕ). given + n) (sym (length-take-le count room within))

    pub turn_some : (new : Standing S) → 0 < count → PutsAnswers rules old (take count room) new
        taken now → TakesTurn rules old new left later given counted taken now true
    turn_some new some answered = record {
      bytes = take count room;
      fills = fills;
      count = counted_in;
      answered = answered;
      some = λ e. omega (arith, length-take-le count room within);
      none = λ e. absurd (false≢true (sym e));
    }

    pub turn_broken : PutsAnswersFront rules old.state [] (records_ending_in old.pending
        (take count room)) taken now → BreaksTurn rules old left later given counted taken now
    turn_broken answered =
        record { bytes = take count room; fills = fills; count = counted_in; answered = answered }
