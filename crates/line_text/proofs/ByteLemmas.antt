-- The lines of bytes that came, answered one after another.
use Rattle.std.proofs.Common.{◌≡◌, ℕ, ◌+◌, List, [], ◌∷◌, ◌++◌, append_assoc, drop, take, refl, sym}
use Rattle.std.proofs.Common.{ap, ◌∙◌, subst, true}
use Rattle.std.specs.Prelude.{Option, Result}
use Rattle.std.proofs.lemmas.List.{append-nil}
use Rattle.line_fields.specs.declared.faults.Fault.{Fault}
use Rattle.line_fields.specs.Records.{Record}
use Rattle.line_text.specs.Lines.{IsFirstFeed, Kept, Pending, ended_record, has_no_feed}
use Rattle.line_text.specs.Lines.{pending_after}
use Rattle.line_text.specs.Progress.{AnswersRecords, AnswersWhole, Spot}
use Rattle.line_text.specs.Conversations.{records_ending_in}
use Rattle.line_text.specs.Answerers.{PutsAnswersFront}
use Rattle.line_text.proofs.HeardLemmas.{answers_both, front_behind, front_first}
use Rattle.line_text.proofs.HeardLemmas.{none_answered}
use Rattle.line_text.specs.Rules.{Rules}
use Rattle.line_text.proofs.LineLemmas.{first_record, no_records, pending_behind}
use Rattle.line_text.proofs.LineLemmas.{pending_both, pending_nil, records_both}
use Rattle.line_text.proofs.LineLemmas.{records_nil}

-- the record of the line up to a line feed, and those behind it
pub feed_record : (pending : Pending) (bytes : List ℕ) (at : ℕ) → IsFirstFeed bytes at
    → records_ending_in pending bytes ≡ ended_record (pending_after pending (take at bytes))
    ++ records_ending_in (Kept []) (drop (at + 1) bytes)
feed_record pending bytes at feed =
    ap (records_ending_in pending) feed.there ∙ first_record pending (take at bytes)
    (drop (at + 1) bytes) feed.none_before

pub feed_pending : (pending : Pending) (bytes : List ℕ) (at : ℕ) → IsFirstFeed bytes at
    → pending_after pending bytes ≡ pending_after (Kept []) (drop (at + 1) bytes)
feed_pending pending bytes at feed = ap (pending_after pending) feed.there ∙ pending_behind pending
    (take at bytes) (drop (at + 1) bytes)

module _ {S A : Type 0} (rules : Rules S A) where
  -- other records are the same
  pub other_answers : (old new : Spot S) (records others : List (Result Record Fault))
      (taken now : Option (List ℕ)) → records ≡ others → AnswersRecords rules old records new taken
      now → AnswersRecords rules old others new taken now
  other_answers old new records others taken now same h =
      subst (λ (rs : List (Result Record Fault)). AnswersRecords rules old rs new taken now) same h

  pub other_front : (old : S) (held : List ℕ) (records others : List (Result Record Fault))
      (taken now : Option (List ℕ)) → records ≡ others → PutsAnswersFront rules old held records
      taken now → PutsAnswersFront rules old held others taken now
  other_front old held records others taken now same h = subst
      (λ (rs : List (Result Record Fault)). PutsAnswersFront rules old held rs taken now) same h

  pub whole_none : (old : Spot S) (bytes : List ℕ) (taken : Option (List ℕ))
      → AnswersWhole rules old bytes bytes old taken taken
  whole_none old bytes taken = record {
    done = [];
    parts = refl;
    none_pending = pending_nil (Kept []);
    answered = other_answers old old [] (records_ending_in (Kept []) []) taken taken
        (sym (records_nil (Kept []))) (none_answered rules old taken);
  }

  module _ (old mid : Spot S) (bytes left : List ℕ) (taken between : Option (List ℕ))
      (h : AnswersWhole rules old bytes left mid taken between) where
    -- the records of all bytes: of those that are done, and of those that are left
    all_records : records_ending_in (Kept []) bytes
        ≡ records_ending_in (Kept []) h.done ++ records_ending_in (Kept []) left
    all_records =
        ap (records_ending_in (Kept [])) h.parts ∙ records_both (Kept []) h.done left
        ∙ ap (λ (p : Pending). records_ending_in (Kept []) h.done ++ records_ending_in p left)
        h.none_pending

    pub whole_on : (new : Spot S) (at : ℕ) (now : Option (List ℕ)) → IsFirstFeed left at
        → AnswersRecords rules mid (ended_record (pending_after (Kept []) (take at left))) new
        between now → AnswersWhole rules old bytes (drop (at + 1) left) new taken now
    whole_on new at now feed k =
        let line : List ℕ = take at left ++ 10 ∷ [] in
        let last : records_ending_in (Kept []) line
        ≡ ended_record (pending_after (Kept []) (take at left)) =
        first_record (Kept []) (take at left) [] feed.none_before ∙ ap
        (λ (rs : List (Result Record Fault)). ended_record
        (pending_after (Kept []) (take at left)) ++ rs) (records_nil (Kept []))
        ∙ append-nil (ended_record (pending_after (Kept []) (take at left))) in
        let all : records_ending_in (Kept []) h.done ++ ended_record (pending_after (Kept [])
        (take at left)) ≡ records_ending_in (Kept []) (h.done ++ line) =
        sym (records_both (Kept []) h.done line ∙ ap (λ (p : Pending). records_ending_in
        (Kept []) h.done ++ records_ending_in p line) h.none_pending
        ∙ ap (λ (rs : List (Result Record Fault)). records_ending_in (Kept []) h.done ++ rs) last)
        in
        record {
          done = h.done ++ line;
          parts =
              h.parts ∙ ap (λ (bs : List ℕ). h.done ++ bs)
              (feed.there ∙ sym (append_assoc (take at left) (10 ∷ []) (drop (at + 1) left)))
              ∙ sym (append_assoc h.done line (drop (at + 1) left));
          none_pending =
              pending_both (Kept []) h.done line ∙ ap
              (λ (p : Pending). pending_after p line) h.none_pending ∙ pending_behind (Kept [])
              (take at left) [] ∙ pending_nil (Kept []);
          answered =
              other_answers old new
              (records_ending_in (Kept []) h.done ++ ended_record (pending_after (Kept [])
              (take at left))) (records_ending_in (Kept []) (h.done ++ line)) taken now all
              (answers_both rules old mid new (records_ending_in (Kept []) h.done) (ended_record
              (pending_after (Kept []) (take at left))) taken between now h.answered k);
        }

    pub whole_front : (now : Option (List ℕ))
        → PutsAnswersFront rules mid.state mid.writer (records_ending_in (Kept []) left) between now
        → PutsAnswersFront rules old.state old.writer (records_ending_in (Kept []) bytes) taken now
    whole_front now k =
        other_front old.state old.writer (records_ending_in (Kept []) h.done ++ records_ending_in
        (Kept []) left) (records_ending_in (Kept []) bytes) taken now (sym all_records)
        (front_behind rules old mid (records_ending_in (Kept []) h.done)
        (records_ending_in (Kept []) left) taken between now h.answered k)

    -- no further line ends there
    pub whole_end : (new : Spot S) (now : Option (List ℕ)) → AnswersRecords rules mid [] new between
        now → AnswersWhole rules old bytes left new taken now
    whole_end new now k = record {
      done = h.done;
      parts = h.parts;
      none_pending = h.none_pending;
      answered =
          other_answers old new (records_ending_in (Kept []) h.done ++ []) (records_ending_in
          (Kept []) h.done) taken now (append-nil (records_ending_in (Kept []) h.done))
          (answers_both rules old mid new
          (records_ending_in (Kept []) h.done) [] taken between now h.answered k);
    }

    -- nothing is left but bytes of a line
    pub whole_all : has_no_feed left ≡ true
        → AnswersRecords rules old (records_ending_in (Kept []) bytes) mid taken between
    whole_all none =
        other_answers old mid (records_ending_in (Kept []) h.done)
        (records_ending_in (Kept []) bytes) taken between
        (sym (all_records ∙ ap
        (λ (rs : List (Result Record Fault)). records_ending_in (Kept []) h.done ++ rs)
        (no_records (Kept []) left none) ∙ append-nil (records_ending_in (Kept []) h.done)))
        h.answered

    pub whole_pending : pending_after (Kept []) bytes ≡ pending_after (Kept []) left
    whole_pending = ap (pending_after (Kept [])) h.parts ∙ pending_both (Kept []) h.done left ∙ ap
        (λ (p : Pending). pending_after p left) h.none_pending

  -- ---- bytes behind a line that is pending

  pub none_ends : (old : Spot S) (pending : Pending) (bytes : List ℕ) (taken : Option (List ℕ))
      → has_no_feed bytes ≡ true
      → AnswersRecords rules old (records_ending_in pending bytes) old taken taken
  none_ends old pending bytes taken none = other_answers old old [] (records_ending_in pending
      bytes) taken taken (sym (no_records pending bytes none)) (none_answered rules old taken)

  -- the first line and the others were answered
  module _ (old mid : Spot S) (pending : Pending) (bytes : List ℕ) (at : ℕ)
      (taken between : Option (List ℕ)) (feed : IsFirstFeed bytes at)
      (h : AnswersRecords rules old
      (ended_record (pending_after pending (take at bytes))) mid taken between) where
    pub bytes_answered : (new : Spot S) (now : Option (List ℕ))
        → AnswersRecords rules mid (records_ending_in (Kept []) (drop (at + 1) bytes)) new between
        now → AnswersRecords rules old (records_ending_in pending bytes) new taken now
    bytes_answered new now k =
        other_answers old new
        (ended_record (pending_after pending (take at bytes))
        ++ records_ending_in (Kept []) (drop (at + 1) bytes))
        (records_ending_in pending bytes) taken now (sym (feed_record pending bytes at feed))
        (answers_both rules old mid new (ended_record (pending_after pending (take at bytes)))
        (records_ending_in (Kept []) (drop (at + 1) bytes)) taken between now h k)

    pub bytes_front : (now : Option (List ℕ))
        → PutsAnswersFront rules mid.state mid.writer
        (records_ending_in (Kept []) (drop (at + 1) bytes)) between now
        → PutsAnswersFront rules old.state old.writer (records_ending_in pending bytes) taken now
    bytes_front now k =
        other_front old.state old.writer
        (ended_record (pending_after pending (take at bytes))
        ++ records_ending_in (Kept []) (drop (at + 1) bytes))
        (records_ending_in pending bytes) taken now (sym (feed_record pending bytes at feed))
        (front_behind rules old mid (ended_record (pending_after pending (take at bytes)))
        (records_ending_in (Kept []) (drop (at + 1) bytes)) taken between now h k)

  -- of the answer to the first line a front was put
  pub first_front : (old : S) (held : List ℕ) (pending : Pending) (bytes : List ℕ) (at : ℕ)
      (taken now : Option (List ℕ)) → IsFirstFeed bytes at
      → PutsAnswersFront rules old held (ended_record (pending_after pending (take at bytes))) taken
      now → PutsAnswersFront rules old held (records_ending_in pending bytes) taken now
  first_front old held pending bytes at taken now feed k =
      let one : List (Result Record Fault) = ended_record (pending_after pending (take at bytes)) in
      let more : List (Result Record Fault) = records_ending_in (Kept []) (drop (at + 1) bytes) in
      other_front old held (one ++ more) (records_ending_in pending bytes) taken now (sym
      (feed_record pending bytes at feed)) (front_first rules old held one more taken now k)
