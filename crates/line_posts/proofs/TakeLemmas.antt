-- What holds of a worker holds after it has taken what came next on a ring.
use Rattle.std.proofs.Common.{◌≡◌, ◌≢◌, ◌∙◌, ◌<◌, ◌++◌, ◌∷◌, [], ℕ, Bool, true, false, List, length}
use Rattle.std.proofs.Common.{refl, sym, ap, subst, inl, inr}
use Rattle.std.specs.Prelude.{Result, Ok, Err, IfOk, OnErr, not}
use Rattle.line_names.specs.declared.messages.MsgName.{MsgName}
use Rattle.line_rounds.specs.Recording.{RecordedRound}
use Rattle.line_tape.specs.declared.events.Event.{Event}
use Rattle.line_tape.specs.declared.events.Event.TheVariants.{Recv}
use Rattle.line_posts.specs.Ends.{End, row_at, with_item}
use Rattle.line_posts.specs.declared.parcels.Parcel.{Parcel}
use Rattle.line_posts.specs.declared.parcels.Parcel.TheVariants.{Message}
use Rattle.line_posts.specs.declared.receiving.Received.{Received}
use Rattle.line_posts.specs.declared.receiving.Received.TheVariants.{Message as TookMessage, Marked}
use Rattle.line_posts.specs.Markers.{recorded_by}
use Rattle.line_posts.specs.Posts.{IsPost, PostView}
use Rattle.line_posts.specs.Receipts.{HasMarked, HasOnlySeen, HasReceived, HasTaken, packet_named}
use Rattle.line_posts.proofs.StepLemmas.{seen_free}
use Rattle.line_posts.proofs.ReceiveLemmas.{next_keeps}
use Rattle.line_posts.proofs.MarkerLemmas.{mark_keeps, force_keeps}

-- a clause of the old and of what is seen, at equals of both
pub at_both : {X Y : Type 0} (F : X → Y → Type 0) (a b : X) (c d : Y) → a ≡ b → d ≡ c → F a c
    → F b d
at_both F a b c d e g h = subst (F b) (sym g) (subst (λ x. F x c) e h)

was_checked : (b : Bool) → false ≡ not b → b ≡ true
was_checked true e = refl
was_checked false e = cc e

was_not : (b : Bool) → true ≡ not b → b ≡ false
was_not true e = cc e
was_not false e = refl

-- of which it keeps no replay
module _ (post new : PostView) (from : ℕ) (state : List ℕ) (h : IsPost post) (lt : from < length
    post.opening) (ne : from ≢ post.number) (bare : row_at post.kept from ≡ []) where
  taken_keeps : (name : MsgName) (body : List ℕ) → name.from ≡ from → HasTaken post name body new
      → IsPost new
  taken_keeps name body f (e, inl (first, rest, same)) =
      (let row = ap (row_at post.kept) f in cc (first, row, bare))
  taken_keeps name body f (e, inr (none, kept_is, ins_is)) =
      let keeps = next_keeps post from (packet_named name body) (post.tape ++ Recv name ∷ [])
      new.ins post.floor (recorded_by post (Recv name)) h lt ne bare
      (ap (λ x. post.tape ++ Recv (record { from = x; inc = name.inc; number = name.number }) ∷ [])
      f)
      (ins_is ∙ ap (λ x. with_item post.ins x (Message (packet_named name body))) f) in
      subst IsPost (sym e)
      (seen_free _ new.seen
      (subst (λ k. IsPost (record post {
        tape = post.tape ++ Recv name ∷ [];
        kept = k;
        ins =
            new.ins;
        rounds = recorded_by post (Recv name);
      })) (sym kept_is) keeps))

  marked_keeps : (round : ℕ) (forced : Bool) → HasMarked post from state round forced new
      → IsPost new
  marked_keeps round false m = subst IsPost (sym m.new_is) (seen_free _ new.seen
      (mark_keeps post from round _ _ _ _ h lt ne bare (was_checked _ m.forced_is) refl refl))
  marked_keeps round true m = subst IsPost (sym m.new_is) (seen_free _ new.seen (force_keeps post
      from round state _ _ _ _ _ h lt ne bare (was_not _ m.forced_is) refl refl refl))

  received_keeps : (r : Received) → HasReceived post from state r new → IsPost new
  received_keeps (TookMessage name body) (f, t) = taken_keeps name body f t
  received_keeps (Marked round forced) m = marked_keeps round forced m

  pub take_keeps : {E : Type 0} (r : Result Received E) → IfOk r
      (λ x. HasReceived post from state x new) → OnErr r (HasOnlySeen post new) → IsPost new
  take_keeps (Ok x) ok err = received_keeps x ok
  take_keeps (Err e) ok err = subst IsPost (sym err) (seen_free post new.seen h)

-- nothing but what is seen has changed
pub only_seen : {T E : Type 0} (r : Result T E) (post : PostView) (tape : List Event)
    (outs ins : List (End Parcel)) (seen : List (List Parcel)) (floor : ℕ)
    (rounds : List RecordedRound) → floor ≡ post.floor
    → OnErr r ((tape ≡ post.tape) × (rounds ≡ post.rounds) × (outs ≡ post.outs) × (ins ≡ post.ins))
    → OnErr r (HasOnlySeen post (record post
    { tape = tape; outs = outs; ins = ins; seen = seen; floor = floor; rounds = rounds }))
only_seen (Ok x) post tape outs ins seen floor rounds f h = tt
only_seen (Err e) post tape outs ins seen floor rounds f (t, u, o, i) = rw (f, t, u, o, i) refl
