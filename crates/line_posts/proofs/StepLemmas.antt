-- What holds of a worker holds after a step.
use Rattle.std.proofs.lemmas.Bool.{cases_eq, eq-eqb, ne_eqb}
use Rattle.std.proofs.lemmas.Option.{same_Some}
use Rattle.std.specs.Prelude.{Result, Ok, Err, OnOk, is_err}
use Rattle.std.proofs.Common.{cond, ◌≡◌, ◌≢◌, ◌∙◌, ◌<◌, ◌++◌, ◌∷◌, [], ℕ, false, List, Some, None}
use Rattle.std.proofs.Common.{length, refl, sym, ap, inl, inr, arith, ◌⊎◌}
use Rattle.std.specs.Prelude.{slice_get, Contains}
use Rattle.std.specs.List.{filter_map}
use Rattle.std.proofs.lemmas.List.{append_assoc, append-nil, map-append}
use Rattle.std.proofs.lemmas.List.Elements.{All-push, filter_map-append}
use Rattle.line_rounds.specs.Recording.{RecordedRound}
use Rattle.line_tape.specs.declared.events.Event.{Event}
use Rattle.line_tape.specs.declared.events.Event.TheVariants.{Send, Recv, Check, Mark}
use Rattle.line_tape.specs.declared.items.Item.{Item}
use Rattle.line_tape.specs.Event.{sends, incarnations_sent, incarnation_of, Holds, NamesBelow}
use Rattle.line_tape.specs.Fit.{sent_between, item_received}
use Rattle.line_tape.specs.Rounds.{rounds_checked, checked_round, has_check_of}
use Rattle.line_laws.proofs.NextLemmas.{rounds_push, marks_push}
use Rattle.line_tape.proofs.ListLemmas.{slice_get_push}
use Rattle.line_posts.specs.Ends.{End, items_at, row_at, with_item}
use Rattle.line_posts.proofs.EndLemmas.{length_item, items_same, items_other}
use Rattle.line_posts.specs.declared.parcels.Parcel.TheVariants.{Message}
use Rattle.line_posts.specs.declared.parcels.Packet.{Packet}
use Rattle.line_posts.specs.declared.parcels.Parcel.{Parcel}
use Rattle.line_posts.specs.Parcels.{items_of_packets, items_of_parcels, parcels_sent}
use Rattle.line_posts.specs.Posts.{incarnation_of_post, opening_tape, IsPost, PostView}
use Rattle.line_posts.proofs.ParcelLemmas.{parcels_append}

-- what a step by an event owes: what it puts on the rings, what it takes from them or from the
-- replays, and what the event itself may be
pub record IsStep (post : PostView) (event : Event) (kept : List (List Packet))
    (outs ins : List (End Parcel)) : Type 0 where
  pub out_count : length outs ≡ length post.outs
  pub in_count : length ins ≡ length post.ins
  pub kept_count : length kept ≡ length post.kept
  pub put : (q : ℕ) → q < length post.opening → q ≢ post.number
      → items_at outs q ≡ items_at post.outs q ++ parcels_sent q (sends post.tape) (event ∷ [])
  pub got : (p : ℕ) → (popped : List Parcel) × (items_at ins p ≡ items_at post.ins p ++ popped)
      × (items_of_packets p (row_at post.kept p) ++ items_of_parcels p popped
      ≡ filter_map (item_received p) (event ∷ []) ++ items_of_packets p (row_at kept p))
  pub replays : (p : ℕ) → (row_at kept p ≡ []) ⊎ (items_at ins p ≡ [])
  pub alone : items_at ins post.number ≡ []
  pub named : NamesBelow (length post.opening) event
  pub present : (inc : ℕ) → incarnation_of event ≡ Some inc → inc ≡ incarnation_of_post post
  pub rounds : (r : ℕ) → checked_round event ≡ Some r → has_check_of r post.tape ≡ false
  pub marks : (from r : ℕ) → event ≡ Mark from r → Contains (rounds_checked post.tape) r

abbrev pub stepped : PostView → Event → List (List Packet) → List (End Parcel) → List (End Parcel)
    → ℕ → List RecordedRound → PostView
stepped post event kept outs ins floor rounds = record post {
  tape = post.tape
      ++ event ∷ [];
  kept = kept;
  outs = outs;
  ins = ins;
  floor = floor;
  rounds = rounds;
}

-- the incarnation of a send on the longer tape
held_push : (tape : List Event) (event : Event) (k inc : ℕ) → Holds (tape ++ event ∷ []) inc k
    → Holds tape inc k ⊎ (incarnation_of event ≡ Some inc)
held_push tape (Send to i body) k inc h =
    elim (slice_get_push (incarnations_sent tape) i inc k (ap (λ (t : List ℕ). slice_get t k)
    (sym (filter_map-append incarnation_of tape (Send to i body ∷ []))) ∙ h)) [
      | inl (lt, e) ↦ inl e
      | inr (at, e) ↦ inr (ap (λ x. Some x) e)
    ]
held_push tape (Recv m) k inc h = inl (ap (λ (t : List ℕ). slice_get t k) (sym (filter_map-append
    incarnation_of tape (Recv m ∷ []) ∙ append-nil (incarnations_sent tape))) ∙ h)
held_push tape (Check s r) k inc h = inl (ap (λ (t : List ℕ). slice_get t k) (sym (filter_map-append
    incarnation_of tape (Check s r ∷ []) ∙ append-nil (incarnations_sent tape))) ∙ h)
held_push tape (Mark f r) k inc h = inl (ap (λ (t : List ℕ). slice_get t k) (sym (filter_map-append
    incarnation_of tape (Mark f r ∷ []) ∙ append-nil (incarnations_sent tape))) ∙ h)

-- what was received, and then what is kept, one step on
got_more : (r g k k' s x : List Item) (i i' : List Item) → r ++ k ≡ s ++ i → i' ≡ i ++ x
    → k ++ x ≡ g ++ k' → (r ++ g) ++ k' ≡ s ++ i'
got_more r g k k' s x i i' e f h =
    append_assoc r g k' ∙ (ap (λ t. r ++ t) (sym h) ∙ (sym (append_assoc r k x) ∙
    (ap (λ t. t ++ x) e ∙ (append_assoc s i x ∙ ap (λ t. s ++ t) (sym f)))))

pub post_step : (post : PostView) (event : Event) (kept : List (List Packet))
    (outs ins : List (End Parcel)) (floor : ℕ) (rounds : List RecordedRound) → IsPost post
    → IsStep post event kept outs ins → IsPost (stepped post event kept outs ins floor rounds)
post_step post event kept outs ins floor rounds h s = record {
  within = h.within;
  out_count = s.out_count ∙ h.out_count;
  in_count = s.in_count ∙ h.in_count;
  kept_count = s.kept_count ∙ h.kept_count;
  named = All-push (NamesBelow (length post.opening)) post.tape event h.named s.named;
  reports = (
    h.reports.0 ++ event ∷ [],
    sym (ap (λ t. t ++ event ∷ []) (sym h.reports.1) ∙
        append_assoc (opening_tape post ++ post.line.items) h.reports.0 (event ∷ [])),
  );
  sends_are = λ q lt ne.
      parcels_append q 0 post.tape (event ∷ [])
      ∙ (ap (λ n. parcels_sent q 0 post.tape ++ parcels_sent q n (event ∷ [])) (omega arith)
      ∙ (ap (λ t. t ++ parcels_sent q (sends post.tape) (event ∷ [])) (h.sends_are q lt ne)
      ∙ (append_assoc (parcels_sent q 0 (opening_tape post)) (items_at post.outs q)
      (parcels_sent q (sends post.tape) (event ∷ []))
      ∙ ap (λ t. parcels_sent q 0 (opening_tape post) ++ t) (sym (s.put q lt ne)))));
  receipts_are = λ p.
      let (popped, more, same) = s.got p in
      ap (λ t. t ++ items_of_packets p (row_at kept p))
      (filter_map-append (item_received p) post.tape (event ∷ []))
      ∙ got_more (filter_map (item_received p) post.tape)
      (filter_map (item_received p) (event ∷ [])) (items_of_packets p (row_at post.kept p))
      (items_of_packets p (row_at kept p)) (sent_between post.opening p post.number)
      (items_of_parcels p popped)
      (items_of_parcels p (items_at post.ins p)) (items_of_parcels p (items_at ins p))
      (h.receipts_are p)
      (ap (items_of_parcels p) more ∙ map-append _ (items_at post.ins p) popped) same;
  replays = s.replays;
  alone = s.alone;
  present = λ k inc le held. elim (held_push post.tape event k inc held) [
    | inl old ↦ h.present k inc le old
    | inr new ↦ s.present inc new
  ];
  rounds = rounds_push post.tape event h.rounds s.rounds;
  marks = marks_push post.tape event h.marks s.marks;
}

pub ok_part : {T E : Type 0} (r : Result T E) (P : Type 0) → is_err r ≡ false → OnOk r P → P
ok_part (Ok x) P e p = p
ok_part (Err x) P e p = cc e

pub send_step : (post : PostView) (to : ℕ) (body : List ℕ) → IsPost post → to < length post.opening
    → to ≢ post.number
    → IsStep post (Send to (incarnation_of_post post) body) post.kept
    (with_item post.outs to (Message (record
    { inc = incarnation_of_post post; number = sends post.tape; body = body }))) post.ins
send_step post to body h lt ne =
    let x = Message
    (record { inc = incarnation_of_post post; number = sends post.tape; body = body }) in
    let c = h.out_count in
    record {
      out_count = length_item post.outs to x;
      in_count = refl;
      kept_count = refl;
      put = λ q within other. elim (cases_eq to q) [
        | inl same ↦ items_same post.outs to q x (omega (arith, lt, c)) (sym same)
            ∙ ap (λ b. items_at post.outs q ++ cond b (x ∷ []) []) (sym (eq-eqb to q same))
        | inr apart ↦ items_other post.outs to q x (λ e. apart (sym e)) ∙
            (sym (append-nil (items_at post.outs q))
            ∙ ap (λ b. items_at post.outs q ++ cond b (x ∷ []) []) (sym (ne_eqb to q apart)))
      ];
      got = λ p. (
        [],
        sym (append-nil (items_at post.ins p)),
        append-nil
            (items_of_packets p (row_at post.kept p)),
      );
      replays = h.replays;
      alone = h.alone;
      named = lt;
      present = λ inc e. sym (same_Some _ _ e);
      rounds = λ r e. cc e;
      marks = λ from r e. cc e;
    }

pub send_keeps : (post : PostView) (to : ℕ) (body : List ℕ) (tape : List Event)
    (outs : List (End Parcel)) (floor : ℕ) (rounds : List RecordedRound) → IsPost post
    → to < length post.opening → to ≢ post.number
    → tape ≡ post.tape ++ Send to (incarnation_of_post post) body ∷ []
    → outs ≡ with_item post.outs to
    (Message (record { inc = incarnation_of_post post; number = sends post.tape; body = body }))
    → IsPost (record post { tape = tape; outs = outs; floor = floor; rounds = rounds })
send_keeps post to body tape outs floor rounds h lt ne et eo =
    rw (et, eo) (post_step post _ _ _ _ floor rounds h (send_step post to body h lt ne))

pub on_ok_at : {T E : Type 0} (r : Result T E) (x : T) (P : Type 0) → r ≡ Ok x → OnOk r P → P
on_ok_at (Ok y) x P e p = p
on_ok_at (Err y) x P e p = cc e

pub alone_step : (post : PostView) (state : List ℕ) → IsPost post
    → IsStep post (Check state None) post.kept post.outs post.ins
alone_step post state h = record {
  out_count = refl;
  in_count = refl;
  kept_count = refl;
  put = λ q within other. sym (append-nil (items_at post.outs q));
  got = λ p. (
    [],
    sym (append-nil (items_at post.ins p)),
    append-nil
        (items_of_packets p (row_at post.kept p)),
  );
  replays = h.replays;
  alone = h.alone;
  named = tt;
  present = λ inc e. cc e;
  rounds = λ r e. cc e;
  marks = λ from r e. cc e;
}

pub alone_keeps : (post : PostView) (state : List ℕ) (tape : List Event) (floor : ℕ)
    (rounds : List RecordedRound) → IsPost post → tape ≡ post.tape ++ Check state None ∷ []
    → IsPost (record post { tape = tape; floor = floor; rounds = rounds })
alone_keeps post state tape floor rounds h et =
    rw et (post_step post _ _ _ _ floor rounds h (alone_step post state h))

-- what holds of a worker says nothing of what it has seen, and of what it has recorded
pub looked_is : (post : PostView) (tape : List Event) (outs ins : List (End Parcel))
    (seen : List (List Parcel)) (floor : ℕ) (rounds : List RecordedRound) → IsPost post
    → tape ≡ post.tape → outs ≡ post.outs → ins ≡ post.ins
    → IsPost (record post
    { tape = tape; outs = outs; ins = ins; seen = seen; floor = floor; rounds = rounds })
looked_is post tape outs ins seen floor rounds h et eo ei = rw (et, eo, ei) (record {
  within = h.within;
  out_count = h.out_count;
  in_count = h.in_count;
  kept_count = h.kept_count;
  named = h.named;
  reports = h.reports;
  sends_are = h.sends_are;
  receipts_are = h.receipts_are;
  replays = h.replays;
  alone = h.alone;
  present = h.present;
  rounds = h.rounds;
  marks = h.marks;
})

pub seen_free : (post : PostView) (seen : List (List Parcel)) → IsPost post
    → IsPost (record post { seen = seen })
seen_free post seen h =
    looked_is post post.tape post.outs post.ins seen post.floor post.rounds h refl refl refl
