-- Taking a message keeps what holds of a worker.
use Rattle.std.proofs.Common.{cond, ◌≡◌, ◌≢◌, ◌∙◌, ◌<◌, ◌++◌, ◌∷◌, [], ℕ, List, Option, Some, None}
use Rattle.std.proofs.Common.{length, map, set, get_or, drop, refl, sym, ap, inl, inr, arith}
use mathlib.Core.List.{IsPrefix}
use Rattle.std.specs.declared.alloc.Global.{Global}
use Rattle.rtrb.specs.declared.AnyItems.{AnyItems}
use Rattle.rtrb.specs.declared.consumer.Consumer.{Consumer}
use Rattle.std.proofs.lemmas.Bool.{cases_eq, eq-eqb, ne_eqb}
use Rattle.std.proofs.lemmas.List.{append-nil, map-set, get_or-set_same, get_or-set_other}
use Rattle.std.proofs.lemmas.List.{length-set, length-map}
use Rattle.line_posts.proofs.RowLemmas.{row_seen}
use Rattle.std.specs.List.{filter_map}
use Rattle.line_posts.specs.Ends.{End, StillKnow, consumer_end, in_ends, items_at, known_at}
use Rattle.line_posts.specs.Ends.{known_rows, row_at, with_item}
use Rattle.line_posts.proofs.EndLemmas.{knows_more, length_item, items_same, items_other}
use Rattle.line_posts.proofs.EndLemmas.{prefix_self, still_rows, taken_still}
use Rattle.line_rounds.specs.Recording.{RecordedRound}
use Rattle.line_tape.specs.declared.events.Event.{Event}
use Rattle.line_tape.specs.declared.events.Event.TheVariants.{Recv}
use Rattle.line_tape.specs.declared.items.Item.{Item}
use Rattle.line_tape.specs.declared.items.Item.TheVariants.{Message as item_message}
use Rattle.line_tape.specs.Fit.{item_received}
use Rattle.line_posts.specs.declared.parcels.Packet.{Packet}
use Rattle.line_posts.specs.declared.parcels.Parcel.{Parcel}
use Rattle.line_posts.specs.declared.parcels.Parcel.TheVariants.{Message}
use Rattle.line_posts.specs.Parcels.{items_of_packets, packet_name}
use Rattle.line_posts.specs.Posts.{IsPost, PostView}
use Rattle.line_posts.specs.Receipts.{without_first, StillSees}
use Rattle.line_posts.proofs.StepLemmas.{IsStep, post_step}

pub pop_row : {X Y : Type 0} (f : X → List Y) (xs : List X) (p : ℕ) (old new : X) (x : Y)
    → p < length xs → old ≡ get_or xs p old → f old ≡ x ∷ f new
    → (row_at (map f xs) p ≡ x ∷ row_at (map f (set xs p new)) p)
    × (map f (set xs p new) ≡ without_first (map f xs) p)
pop_row f xs p old new x lt at is =
    let row : row_at (map f xs) p ≡ x ∷ f new = row_seen f xs p old lt ∙ (ap f (sym at) ∙ is) in
    let put : map f (set xs p new) ≡ set (map f xs) p (f new) = map-set f xs p new in
    let l = length-map xs f in
    let back : row_at (map f (set xs p new)) p ≡ f new = ap (λ t. row_at t p) put ∙ get_or-set_same
    (map f xs) p (f new) [] (omega (arith, lt, l)) in
    (row ∙ ap (λ t. x ∷ t) (sym back), put ∙ ap (λ t. set (map f xs) p t) (sym (ap (drop 1) row)))

-- what a receipt of a packet from process `from` takes from p
got_here : (p from : ℕ) (packet : Packet) → p ≡ from → filter_map (item_received p)
    (Recv (packet_name from packet) ∷ []) ≡ item_message (packet_name p packet) ∷ []
got_here p from packet e =
    ap (λ b. filter_map (λ (o : Option Item). o)
    (cond b (Some (item_message (packet_name from packet))) None ∷ []))
    (eq-eqb from p (sym e)) ∙ ap (λ x. item_message (packet_name x packet) ∷ []) (sym e)

got_apart : (p from : ℕ) (packet : Packet) → (p ≡ from → ⊥)
    → filter_map (item_received p) (Recv (packet_name from packet) ∷ []) ≡ []
got_apart p from packet ne =
    ap (λ b. filter_map (λ (o : Option Item). o) (cond b (Some
    (item_message (packet_name from packet))) None ∷ [])) (ne_eqb from p (λ e. ne (sym e)))

-- the next of the ring, where no replay is kept
pub next_step : (post : PostView) (from : ℕ) (packet : Packet) → IsPost post
    → from < length post.opening → from ≢ post.number → row_at post.kept from ≡ []
    → IsStep post (Recv (packet_name from packet)) post.kept post.outs
    (with_item post.ins from (Message packet))
next_step post from packet h lt ne bare =
    let c = h.in_count in
    record {
      out_count = refl;
      in_count = length_item post.ins from (Message packet);
      kept_count = refl;
      put = λ q within other. sym (append-nil (items_at post.outs q));
      got = λ p. elim (cases_eq p from) [
        | inl e ↦ (
          Message packet ∷ [],
          items_same post.ins from p (Message packet) (omega (arith, lt, c)) e,
          ap (λ t. items_of_packets p t ++ item_message (packet_name p packet) ∷ [])
              (ap (row_at post.kept) e ∙ bare)
              ∙ (sym (append-nil (item_message (packet_name p packet) ∷ []))
              ∙ (ap (λ t. (item_message (packet_name p packet) ∷ []) ++ items_of_packets p t)
              (sym (ap (row_at post.kept) e ∙ bare))
              ∙ ap (λ t. t ++ items_of_packets p (row_at post.kept p))
              (sym (got_here p from packet e)))),
        )
        | inr apart ↦ (
          [],
          items_other post.ins from p (Message packet) apart ∙ sym
              (append-nil (items_at post.ins p)),
          append-nil (items_of_packets p (row_at post.kept p)) ∙ ap (λ t. t
              ++ items_of_packets p (row_at post.kept p)) (sym (got_apart p from packet apart)),
        )
      ];
      replays = λ p. elim (cases_eq p from) [
        | inl e ↦ inl (ap (row_at post.kept) e ∙ bare)
        | inr apart ↦ elim (h.replays p) [
          | inl none ↦ inl none
          | inr none ↦ inr
              (items_other post.ins from p (Message packet) apart ∙ none)
        ]
      ];
      alone = items_other post.ins from post.number (Message packet) (λ e. ne (sym e)) ∙ h.alone;
      named = lt;
      present = λ inc e. cc e;
      rounds = λ r e. cc e;
      marks = λ f r e. cc e;
    }

-- the first of the replays
pub replay_step : (post : PostView) (from : ℕ) (packet : Packet) (rest : List Packet) → IsPost post
    → from < length post.opening → row_at post.kept from ≡ packet ∷ rest
    → IsStep post (Recv (packet_name from packet)) (without_first post.kept from) post.outs post.ins
replay_step post from packet rest h lt first =
    let c = h.kept_count in
    let left : row_at (without_first post.kept from) from ≡ rest = get_or-set_same post.kept from
    (drop 1 (row_at post.kept from)) [] (omega (arith, lt, c)) ∙ ap (drop 1) first in
    record {
      out_count = refl;
      in_count = refl;
      kept_count = length-set post.kept from (drop 1 (row_at post.kept from));
      put = λ q within other. sym (append-nil (items_at post.outs q));
      got = λ p. (
        [],
        sym (append-nil (items_at post.ins p)),
        append-nil (items_of_packets p (row_at post.kept p)) ∙ elim (cases_eq p from) [
          | inl e ↦ ap (λ t. items_of_packets p t) (ap (row_at post.kept) e ∙ first)
              ∙ (ap (λ t. (item_message (packet_name p packet) ∷ []) ++ items_of_packets p t)
              (sym (ap (row_at (without_first post.kept from)) e ∙ left))
              ∙ ap (λ t. t ++ items_of_packets p (row_at (without_first post.kept from) p))
              (sym (got_here p from packet e)))
          | inr apart ↦ ap (λ t. items_of_packets p t)
              (sym (get_or-set_other post.kept from p (drop 1 (row_at post.kept from)) [] apart))
              ∙ ap (λ t. t ++ items_of_packets p (row_at (without_first post.kept from) p))
              (sym (got_apart p from packet apart))
        ],
      );
      replays = λ p. elim (cases_eq p from) [
        | inl e ↦ elim (h.replays p) [
          | inl none ↦
              (let s = ap (row_at post.kept) e ∙ first in cc (none, s))
          | inr none ↦ inr none
        ]
        | inr apart ↦ elim (h.replays p) [
          | inl none ↦ inl (get_or-set_other post.kept from p
              (drop 1 (row_at post.kept from)) [] apart ∙ none)
          | inr none ↦ inr none
        ]
      ];
      alone = h.alone;
      named = lt;
      present = λ inc e. cc e;
      rounds = λ r e. cc e;
      marks = λ f r e. cc e;
    }

pub next_keeps : (post : PostView) (from : ℕ) (packet : Packet) (tape : List Event)
    (ins : List (End Parcel)) (floor : ℕ) (rounds : List RecordedRound) → IsPost post
    → from < length post.opening → from ≢ post.number → row_at post.kept from ≡ []
    → tape ≡ post.tape ++ Recv (packet_name from packet) ∷ []
    → ins ≡ with_item post.ins from (Message packet)
    → IsPost (record post { tape = tape; ins = ins; floor = floor; rounds = rounds })
next_keeps post from packet tape ins floor rounds h lt ne bare et ei =
    rw (et, ei) (post_step post _ _ _ _ floor rounds h (next_step post from packet h lt ne bare))

pub replay_keeps : (post : PostView) (from : ℕ) (packet : Packet) (rest : List Packet)
    (tape : List Event) (kept : List (List Packet)) (floor : ℕ) (rounds : List RecordedRound)
    → IsPost post → from < length post.opening → row_at post.kept from ≡ packet ∷ rest
    → tape ≡ post.tape ++ Recv (packet_name from packet) ∷ [] → kept ≡ without_first post.kept from
    → IsPost (record post { tape = tape; kept = kept; floor = floor; rounds = rounds })
replay_keeps post from packet rest tape kept floor rounds h lt first et ek = rw (et, ek)
    (post_step post _ _ _ _ floor rounds h (replay_step post from packet rest h lt first))

-- what was seen is next
module _ (rows : List (List Parcel)) (old looked new : List (Consumer Parcel Global AnyItems))
    (from : ℕ) (parcel : Parcel) where
  pub sees_taken : StillKnow rows old → from < length old → IsPrefix (known_at old from)
      (known_at looked from) → ((k : ℕ) → (k ≡ from → ⊥) → known_at looked k ≡ known_at old k)
      → known_at looked from ≡ parcel ∷ known_at new from → ((k : ℕ) → (k ≡ from → ⊥)
      → known_at new k ≡ known_at looked k) → in_ends new ≡ with_item (in_ends old) from parcel
      → (p : ℕ) → (popped : List Parcel) × (items_at (in_ends new) p ≡ items_at (in_ends old) p
      ++ popped) × IsPrefix (row_at rows p) (popped ++ row_at (known_rows new) p)
  sees_taken know lt here others first apart ends p =
      let long = length-map old consumer_end in
      let part = taken_still rows old looked new from parcel know here others first apart p in
      elim (cases_eq p from) [
        | inl same ↦ (
          parcel ∷ [],
          ap (λ t. items_at t p) ends ∙ items_same
              (in_ends old) from p parcel (omega (arith, lt, long)) same,
          part.0 same,
        )
        | inr ne ↦ (
          [],
          ap (λ t. items_at t p) ends ∙ (items_other (in_ends old) from p parcel ne ∙
              sym (append-nil (items_at (in_ends old) p))),
          part.1 ne,
        )
      ]

pub sees_more : (rows : List (List Parcel)) (old new : List (Consumer Parcel Global AnyItems))
    (from : ℕ) → StillKnow rows old → IsPrefix (known_at old from) (known_at new from)
    → ((k : ℕ) → (k ≡ from → ⊥) → known_at new k ≡ known_at old k) → in_ends new ≡ in_ends old
    → (p : ℕ) → (popped : List Parcel) × (items_at (in_ends new) p ≡ items_at (in_ends old) p
    ++ popped) × IsPrefix (row_at rows p) (popped ++ row_at (known_rows new) p)
sees_more rows old new from know here others ends p = (
  [],
  ap (λ t. items_at t p) ends ∙ sym (append-nil (items_at (in_ends old) p)),
  still_rows rows
      new (knows_more rows old new from know here others) p,
)

pub sees_self : (post : PostView) → StillSees post post
sees_self post p = ([], sym (append-nil (items_at post.ins p)), prefix_self (row_at post.seen p))
