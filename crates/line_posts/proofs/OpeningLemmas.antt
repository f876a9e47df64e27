-- What holds of a worker holds at the opening of a generation.
use Rattle.std.proofs.Common.{◌≡◌, ◌∙◌, ◌++◌, ◌∷◌, [], ℕ, zero, suc, List, length, map, drop, refl}
use Rattle.std.proofs.Common.{sym, ap, inr, arith, subst}
use Rattle.std.specs.Prelude.{All}
use Rattle.std.specs.List.{filter_map}
use Rattle.std.proofs.lemmas.List.{append-nil}
use Rattle.std.proofs.lemmas.Option.{slice_get_within}
use Rattle.line_tape.specs.Event.{NamesBelow, incarnations_sent}
use Rattle.line_tape.specs.Fit.{item_received, sent_between, received_from, link, IsFitFifo}
use Rattle.line_tape.specs.Fit.{AreDistinct, MarksFollow}
use Rattle.line_tape.specs.History.{tape_at}
use Rattle.line_tape.specs.Rounds.{rounds_checked}
use Rattle.line_posts.specs.Ends.{row_at}
use Rattle.line_posts.specs.Parcels.{items_of_packets, items_of_parcels, parcels_of, parcels_sent}
use Rattle.line_posts.specs.Posts.{IsPost, PostView}
use Rattle.line_posts.specs.Openings.{parcels_left, IsOpening}
use Rattle.line_posts.specs.declared.parcels.Packet.{Packet}
use Rattle.line_posts.specs.Parcels.{item_of, packet_name}
use Rattle.line_tape.specs.declared.items.Item.{Item}
use Rattle.line_tape.specs.declared.items.Item.TheVariants.{Message as item_message}
use Rattle.line_tape.specs.History.{Process}
use Rattle.line_posts.proofs.ParcelLemmas.{parcels_names}

-- packets as items, and as what a ring carries
packets_items : (p : ℕ) (packets : List Packet)
    → items_of_packets p packets ≡ items_of_parcels p (parcels_of packets)
packets_items p [] = refl
packets_items p (l ∷ ls) =
    ap (λ (t : List Item). item_message (packet_name p l) ∷ t) (packets_items p ls)

drop_map : {X Y : Type 0} (f : X → Y) (n : ℕ) (xs : List X) → map f (drop n xs) ≡ drop n (map f xs)
drop_map f zero xs = refl
drop_map f (suc n) [] = refl
drop_map f (suc n) (x ∷ xs) = drop_map f n xs

-- what a link holds, without the bodies
pub left_items : (history : List Process) (p q : ℕ)
    → items_of_parcels p (parcels_left history p q) ≡ link history p q
left_items history p q =
    drop_map (item_of p) (length (received_from history q p)) (parcels_sent q 0 (tape_at history p))
    ∙ ap (drop (length (received_from history q p))) (parcels_names p q 0 (tape_at history p))

-- what is kept are the items of the link
pub kept_items : (history : List Process) (p q : ℕ) (packets : List Packet)
    → parcels_of packets ≡ parcels_left history p q → items_of_packets p packets ≡ link history p q
kept_items history p q packets h =
    packets_items p packets ∙ (ap (items_of_parcels p) h ∙ left_items history p q)

pub opens : (post : PostView) → IsOpening post → IsFitFifo post.opening
    → All (NamesBelow (length post.opening)) (tape_at post.opening post.number) → IsPost post
opens post o fit named =
    let T = tape_at post.opening post.number in
    record {
      within = o.within;
      out_count = o.out_count;
      in_count = o.in_count;
      kept_count = o.kept_count;
      named = subst (All (NamesBelow (length post.opening))) (sym o.tape) named;
      reports = (
        [],
        sym (o.tape ∙ (sym (append-nil T) ∙
            (sym (append-nil (T ++ [])) ∙ ap (λ t. (T ++ t) ++ []) (sym o.line)))),
      );
      sends_are = λ q lt ne. ap (parcels_sent q 0) o.tape ∙ (sym
          (append-nil (parcels_sent q 0 T)) ∙ ap (λ t. parcels_sent q 0 T ++ t) (sym (o.outs q)));
      receipts_are = λ p.
          ap (λ t. filter_map (item_received p) t ++ items_of_packets p (row_at post.kept p)) o.tape
          ∙ (ap (λ t. received_from post.opening post.number p ++ t) (kept_items post.opening p
          post.number (row_at post.kept p) (o.kept p)) ∙ (fit.order p post.number
          ∙ (sym (append-nil (sent_between post.opening p post.number)) ∙ ap (λ t. sent_between
          post.opening p post.number ++ items_of_parcels p t) (sym (o.ins p)))));
      replays = λ p. inr (o.ins p);
      alone = o.ins post.number;
      present = λ k inc le held.
          let w = slice_get_within (incarnations_sent post.tape) k inc held in
          let e = ap (λ t. length (incarnations_sent t)) o.tape in
          absurd (omega (arith, w, e, le));
      rounds = subst (λ t. AreDistinct (rounds_checked t)) (sym o.tape) (fit.rounds post.number);
      marks = subst MarksFollow (sym o.tape) (fit.marks post.number);
    }
