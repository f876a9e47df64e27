-- What events put on rings, bodies included.
use Rattle.std.proofs.Common.{◌≡◌, ◌∙◌, ◌+◌, ◌++◌, ◌∷◌, [], ℕ, suc, true, false, cond, List, Some}
use Rattle.std.proofs.Common.{None, length, refl, ap, arith}
use Rattle.std.specs.Prelude.{◌==◌}
use Rattle.line_tape.specs.declared.events.Event.{Event}
use Rattle.line_tape.specs.declared.events.Event.TheVariants.{Send, Recv, Check, Mark}
use Rattle.line_tape.specs.declared.items.Item.{Item}
use Rattle.line_tape.specs.declared.items.Item.TheVariants.{Message as item_message}
use Rattle.line_tape.specs.declared.items.Item.TheVariants.{Marker as item_marker}
use Rattle.line_tape.specs.Event.{incarnations_sent}
use Rattle.line_tape.specs.Fit.{items_sent}
use Rattle.line_names.specs.declared.messages.MsgName.{MsgName}
use Rattle.line_posts.specs.declared.parcels.Parcel.{Parcel}
use Rattle.line_posts.specs.declared.parcels.Parcel.TheVariants.{Message, Marker}
use Rattle.line_posts.specs.Parcels.{items_of_parcels, parcels_sent}

abbrev named : ℕ → ℕ → ℕ → MsgName
named p inc k = record { from = p; inc = inc; number = k }

pub parcels_append : (q k : ℕ) (es fs : List Event) → parcels_sent q k (es ++ fs)
    ≡ parcels_sent q k es ++ parcels_sent q (k + length (incarnations_sent es)) fs
parcels_append q k [] fs = ap (λ n. parcels_sent q n fs) (omega arith)
parcels_append q k (Send to inc body ∷ es) fs =
    let ih = parcels_append q (suc k) es fs ∙ ap
    (λ n. parcels_sent q (suc k) es ++ parcels_sent q n fs) (omega arith) in
    elim (to == q) as
    (λ b. cond b
    (Message (record { inc = inc; number = k; body = body })
    ∷ parcels_sent q (suc k) (es ++ fs)) (parcels_sent q (suc k) (es ++ fs))
    ≡ cond b (Message (record { inc = inc; number = k; body = body })
    ∷ parcels_sent q (suc k) es) (parcels_sent q (suc k) es)
    ++ parcels_sent q (k + suc (length (incarnations_sent es))) fs) [
      | true ↦ ap (λ (xs : List
          Parcel). Message (record { inc = inc; number = k; body = body }) ∷ xs) ih
      | false ↦ ih
    ]
parcels_append q k (Recv m ∷ es) fs = parcels_append q k es fs
parcels_append q k (Check st None ∷ es) fs = parcels_append q k es fs
parcels_append q k (Check st (Some s) ∷ es) fs =
    ap (λ (xs : List Parcel). Marker s ∷ xs) (parcels_append q k es fs)
parcels_append q k (Mark from s ∷ es) fs = parcels_append q k es fs

-- without the bodies it is what links carry
pub parcels_names : (p q k : ℕ) (es : List Event)
    → items_of_parcels p (parcels_sent q k es) ≡ items_sent p q k es
parcels_names p q k [] = refl
parcels_names p q k (Send to inc body ∷ es) =
    elim (to == q) as
    (λ b. items_of_parcels p
    (cond b (Message (record { inc = inc; number = k; body = body })
    ∷ parcels_sent q (suc k) es) (parcels_sent q (suc k) es)) ≡ cond b
    (item_message (named p inc k) ∷ items_sent p q (suc k) es) (items_sent p q (suc k) es)) [
      | true ↦ ap (λ (xs : List Item). item_message (named p inc k) ∷ xs)
          (parcels_names p q (suc k) es)
      | false ↦ parcels_names p q (suc k) es
    ]
parcels_names p q k (Recv m ∷ es) = parcels_names p q k es
parcels_names p q k (Check st None ∷ es) = parcels_names p q k es
parcels_names p q k (Check st (Some s) ∷ es) =
    ap (λ (xs : List Item). item_marker s ∷ xs) (parcels_names p q k es)
parcels_names p q k (Mark from s ∷ es) = parcels_names p q k es
