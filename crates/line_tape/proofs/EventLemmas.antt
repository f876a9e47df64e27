-- What one event more leaves of the tapes of a history, and what its sends are called.
use Rattle.std.proofs.Common.{◌≡◌, ℕ, suc, ◌<◌, List, [], ◌∷◌, ◌++◌, length, refl, sym, ap, ◌∙◌}
use Rattle.std.proofs.Common.{subst, inl, inr, zero, replicate}
use Rattle.std.specs.List.{slice_get}
use Rattle.std.proofs.lemmas.Bool.{cases_eq}
use Rattle.line_names.specs.declared.messages.MsgName.{MsgName}
use Rattle.line_tape.specs.declared.events.Event.{Event}
use Rattle.line_tape.specs.declared.events.Event.TheVariants.{Send, Recv, Check, Mark}
use Rattle.line_tape.specs.Event.{incarnations_sent, incarnation_of, Holds}
use Rattle.line_tape.specs.Transit.{addressees}
use Rattle.std.proofs.lemmas.List.{append-nil, get_or-set_same, get_or-set_other}
use Rattle.std.proofs.lemmas.List.Elements.{filter_map-append}
use Rattle.line_tape.specs.History.{Process, tape_at, with_event, fresh}
use Rattle.line_tape.proofs.FrontLemmas.{slice_get-append_left}

abbrev pub name_of : ℕ → ℕ → ℕ → MsgName
name_of p inc k = record { from = p; inc = inc; number = k }

pub tape_same : (history : List Process) (at : ℕ) (e : Event) (p : ℕ) → at < length history → p ≡ at
    → tape_at (with_event history at e) p ≡ tape_at history p ++ e ∷ []
tape_same history at e p h same =
    subst (λ (v : ℕ). tape_at (with_event history at e) v ≡ tape_at history v ++ e ∷ []) (sym same)
    (ap (λ (v : Process). v.tape) (get_or-set_same history at _ _ h))

pub tape_other : (history : List Process) (at : ℕ) (e : Event) (p : ℕ) → (p ≡ at → ⊥)
    → tape_at (with_event history at e) p ≡ tape_at history p
tape_other history at e p other =
    ap (λ (v : Process). v.tape) (get_or-set_other history at p _ _ other)

-- each tape goes on
pub tape_grows : (history : List Process) (at : ℕ) (e : Event) (p : ℕ) → at < length history
    → (more : List Event) × (tape_at (with_event history at e) p ≡ tape_at history p ++ more)
tape_grows history at e p h = elim (cases_eq p at) [
  | inl same ↦ (e ∷ [], tape_same history at e p h same)
  | inr other ↦ ([], tape_other history at e p other ∙ sym (append-nil (tape_at history p)))
]

-- what a tape holds, a longer one holds
pub holds_more : (tape more : List Event) (inc k : ℕ) → Holds tape inc k
    → Holds (tape ++ more) inc k
holds_more tape more inc k held =
    ap (λ (v : List ℕ). slice_get v k) (filter_map-append incarnation_of tape more) ∙
    slice_get-append_left (incarnations_sent tape) (incarnations_sent more) k inc held

-- before anything is done all tapes are empty
pub tape_start : (n p : ℕ) → tape_at (replicate n fresh) p ≡ []
tape_start zero p = refl
tape_start (suc n) zero = refl
tape_start (suc n) (suc p) = tape_start n p

-- each send has one incarnation and one addressee
pub length_addressees : (es : List Event) → length (addressees es) ≡ length (incarnations_sent es)
length_addressees [] = refl
length_addressees (Send to inc body ∷ es) = ap suc (length_addressees es)
length_addressees (Recv m ∷ es) = length_addressees es
length_addressees (Check state round ∷ es) = length_addressees es
length_addressees (Mark from round ∷ es) = length_addressees es
