-- Workers of a first generation that come back whole can be gathered.
use Rattle.std.proofs.Common.{◌≡◌, ◌∙◌, ℕ, zero, suc, List, length, get_or, replicate, refl, sym}
use Rattle.std.proofs.Common.{ap, arith}
use Rattle.std.specs.Prelude.{Bool, false}
use Rattle.std.proofs.lemmas.Bool.{false≢true}
use Rattle.std.proofs.lemmas.Option.{slice_get_within, slice_get-get_or}
use Rattle.line_names.specs.Sets.{is_member}
use Rattle.line_tape.specs.History.{fresh, incarnation_at}
use Rattle.line_posts.specs.Collected.{CollectorView}
use Rattle.line_posts.specs.Gathered.{AreBelow}
use Rattle.line_posts.specs.Generations.{AreSamePosts, AreWhole}
use Rattle.line_posts.specs.Posts.{PostView}

-- each process begins in its incarnation 0
pub incarnation_start : (n p : ℕ) → incarnation_at (replicate n fresh) p ≡ 0
incarnation_start zero p = refl
incarnation_start (suc n) zero = refl
incarnation_start (suc n) (suc p) = incarnation_start n p

-- nobody failed, so nobody of another number
pub none_below : (n : ℕ) (failed : List Bool) → ((q : ℕ) → is_member failed q ≡ false)
    → AreBelow n failed
none_below n failed none q is = absurd (false≢true (sym (none q) ∙ is))

-- they are one for each process of the collector still
pub whole_kept : (first last : CollectorView) (old new : List PostView)
    → last.opening ≡ first.opening → AreSamePosts old new → AreWhole first old → AreWhole last new
whole_kept first last old new opening s (long, order) = (
  s.count ∙ (long ∙ ap length (sym opening)),
  λ p b hb.
      let c = s.count in
      let w = slice_get_within new p b hb in
      let a = get_or old p b in
      let ha = slice_get-get_or old p b (omega (arith, w, c)) in
      let h = s.each p a b ha hb in
      let o = order p a ha in
      (h.number ∙ o.0, ap length h.opening ∙ (o.1 ∙ sym s.count)),
)
