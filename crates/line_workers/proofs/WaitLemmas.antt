-- Orders that wait: the worker is as it was, but that it may have seen more.
use Rattle.std.proofs.Common.{◌≡◌, [], ℕ, List, refl, sym, inl, inr, subst}
use Rattle.std.specs.Prelude.{Bool, true, false, Result, Ok, Err, IfErr}
use Rattle.line_posts.specs.declared.parcels.Parcel.{Parcel}
use Rattle.line_posts.specs.Posts.{PostView}
use Rattle.line_posts.specs.Receipts.{HasMarked, HasOnlySeen}
use Rattle.line_posts.specs.Refusals.{MayReceive}
use Rattle.line_workers.specs.declared.orders.Order.{Order}
use Rattle.line_workers.specs.declared.orders.Order.TheVariants.{Send, Receive, Check}
use Rattle.line_workers.specs.declared.refusals.DrillWhy.{DrillWhy}
use Rattle.line_workers.specs.declared.refusals.DrillWhy.TheVariants.{OutOfMemory, NoSuchProcess}
use Rattle.line_workers.specs.declared.refusals.DrillWhy.TheVariants.{TapeFull, StateTooLong}
use Rattle.line_workers.specs.declared.refusals.DrillWhy.TheVariants.{BadCount, ToSelf, WrongMode}
use Rattle.line_workers.specs.declared.refusals.DrillWhy.TheVariants.{HeldOut, WaitedOut}
use Rattle.line_workers.specs.declared.refusals.DrillWhy.TheVariants.{BadCapacity, NoThread}
use Rattle.line_workers.specs.Faults.{HasMetMarker, HasToWait, IsCause}

-- as it was, with this seen
abbrev seeing : PostView → List (List Parcel) → PostView
seeing a seen = record a { seen = seen }

-- a worker that is as it was
pub seen_same : (a b : PostView) → b ≡ a → HasOnlySeen a b
seen_same a b e = subst (HasOnlySeen a) (sym e) refl

marked_seeing : (a c : PostView) (seen : List (List Parcel)) (from round : ℕ) (forced : Bool)
    → HasMarked (seeing a seen) from [] round forced c → HasMarked a from [] round forced c
marked_seeing a c seen from round true h =
    record { bare = h.bare; forced_is = h.forced_is; new_is = h.new_is }
marked_seeing a c seen from round false h =
    record { bare = h.bare; forced_is = h.forced_is; new_is = h.new_is }

may_seeing : (a : PostView) (seen : List (List Parcel)) (from : ℕ)
    → MayReceive (seeing a seen) from [] → MayReceive a from []
may_seeing a seen from h = record { process = h.process; other = h.other; short = h.short }

met_seeing : (a c : PostView) (seen : List (List Parcel)) (from : ℕ)
    → HasMetMarker (seeing a seen) from c → HasMetMarker a from c
met_seeing a c seen from (may, round, inl (forced, h)) =
    (may_seeing a seen from may, round, inl (forced, marked_seeing a c seen from round forced h))
met_seeing a c seen from (may, round, inr h) = (may_seeing a seen from may, round, inr h)

wait_seeing : (a c : PostView) (seen : List (List Parcel)) (order : Order)
    → HasToWait (seeing a seen) order c → HasToWait a order c
wait_seeing a c seen (Send to body) (may, full) =
    (record { process = may.process; other = may.other; few = may.few }, full)
wait_seeing a c seen (Receive from) (inl (may, kept, none)) =
    inl (may_seeing a seen from may, kept, none)
wait_seeing a c seen (Receive from) (inr (may, kept, round, comes, check, few, full)) =
    inr (may_seeing a seen from may, kept, round, comes, check, few, full)
wait_seeing a c seen (Check state) h = absurd h

cause_seeing : (a c : PostView) (seen : List (List Parcel)) (order : Order) (why : DrillWhy)
    → IsCause (seeing a seen) order c why → IsCause a order c why
cause_seeing a c seen order OutOfMemory h = h
cause_seeing a c seen order NoSuchProcess h = h
cause_seeing a c seen order TapeFull h = h
cause_seeing a c seen order StateTooLong h = h
cause_seeing a c seen order BadCount h = h
cause_seeing a c seen order ToSelf h = h
cause_seeing a c seen order WrongMode (from, is, h) = (from, is, met_seeing a c seen from h)
cause_seeing a c seen order HeldOut h = h
cause_seeing a c seen order WaitedOut (only, h) = (only, wait_seeing a c seen order h)
cause_seeing a c seen order BadCapacity h = h
cause_seeing a c seen order NoThread h = h

-- and so it is with a fault
pub cause_from : (order : Order) (why : DrillWhy) (a b c : PostView) → HasOnlySeen a b
    → IsCause b order c why → IsCause a order c why
cause_from order why a b c h k =
    cause_seeing a c b.seen order why (subst (λ (v : PostView). IsCause v order c why) h k)

pub cause_later : {T : Type 0} (r : Result T DrillWhy) (order : Order) (a b c : PostView)
    → HasOnlySeen a b → IfErr r (λ why. IsCause b order c why)
    → IfErr r (λ why. IsCause a order c why)
cause_later (Ok x) order a b c h k = tt
cause_later (Err why) order a b c h k = cause_from order why a b c h k
