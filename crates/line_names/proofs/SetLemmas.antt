-- Members of sets of processes.
use Rattle.std.proofs.Common.{◌≡◌, ℕ, zero, suc, false, replicate, refl}
use Rattle.line_names.specs.Sets.{is_member}

-- a set that has no process has none of them
pub is_member-replicate : (n q : ℕ) → is_member (replicate n false) q ≡ false
is_member-replicate zero q = refl
is_member-replicate (suc n) zero = refl
is_member-replicate (suc n) (suc q) = is_member-replicate n q
