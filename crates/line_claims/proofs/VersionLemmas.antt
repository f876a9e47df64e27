-- How many processes a text of a version may have.
use Rattle.std.proofs.Common.{cond, ◌≡◌, ◌≤◌, ℕ, ◌==◌, Bool, true, false, refl, arith}
use Rattle.std.specs.Prelude.{nat_le}
use Rattle.std.proofs.lemmas.Bool.{leb-true}
use Rattle.line_names.specs.declared.limits.TheConstants.{MOST_PROCESSES}
use Rattle.line_claims.specs.declared.versions.TheConstants.{MOST_IN_FIRST_VERSION}
use Rattle.line_claims.specs.Versions.{IsCheckVersion, IsVersion, earliest_version, floors_in}
use Rattle.line_claims.specs.Versions.{most_in, starts_in}

-- never more than there may be
pub most_in_few : (version : ℕ) → most_in version ≤ MOST_PROCESSES
unfolding most_in
most_in_few version = elim (version == 1) as
    (λ (b : Bool). cond b MOST_IN_FIRST_VERSION MOST_PROCESSES ≤ MOST_PROCESSES) [
      | true ↦ omega arith
      | false ↦ omega arith
    ]

pub earliest_is_known : (n : ℕ) → IsVersion (earliest_version n)
unfolding earliest_version
earliest_is_known n =
    elim (nat_le n MOST_IN_FIRST_VERSION) as (λ (b : Bool). IsVersion (cond b 1 2)) [
      | true ↦ (omega arith, omega arith)
      | false ↦ (omega arith, omega arith)
    ]

-- and a version of check texts
pub earliest_is_checked : (n : ℕ) → IsCheckVersion (earliest_version n)
unfolding earliest_version
earliest_is_checked n =
    elim (nat_le n MOST_IN_FIRST_VERSION) as (λ (b : Bool). IsCheckVersion (cond b 1 2)) [
      | true ↦ (omega arith, omega arith)
      | false ↦ (omega arith, omega arith)
    ]

-- and one that tells of nothing that was let go
pub earliest_is_early : (n : ℕ) → nat_le 4 (earliest_version n) ≡ false
unfolding earliest_version
earliest_is_early n = elim (nat_le n MOST_IN_FIRST_VERSION) as
    (λ (b : Bool). nat_le 4 (cond b 1 2) ≡ false) [ true ↦ refl | false ↦ refl ]

-- the earliest version has room for so many processes
pub earliest_has_room : (n : ℕ) → n ≤ MOST_PROCESSES → n ≤ most_in (earliest_version n)
unfolding earliest_version most_in
earliest_has_room n few = elim (nat_le n MOST_IN_FIRST_VERSION) as
    (λ (b : Bool). nat_le n MOST_IN_FIRST_VERSION ≡ b → n ≤ most_in (cond b 1 2)) [
      | true ↦ λ is. leb-true n MOST_IN_FIRST_VERSION is
      | false ↦ λ is. few
    ] refl

-- so has the version of a text that may need version 2 for something else
pub version_is_known : (b : Bool) (n : ℕ) → IsCheckVersion (cond b 2 (earliest_version n))
version_is_known true n = (omega arith, omega arith)
version_is_known false n = earliest_is_checked n

pub version_has_room : (b : Bool) (n : ℕ) → n ≤ MOST_PROCESSES
    → n ≤ most_in (cond b 2 (earliest_version n))
unfolding most_in
version_has_room true n few = few
version_has_room false n few = earliest_has_room n few

-- what version 1 has room for, version 2 has room for
pub more_room : most_in 1 ≤ most_in 2
unfolding most_in
more_room = omega arith

pub most_in_later : (n : ℕ) → n ≤ most_in 1 → n ≤ most_in 2
most_in_later n few = omega (arith, few, more_room)

-- a claim says of no more processes than there are where they go on
pub starts_few : (version n : ℕ) → starts_in version n ≤ n
starts_few version n = elim (nat_le 3 version) as
    (λ (b : Bool). cond b n 0 ≤ n) [ true ↦ omega arith | false ↦ omega arith ]

-- a history tells of no more processes than there are what was let go of them
pub floors_few : (version n : ℕ) → floors_in version n ≤ n
floors_few version n = elim (nat_le 4 version) as
    (λ (b : Bool). cond b n 0 ≤ n) [ true ↦ omega arith | false ↦ omega arith ]
