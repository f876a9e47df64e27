-- A saved machine is written part by part.
use Rattle.std.proofs.Common.{◌≡◌, ◌<◌, ◌≤◌, ℕ, ◌+◌, List, [], ◌∷◌, ◌++◌, append_assoc, drop}
use Rattle.std.proofs.Common.{get_or, length, sym, ap, ◌∙◌}
use Rattle.std.specs.Prelude.{codes, decimal, map}
use Rattle.std.specs.List.{flat_map, join_with_byte}
use Rattle.std.proofs.lemmas.List.{drop_all, drop_more}
use Rattle.line_fields.proofs.OutletLemmas.{join_more}
use Rattle.line_fields.specs.Texts.{record_text}
use Rattle.line_claims.specs.Saved.{saved_round_record}

-- a comma and each check behind the first i, and the end of the record
abbrev pub checks_behind : List ℕ → ℕ → List ℕ
checks_behind checks i = flat_map (λ check. 44 ∷ decimal check) (drop i checks) ++ 10 ∷ []

-- its name and its number stand before them
pub before_checks : (number : ℕ) (checks : List ℕ) → record_text (saved_round_record number checks)
    ≡ join_with_byte 44 (codes "round" ∷ map decimal (number ∷ [])) ++ checks_behind checks 0
before_checks number checks =
    let front : List ℕ = 44 ∷ decimal number in
    let behind : List ℕ = flat_map (λ check. 44 ∷ decimal check) checks in
    ap (λ (t : List ℕ). (codes "round" ++ 44 ∷ t) ++ 10 ∷ [])
    (join_more decimal (decimal number) checks)
    ∙ ap (λ (t : List ℕ). t ++ 10 ∷ []) (sym (append_assoc (codes "round") front behind))
    ∙ append_assoc (codes "round" ++ front) behind (10 ∷ [])

pub next_check_behind : (checks : List ℕ) (i default : ℕ) → i < length checks → checks_behind checks
    i ≡ (44 ∷ decimal (get_or checks i default)) ++ checks_behind checks (i + 1)
next_check_behind checks i default lt =
    ap (λ (rest : List ℕ). flat_map (λ check. 44 ∷ decimal check) rest ++ 10 ∷ [])
    (drop_more checks i default lt)
    ∙ append_assoc (44 ∷ decimal (get_or checks i default))
    (flat_map (λ check. 44 ∷ decimal check) (drop (i + 1) checks)) (10 ∷ [])

pub no_check_behind : (checks : List ℕ) (i : ℕ) → length checks ≤ i
    → checks_behind checks i ≡ 10 ∷ []
no_check_behind checks i le = ap (λ (rest : List ℕ). flat_map (λ check. 44 ∷ decimal check) rest
    ++ 10 ∷ []) (drop_all i checks le)
