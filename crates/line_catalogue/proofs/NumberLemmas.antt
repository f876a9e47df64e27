-- Rows of numbers: those of more messages stand in them.
use Rattle.std.proofs.Common.{◌≡◌, ℕ, ◌<◌, List, [], ◌∷◌, ◌++◌, length, get_or, set, sym, ap, ◌∙◌}
use Rattle.std.proofs.Common.{subst, arith, inl, inr}
use Rattle.std.specs.List.{Contains}
use Rattle.std.proofs.lemmas.Bool.{cases_eq}
use Rattle.std.proofs.lemmas.List.{length-set, get_or-set_same, get_or-set_other, get_or_default}
use Rattle.std.proofs.lemmas.List.Elements.{Contains-append_left, Contains-push}
use Rattle.std.proofs.lemmas.List.Elements.{Contains-push_cases}
use Rattle.line_names.specs.declared.messages.MsgName.{MsgName}
use Rattle.line_tape.proofs.CutLemmas.{contains_nothing}
use Rattle.line_catalogue.specs.Left.{numbers_at, AreIn}

pub in-none : (ends : List ℕ) (rows : List (List ℕ)) → AreIn [] ends rows
in-none ends rows = λ m c low l. absurd (contains_nothing m c)

pub in-left : (xs ys : List MsgName) (ends : List ℕ) (rows : List (List ℕ))
    → AreIn (xs ++ ys) ends rows → AreIn xs ends rows
in-left xs ys ends rows h = λ m c low l. h m (Contains-append_left xs ys m c) low l

-- a message more, whose number goes to the row of its sender
pub in-add : (names : List MsgName) (m : MsgName) (ends : List ℕ) (rows : List (List ℕ))
    (row : List ℕ) → row ≡ get_or rows m.from row → m.from < length rows → AreIn names ends rows
    → AreIn (names ++ m ∷ []) ends (set rows m.from (row ++ m.number ∷ []))
in-add names m ends rows row is inside h = λ x c low l.
    let new : List (List ℕ) = set rows m.from (row ++ m.number ∷ []) in
    let there : x.from < length rows = omega
    (arith, l, length-set rows m.from (row ++ m.number ∷ [])) in
    let written : numbers_at new m.from
    ≡ row ++ m.number ∷ [] = get_or-set_same rows m.from (row ++ m.number ∷ []) [] inside in
    elim (cases_eq x.from m.from) [
      | inl same ↦
          let old : numbers_at rows x.from ≡ row = ap
          (numbers_at rows) same ∙ get_or_default rows m.from [] row inside ∙ sym is in
          let at : numbers_at new x.from
          ≡ row ++ m.number ∷ [] = ap (numbers_at new) same ∙ written in
          subst (λ (r : List ℕ). Contains r x.number) (sym at)
          (elim (Contains-push_cases names m x c) [
            | inl earlier ↦ Contains-append_left row (m.number ∷ []) x.number
                (subst (λ (r : List ℕ). Contains r x.number) old (h x earlier low there))
            | inr e ↦ subst (λ (k : ℕ). Contains (row ++ m.number ∷ []) k)
                (ap (λ (v : MsgName). v.number) e) (Contains-push row m.number)
          ])
      | inr apart ↦
          let kept : numbers_at new x.from ≡ numbers_at rows x.from = get_or-set_other rows m.from
          x.from (row ++ m.number ∷ []) [] apart in
          elim (Contains-push_cases names m x c) [
            | inl earlier ↦ subst (λ (r : List ℕ). Contains r x.number) (sym kept)
                (h x earlier low there)
            | inr e ↦ absurd (apart (sym (ap (λ (v : MsgName). v.from) e)))
          ]
    ]
