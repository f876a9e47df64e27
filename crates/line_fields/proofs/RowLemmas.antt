-- What a read of a row does to the rows that a reader has left.
use Rattle.std.proofs.Common.{◌≡◌, ◌∙◌, ◌++◌, ◌∷◌, [], ℕ, List, Bool, true, false, cond, Option}
use Rattle.std.proofs.Common.{Some, None, Bor, refl, sym, ap, inl}
use Rattle.std.specs.Prelude.{IsSome, MatchBool, Result, Ok, Err, IfOk, OnOk}
use Rattle.csv.specs.Machine.{Read, step, is_end, fields_after, field_after, ends_at_end}
use Rattle.csv.specs.Machine.{next_record}
use Rattle.csv.specs.Reading.{default_config, source_of, Ready, Reached, ReadRecord, is_flexible}
use Rattle.csv.specs.Reading.{took_first, reader_trim}
use Rattle.csv.specs.declared.error.Error.{Error}
use Rattle.csv.specs.declared.reader.Reader.{Reader}
use Rattle.csv.specs.declared.reader.Trim.TheVariants as trim
use Rattle.csv.specs.declared.parser.State.{State}
use Rattle.csv.specs.declared.parser.State.TheVariants as st
use Rattle.csv.proofs.ReadFacts.{rows-end, rows-more}
use Rattle.line_fields.specs.Rows.{rows_from, rows_if_known, rows_left, IsReading}

-- the rows of what a read gives
unfoldable pub rows_then : Option Read → List (List (List ℕ))
rows_then None = []
rows_then (Some p) = p.0 ∷ rows_from p.1 [] [] p.2

-- the rows go with either side of a choice
cond_then : (b : Bool) (p : Read) (o : Option Read) (xs ys : List (List (List ℕ)))
    → xs ≡ rows_then (Some p) → ys ≡ rows_then o → cond b xs ys ≡ rows_then (cond b (Some p) o)
cond_then true p o xs ys e f = e
cond_then false p o xs ys e f = f

-- the rows from a state are the next read's record and those after it
pub rows_of_next : (s : State) (fields : List (List ℕ)) (field xs : List ℕ)
    → rows_from s fields field xs ≡ rows_then (next_record default_config s fields field xs)
unfolding rows_from next_record rows_then
rows_of_next s fields field [] =
    cond_then (ends_at_end s) (fields ++ (field ∷ []), st.StartRecord, []) None _ _ refl refl
rows_of_next s fields field (c ∷ rest) =
    cond_then (is_end (step default_config s c).1)
    (fields_after (step default_config s c).1 fields field, (step default_config s c).0, rest)
    (next_record default_config (step default_config s c).0 (fields_after (step default_config s
    c).1 fields field) (field_after (step default_config s c).1 c field) rest)
    _ _ refl (rows_of_next (step default_config s c).0 (fields_after (step default_config s c).1
    fields field) (field_after (step default_config s c).1 c field) rest)

some_from : {A : Type 0} (o : Option A) → IsSome o → (x : A) × (o ≡ Some x)
some_from None h = cc h
some_from (Some x) h = (x, refl)

-- a read that found a record
row_read : (a b : Reader (Bor (List ℕ))) (f : List (List ℕ)) → IsReading a → ReadRecord (λ
    (s : Bor (List ℕ)). Some s.now) a b true f → took_first b ≡ true → is_flexible b ≡ is_flexible a
    → IsReading b × (rows_left a ≡ f ∷ rows_left b)
unfolding Reached rows_then
row_read a b f h r first flexible =
    let rem : Bor (List ℕ) → Option (List ℕ) = λ s. Some s.now in
    let (y, at_y) = some_from (source_of rem a) h.known in
    let (z, at_z, (p, next, is_f, (is_state, is_rest))) = rows-more rem a b f default_config a.state
    y y [] h.config at_y (refl, refl) r in
    let new : IsReading b = record {
      ready = inl first;
      trim_none = r.3 ∙ h.trim_none;
      config = r.2 ∙ h.config;
      flexible = flexible ∙ h.flexible;
      known = rw at_z refl;
    } in
    let before : rows_left a ≡ p.0 ∷ rows_from p.1 [] [] p.2 = ap (rows_if_known a.state) at_y ∙
    (rows_of_next a.state [] [] y ∙ ap rows_then next) in
    let after : rows_left b ≡ rows_from b.state [] [] z = ap (rows_if_known b.state) at_z in
    let moved : rows_from p.1 [] [] p.2 ≡ rows_left b = ap (λ s. rows_from s [] [] p.2) is_state ∙
    (ap (λ w. rows_from b.state [] [] w) is_rest ∙ sym after) in
    (new, before ∙ (ap (λ h. h ∷ rows_from p.1 [] [] p.2) (sym is_f) ∙ ap (λ t. f ∷ t) moved))

-- a read at the end
row_end : (a b : Reader (Bor (List ℕ))) (f : List (List ℕ)) → IsReading a
    → ReadRecord (λ (s : Bor (List ℕ)). Some s.now) a b false f → rows_left a ≡ []
unfolding rows_then
row_end a b f h r =
    let rem : Bor (List ℕ) → Option (List ℕ) = λ s. Some s.now in
    let (y, at_y) = some_from (source_of rem a) h.known in
    ap (rows_if_known a.state) at_y ∙ (rows_of_next a.state [] [] y ∙ ap rows_then
    (rows-end rem a b f default_config y h.config at_y r))

-- what a call of `read_byte_record` says
pub reads : (a b : Reader (Bor (List ℕ))) (f : List (List ℕ)) (r : Result Bool Error) → IsReading a
    → IfOk r (λ found. (reader_trim a ≡ trim.None) → Ready a
    → ReadRecord (λ (s : Bor (List ℕ)). Some s.now) a b found f)
    → ((reader_trim a ≡ trim.None) → OnOk r (took_first b ≡ true))
    → OnOk r (is_flexible b ≡ is_flexible a)
    → IfOk r (λ found. MatchBool found (IsReading b × (rows_left a ≡ f ∷ rows_left b))
    (rows_left a ≡ []))
reads a b f (Ok true) h r first flexible =
    row_read a b f h (r h.trim_none h.ready) (first h.trim_none) flexible
reads a b f (Ok false) h r first flexible = row_end a b f h (r h.trim_none h.ready)
reads a b f (Err e) h r first flexible = tt
