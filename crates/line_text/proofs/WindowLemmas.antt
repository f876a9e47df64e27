-- A text that is read through a window, a chunk further.
use Rattle.std.proofs.Common.{inl, inr, ◌≡◌, ◌≢◌, ◌<◌, ◌≤◌, ℕ, ◌+◌, ◌-◌, List, [], ◌∷◌, ◌++◌}
use Rattle.std.proofs.Common.{append_assoc, drop, false, get_or, length, take, refl, sym, subst, ap}
use Rattle.std.proofs.Common.{◌∙◌, arith, length-append, ne_eqb}
use Rattle.std.specs.Prelude.{◌⊎◌, Err, IfErr, IfOk, IfSome, None, Ok, OnOk, Option, Result, Some}
use Rattle.std.specs.Result.{is_err}
use Rattle.std.proofs.lemmas.Bool.{eqb-true}
use Rattle.std.proofs.Math.Seq.{take-append-add}
use Rattle.std.proofs.lemmas.List.{append-nil, get_or-drop, get_or-take, length-drop}
use Rattle.std.proofs.lemmas.List.{length-take-le, take-append-drop, take-append-le, take_more}
use Rattle.memchr.specs.Find.{IsLastByte, is_byte}
use Rattle.line_fields.specs.Records.{EndsLine}
use Rattle.line_claims.specs.declared.faults.TextFault.{TextFault}
use Rattle.line_claims.specs.Reads.{IsOfText, Reads, no_memory}
use Rattle.line_devices.specs.Devices.{Fills, IsDone, ends_after, one_more}
use Rattle.line_devices.specs.Reads.{GivesAll, IsTooLong}
use Rattle.line_devices.proofs.PutLemmas.{all_read, all_told, fills_both}
use Rattle.line_claims.specs.declared.texts.CheckText as made
use Rattle.line_claims.specs.Readings.{CheckPlace, EndsBefore, text_left}
use Rattle.line_claims.specs.Texts.{check_of_text, check_view}
use Rattle.line_claims.proofs.FaultLemmas.{check_text_faults, reads_codes}
use Rattle.line_scripts.specs.declared.scripts.KeptScript as kept
use Rattle.line_scripts.specs.Pieces.{ScriptPlace, script_text_left}
use Rattle.line_scripts.specs.Reads.{kept_script_view}
use Rattle.line_scripts.specs.RunScripts.{run_script_of_text}
use Rattle.line_text.proofs.RunLemmas.{fault_of_text}
use Rattle.line_text.specs.declared.ends.TheConstants.{READ_FAULT}
use Rattle.line_text.specs.Inputs.{HasCome, HasTakenCheck, HasTakenScript, HasHeard, HearsEnd}
use Rattle.line_text.specs.Inputs.{IsReadTo}

-- the last line feed, as `memrchr` finds it
pub feed_found : (bytes : List ℕ) (at : Option ℕ) → IsLastByte (is_byte 10) bytes at
    → IfSome at (λ k. (k < length bytes) × (get_or bytes k 0 ≡ 10))
feed_found bytes None h = tt
feed_found bytes (Some k) h = (h.0.high, eqb-true _ 10 h.1)

-- bytes that have come wait
pub held_on : (text held later bytes : List ℕ) (HasTaken : List ℕ → Type 0) → later ≡ held ++ bytes
    → IsReadTo text held HasTaken → IsReadTo (text ++ bytes) later HasTaken
held_on text held later bytes HasTaken is h = record {
  lines = h.lines;
  ends = h.ends;
  parts = ap (λ (t : List ℕ). t ++ bytes) h.parts ∙ append_assoc h.lines held bytes ∙ ap
      (λ (t : List ℕ). h.lines ++ t) (sym is);
  taken = h.taken;
}

-- ---- bytes that were filled behind those that wait

pub filled_behind : (n count : ℕ) (old new into : List ℕ) → n ≤ length old
    → new ≡ take n old ++ into → take (n + count) new ≡ take n old ++ take count into
filled_behind n count old new into le is =
    let long : length (take n old) ≡ n = length-take-le n old le in
    ap (take (n + count)) is ∙ ap (λ (k : ℕ). take (k + count) (take n old ++ into))
    (sym long) ∙ take-append-add (take n old) into count

pub front_of : (n : ℕ) (xs ys zs : List ℕ) → n ≤ length xs → take n ((xs ++ ys) ++ zs) ≡ take n xs
front_of n xs ys zs le = take-append-le n (xs ++ ys) zs
    (omega (arith, le, length-append xs ys)) ∙ take-append-le n xs ys le

-- the bytes up to a line feed among those that came last
pub up_to_feed : (room : List ℕ) (begin held at : ℕ) → begin ≤ held → held ≤ length room
    → at < length (take (held - begin) (drop begin room))
    → get_or (take (held - begin) (drop begin room)) at 0 ≡ 10
    → (front : List ℕ) × (take (begin + at + 1) (take held room) ≡ front ++ 10 ∷ [])
up_to_feed room begin held at first within lt feed =
    let long : length (take (held - begin) (drop begin room)) ≡ held - begin = length-take-le
    (held - begin) (drop begin room) (omega (arith, within, length-drop begin room)) in
    let near : at < held - begin = omega (arith, lt, long) in
    let there : begin + at < length (take held room) = omega
    (arith, near, length-take-le held room within) in
    let is : get_or (take held room) (begin + at) 0 ≡ 10 =
    get_or-take held room (begin + at) 0 (omega (arith, near)) ∙ sym (get_or-drop begin room at 0) ∙
    sym (get_or-take (held - begin) (drop begin room) at 0 near) ∙ feed in (
      take (begin + at) (take held room),
      take_more (take held room) (begin + at) 0 there ∙ ap
          (λ (c : ℕ). take (begin + at) (take held room) ++ c ∷ []) is,
    )

-- lines up to a line feed were taken, and what stands behind it waits
pub lines_taken : (text held later : List ℕ) (end : ℕ) (Before After : List ℕ → Type 0)
    → (front : List ℕ) × (take end held ≡ front ++ 10 ∷ [])
    → ((front : List ℕ) → EndsLine front → Before front → After (front ++ take end held))
    → later ≡ drop end held → IsReadTo text held Before → IsReadTo text later After
lines_taken text held later end Before After (front, feed) taken rest h = record {
  lines = h.lines ++ take end held;
  ends = inr (
    h.lines ++ front,
    ap (λ (t : List ℕ). h.lines ++ t) feed ∙ sym
        (append_assoc h.lines front (10 ∷ [])),
  );
  parts =
      h.parts ∙ ap (λ (t : List ℕ). h.lines ++ t)
      (sym (take-append-drop end held) ∙ ap (λ (t : List ℕ). take end held ++ t) (sym rest))
      ∙ sym (append_assoc h.lines (take end held) later);
  taken = taken h.lines h.ends h.taken;
}

-- ---- a source

-- nothing has come of it
pub none_come : (left : Option (List ℕ)) (held : List ℕ) (HasTaken : List ℕ → Type 0) → HasTaken []
    → held ≡ [] → HasCome left left 0 held HasTaken
none_come None held HasTaken is none = record {
  text = [];
  moved = tt;
  counted = refl;
  read = record
      { lines = []; ends = inl refl; parts = sym none; taken = is };
}
none_come (Some xs) held HasTaken is none = record {
  text = [];
  moved = refl;
  counted = refl;
  read =
      record { lines = []; ends = inl refl; parts = sym none; taken = is };
}

-- more has come
pub more_come : (old now new : Option (List ℕ)) (long count : ℕ) (held heard later : List ℕ)
    (Before After : List ℕ → Type 0)
    → ((text : List ℕ) → IsReadTo text heard Before → IsReadTo text later After)
    → HasHeard count held heard now new → HasCome old now long held Before
    → HasCome old new (long + count) later After
more_come old now new long count held heard later Before After read hears h = record {
  text = h.text ++ hears.bytes;
  moved = fills_both old now new h.text hears.bytes h.moved hears.moved;
  counted = omega (arith, length-append h.text hears.bytes, h.counted, hears.long);
  read = read (h.text ++ hears.bytes)
      (held_on h.text held heard hears.bytes Before hears.behind h.read);
}

length_zero : (bytes : List ℕ) → length bytes ≡ 0 → bytes ≡ []
length_zero [] none = refl
length_zero (c ∷ bytes) none = absurd (omega (arith, none))

-- nothing is left: what has come is the whole text
pub all_come : (old now new : Option (List ℕ)) (given later long count : ℕ) (held heard : List ℕ)
    (Before After : List ℕ → Type 0) → long ≤ 67108864 → later ≡ given + count + long → count ≡ 0
    → HasHeard count held heard now new → IsDone now → ((front : List ℕ) → EndsLine front
    → Before front → After (front ++ heard)) → HasCome old now long held Before
    → (text : List ℕ) × GivesAll text old new given later × After text
all_come old now new given later long count held heard Before After few sum none hears done taken h
    =
    let nothing : hears.bytes ≡ [] = length_zero hears.bytes (hears.long ∙ none) in
    let read : IsReadTo (h.text ++ hears.bytes) heard Before = held_on h.text held heard hears.bytes
    Before hears.behind h.read in
    let same : h.text ++ hears.bytes
    ≡ h.text = ap (λ (t : List ℕ). h.text ++ t) nothing ∙ append-nil h.text in
    let whole : GivesAll h.text old new given later = record {
      few = omega (arith, few, h.counted);
      counted = omega (arith, sum, none, h.counted);
      told = λ xs told. (
        all_told old now h.text xs told h.moved done,
        all_read old now new h.text 0 [] xs told h.moved refl
            (subst (λ (t : List ℕ). Fills now new t) nothing hears.moved) done,
      );
    } in (
      h.text,
      whole,
      subst After (sym (sym same ∙ read.parts))
          (taken read.lines read.ends read.taken),
    )

-- so it is where the last line was taken
pub whole_if_ok : (result : Result (Unit {0}) TextFault) (old now new : Option (List ℕ)) (given
    later long count : ℕ) (held heard : List ℕ) (Before After : List ℕ → Type 0) → long ≤ 67108864
    → later ≡ given + count + long → count ≡ 0 → HasHeard count held heard now new → IsDone now
    → OnOk result ((front : List ℕ) → EndsLine front → Before front → After (front ++ heard))
    → HasCome old now long held Before
    → OnOk result ((text : List ℕ) × GivesAll text old new given later × After text)
whole_if_ok (Err fault) old now new given later long count held heard Before After few sum none
    hears done taken h =
    tt
whole_if_ok (Ok u) old now new given later long count held heard Before After few sum none hears
    done taken h =
    all_come old now new given later long count held heard Before After few sum none hears done
    taken h

-- ---- why it was not

codes_differ : (fault : TextFault) → fault ≡ no_memory → fault.code ≡ READ_FAULT → ⊥
codes_differ fault none code =
    let zero : fault.code ≡ 0 = ap (λ (f : TextFault). f.code) none in
    let read : fault.code ≡ 36 = code in
    omega (arith, zero, read)

pub codes_if_err : (result : Result (Unit {0}) TextFault)
    → IfErr result (λ fault. fault ≡ no_memory) → IfErr result
    (λ fault. (fault ≡ no_memory) ⊎ (fault ≡ record { record_number = 0; code = READ_FAULT }))
codes_if_err (Ok u) h = tt
codes_if_err (Err fault) h = inl h

pub failed_if_err : (result : Result (Unit {0}) TextFault) (P : Type 0) → IfErr result
    (λ fault. fault ≡ no_memory) → IfErr result (λ fault. fault.code ≡ READ_FAULT → P)
failed_if_err (Ok u) P h = tt
failed_if_err (Err fault) P h = λ code. absurd (codes_differ fault h code)

pub told_if_err : (result : Result (Unit {0}) TextFault) (P : Type 0) → P
    → IfErr result (λ fault. fault.code ≢ READ_FAULT → P)
told_if_err (Ok u) P p = tt
told_if_err (Err fault) P p = λ other. p

pub on_any_ok : {A E : Type 0} (result : Result A E) (P : Type 0) → P → OnOk result P
on_any_ok (Ok x) P p = p
on_any_ok (Err e) P p = tt

pub ok_part : {A E : Type 0} (result : Result A E) (P : Type 0) → is_err result ≡ false
    → OnOk result P → P
ok_part (Ok x) P is p = p
ok_part (Err e) P is p = cc is

-- the source said once that nothing is left
pub ends_once : (result : Result (Unit {0}) TextFault) (before now later count : ℕ)
    → IfErr result (λ fault. fault ≡ no_memory) → count ≡ 0 → later ≡ ends_after count now
    → now ≡ before → HearsEnd result before later
ends_once (Ok u) before now later count h none is same =
    is ∙ ap (λ (n : ℕ). ends_after n now) none ∙ ap one_more same
ends_once (Err fault) before now later count h none is same = (
  λ code. absurd (codes_differ fault h code),
  λ other. inl
      (is ∙ ap (λ (n : ℕ). ends_after n now) none ∙ ap one_more same),
)

-- it did not, where bytes came
pub ends_not : (before now later count : ℕ) → (count ≡ 0 → ⊥) → later ≡ ends_after count now
    → now ≡ before → later ≡ before
ends_not before now later count some is same =
    let stay : ends_after count now ≡ now = rw (ne_eqb count 0 some) refl in is ∙ stay ∙ same

-- ---- the script of a text that was read whole

pub spelt_if_ok : (result : Result kept.KeptScript TextFault) (old new : Option (List ℕ))
    (given later : ℕ) (place : ScriptPlace)
    → (text : List ℕ) × GivesAll text old new given later × HasTakenScript place text
    → Reads kept_script_view result (script_text_left place [])
    → IfOk result (λ script. (text : List ℕ) × GivesAll text old new given later
    × (run_script_of_text text ≡ Ok (kept_script_view script)))
spelt_if_ok (Err fault) old new given later place whole reads = tt
spelt_if_ok (Ok script) old new given later place (text, gives, taken) reads =
    (text, gives, ap run_script_of_text (sym (append-nil text)) ∙ taken [] (inl refl) ∙ reads)

pub fault_if_err : (result : Result kept.KeptScript TextFault) (old new : Option (List ℕ))
    (given later : ℕ) (place : ScriptPlace)
    → (text : List ℕ) × GivesAll text old new given later × HasTakenScript place text
    → Reads kept_script_view result (script_text_left place [])
    → IfErr result (λ fault. IsOfText fault → (text : List ℕ)
    × GivesAll text old new given later × (run_script_of_text text ≡ Err fault))
fault_if_err (Ok script) old new given later place whole reads = tt
fault_if_err (Err fault) old new given later place (text, gives, taken) reads =
    λ of_text. (
      text,
      gives,
      ap run_script_of_text (sym (append-nil text)) ∙ taken []
          (inl refl) ∙ fault_of_text (script_text_left place []) fault reads of_text,
    )

-- a fault of a text is one of those that a call that reads has
pub script_codes : (result : Result kept.KeptScript TextFault) → IfErr result IsOfText
    → IfErr result (λ fault. (fault ≡ no_memory) ⊎ IsOfText fault)
script_codes (Ok script) h = tt
script_codes (Err fault) h = inr h

-- ---- the check text that was read whole

pub check_if_ok : (result : Result made.CheckText TextFault) (old new : Option (List ℕ))
    (given later : ℕ) (place : CheckPlace)
    → (text : List ℕ) × GivesAll text old new given later × HasTakenCheck place text
    → Reads check_view result (text_left place []) → IfOk result (λ check. (text : List ℕ)
    × GivesAll text old new given later × (check_of_text text ≡ Ok (check_view check)))
check_if_ok (Err fault) old new given later place whole reads = tt
check_if_ok (Ok check) old new given later place (text, gives, taken) reads =
    (text, gives, ap check_of_text (sym (append-nil text)) ∙ taken [] (inl refl) ∙ reads)

pub check_if_err : (result : Result made.CheckText TextFault) (old new : Option (List ℕ))
    (given later : ℕ) (place : CheckPlace)
    → (text : List ℕ) × GivesAll text old new given later × HasTakenCheck place text
    → Reads check_view result (text_left place []) → IfErr result (λ fault. IsOfText fault
    → (text : List ℕ) × GivesAll text old new given later × (check_of_text text ≡ Err fault))
check_if_err (Ok check) old new given later place whole reads = tt
check_if_err (Err fault) old new given later place (text, gives, taken) reads =
    λ of_text. (
      text,
      gives,
      ap check_of_text (sym (append-nil text)) ∙ taken []
          (inl refl) ∙ fault_of_text (text_left place []) fault reads of_text,
    )

pub check_codes : (result : Result made.CheckText TextFault) (text : List ℕ) (place : CheckPlace)
    → HasTakenCheck place text → Reads check_view result (text_left place [])
    → IfErr result (λ fault. (fault ≡ no_memory) ⊎ IsOfText fault)
check_codes result text place taken reads =
    let same : text_left place []
    ≡ check_of_text text = sym (taken [] (inl refl)) ∙ ap check_of_text (append-nil text) in
    reads_codes check_view result (check_of_text text) (check_text_faults text) (rw same at reads)

-- the end of a text is the end of its last piece
ends_of : (front piece xs : List ℕ) → front ++ piece ≡ xs ++ 10 ∷ []
    → (piece ≡ []) ⊎ ((ys : List ℕ) × (piece ≡ ys ++ 10 ∷ []))
ends_of [] piece xs is = inr (xs, is)
ends_of (c ∷ front) [] [] is = inl refl
ends_of (c ∷ front) (p ∷ piece) [] is =
    absurd (omega (arith, ap length is, length-append front (p ∷ piece)))
ends_of (c ∷ front) piece (x ∷ xs) is = ends_of front piece xs (ap (drop 1) is)

ends_before : (front piece rest : List ℕ) → EndsBefore (front ++ piece) rest → EndsBefore piece rest
ends_before front piece rest (inl none) = inl none
ends_before front piece rest (inr (inl none)) =
    inr (inl (length_zero piece (omega (arith, ap length none, length-append front piece))))
ends_before front piece rest (inr (inr (xs, is))) = inr (ends_of front piece xs is)

pub taken_of_check : {A E : Type 0} (result : Result A E) (old new : CheckPlace) (piece : List ℕ)
    → OnOk result
    ((rest : List ℕ) → EndsBefore piece rest → text_left old (piece ++ rest) ≡ text_left new rest)
    → OnOk result ((front : List ℕ) → EndsLine front → HasTakenCheck old front
    → HasTakenCheck new (front ++ piece))
taken_of_check (Err e) old new piece taken = tt
taken_of_check (Ok x) old new piece taken = λ front ends before rest after.
    ap check_of_text (append_assoc front piece rest) ∙ before (piece ++ rest)
    (inr ends) ∙ taken rest (ends_before front piece rest after)

pub taken_of_script : {A E : Type 0} (result : Result A E) (old new : ScriptPlace) (piece : List ℕ)
    → OnOk result ((rest : List ℕ) → EndsBefore piece rest
    → script_text_left old (piece ++ rest) ≡ script_text_left new rest)
    → OnOk result ((front : List ℕ) → EndsLine front → HasTakenScript old front
    → HasTakenScript new (front ++ piece))
taken_of_script (Err e) old new piece taken = tt
taken_of_script (Ok x) old new piece taken = λ front ends before rest after.
    ap run_script_of_text (append_assoc front piece rest) ∙ before (piece ++ rest)
    (inr ends) ∙ taken rest (ends_before front piece rest after)

-- what is told of a fault of the text alone
not_read : (fault : TextFault) → (fault ≡ no_memory) ⊎ IsOfText fault → fault.code ≡ READ_FAULT → ⊥
not_read fault (inl none) code = codes_differ fault none code
not_read fault (inr (inl low)) code =
    let read : fault.code ≡ 36 = code in omega (arith, low.1, read)
not_read fault (inr (inr forty)) code =
    let read : fault.code ≡ 36 = code in omega (arith, forty, read)

pub read_if_err : {A : Type 0} (result : Result A TextFault) (P : Type 0) → IfErr result (λ fault.
    (fault ≡ no_memory) ⊎ IsOfText fault) → IfErr result (λ fault. fault.code ≡ READ_FAULT → P)
read_if_err (Ok x) P h = tt
read_if_err (Err fault) P h = λ code. absurd (not_read fault h code)

pub wider_codes : {A : Type 0} (result : Result A TextFault)
    → IfErr result (λ fault. (fault ≡ no_memory) ⊎ IsOfText fault)
    → IfErr result (λ fault. (fault ≡ no_memory)
    ⊎ (fault ≡ record { record_number = 0; code = READ_FAULT }) ⊎ IsOfText fault)
wider_codes (Ok x) h = tt
wider_codes (Err fault) (inl none) = inl none
wider_codes (Err fault) (inr of_text) = inr (inr of_text)

pub ended_if : {A : Type 0} (result : Result A TextFault) (old new : ℕ) → IfErr result
    (λ fault. (fault ≡ no_memory) ⊎ IsOfText fault) → new ≡ one_more old → HearsEnd result old new
ended_if (Ok x) old new h is = is
ended_if (Err fault) old new h is = (λ code. absurd (not_read fault h code), λ other. inl is)

-- ---- too much

-- a source that tells gave no more than it had
fills_within : (a b : Option (List ℕ)) (xs text : List ℕ) → a ≡ Some xs → Fills a b text
    → length text ≤ length xs
fills_within None b xs text told h = cc told
fills_within (Some p) None xs text told h = absurd h
fills_within (Some p) (Some q) xs text told h =
    let same : p ≡ xs = cc told in
    omega (arith, ap length same, ap length h, length-append text q)

-- more has come than an input may have
pub too_much : (old now new : Option (List ℕ)) (given later long count : ℕ) (held heard : List ℕ)
    (HasTaken : List ℕ → Type 0) → HasHeard count held heard now new → 67108864 < long + count
    → later ≡ given + long + count → HasCome old now long held HasTaken → IsTooLong old given later
too_much old now new given later long count held heard HasTaken hears much sum h = record {
  counted = omega (arith, much, sum);
  told = λ xs told.
      omega (
        arith,
        length-append h.text hears.bytes,
        h.counted,
        hears.long,
        much,
        fills_within old
            new xs (h.text ++ hears.bytes) told
            (fills_both old now new h.text hears.bytes h.moved hears.moved),
      );
}
