-- What one process has recorded of one round, as each call leaves it.
use Rattle.std.proofs.Common.{◌≡◌, ◌≢◌, ℕ, ◌<◌, Bool, true, false, cond, List, [], ◌∷◌, ◌++◌, ◌≤◌}
use Rattle.std.proofs.Common.{length, get_or, set, map, replicate, Option, Some, None, refl, sym}
use Rattle.std.proofs.Common.{ap, ◌∙◌, subst, arith, inl, inr}
use Rattle.std.specs.Option.{unwrap_or}
use Rattle.std.specs.Prelude.{IsTrue, MatchOption}
use Rattle.std.specs.List.{range_with_len}
use Rattle.std.proofs.lemmas.Bool.{both_ways, cases_eq, cases_lt, eq-eqb, ne_eqb}
use Rattle.std.proofs.lemmas.List.{length-set, length-replicate, get_or-set_same, get_or-set_other}
use Rattle.std.proofs.lemmas.List.{get_or-replicate, get_or_append_left, get_or_past, get_or_push}
use Rattle.std.proofs.lemmas.List.{length_push}
use Rattle.std.proofs.lemmas.List.FromFn.{fill_by_all, get_or-map-range_with_len}
use Rattle.std.proofs.lemmas.List.FromFn.{length-map-range_with_len}
use Rattle.line_names.specs.Sets.{is_member}
use Rattle.line_names.specs.declared.messages.MsgName.{MsgName}
use Rattle.line_rounds.specs.Recording.{Channel, RecordedRound, open_channel, channel_at}
use Rattle.line_rounds.specs.Recording.{messages_by, round_of, with_channel, with_marker}
use Rattle.line_rounds.specs.Recording.{with_message, with_round, rounds_with_message}
use Rattle.line_moves.specs.Recorders.{channel_noted, rounds_noted, IsUnheard}

channel_is : (a b : List MsgName) (c d : Bool) → a ≡ b → c ≡ d → (let x : Channel = record
    { messages = a; is_closed = c } in x) ≡ record { messages = b; is_closed = d }
channel_is a b c d e f = ap
    (λ (v : List MsgName). let x : Channel = record { messages = v; is_closed = c } in x) e ∙ ap
    (λ (v : Bool). let x : Channel = record { messages = b; is_closed = v } in x) f

-- the channels from n processes
abbrev pub channels : ℕ → List Bool → List (List MsgName) → List Channel
channels n closed noted = map (channel_noted closed noted) (range_with_len 0 n)

-- the round that is recorded
abbrev pub one_round : ℕ → ℕ → List Bool → List (List MsgName) → RecordedRound
one_round r n closed noted = record { number = r; channels = channels n closed noted }

pub channel_here : (r n p : ℕ) (closed : List Bool) (noted : List (List MsgName)) → p < n
    → channel_at (one_round r n closed noted) p ≡ channel_noted closed noted p
channel_here r n p closed noted within =
    get_or-map-range_with_len (channel_noted closed noted) 0 n p p open_channel within (omega arith)

-- channels that are others in one place
channels_set : (n p : ℕ) (f g : ℕ → Channel) (new : Channel) → p < n → new ≡ g p → ((q : ℕ) → q ≢ p
    → f q ≡ g q) → set (map f (range_with_len 0 n)) p new ≡ map g (range_with_len 0 n)
channels_set n p f g new within here others =
    let old : List Channel = map f (range_with_len 0 n) in
    let size : length old ≡ n = length-map-range_with_len f 0 n in
    fill_by_all g (set old p new) n open_channel (length-set old p new ∙ size)
    (λ k k_within. elim (cases_eq k p) [
      | inl same ↦ ap (λ (v : ℕ). get_or (set old p new) v open_channel) same ∙ get_or-set_same old
          p new open_channel (omega (arith, within, size)) ∙ here ∙ ap g (sym same)
      | inr other ↦ get_or-set_other old p k new open_channel other ∙ get_or-map-range_with_len f 0
          n k k open_channel k_within (omega arith) ∙ others k other
    ])

round_is : (r : ℕ) (a b : List Channel) → a ≡ b → (let x : RecordedRound = record
    { number = r; channels = a } in x ∷ []) ≡ record { number = r; channels = b } ∷ []
round_is r a b e = ap
    (λ (v : List Channel). let x : RecordedRound = record { number = r; channels = v } in x ∷ []) e

-- the process takes its check
pub begun_rounds : (round : Option ℕ) (r n : ℕ) (closed : List Bool) (noted : List (List MsgName))
    → IsUnheard round closed noted → rounds_noted round n closed noted ≡ []
    → rounds_noted (Some r) n closed noted ≡ with_round (rounds_noted round n closed noted) n r
begun_rounds None r n closed noted unheard none =
    round_is r (channels n closed noted) (replicate n open_channel)
    (sym (fill_by_all (channel_noted closed noted) (replicate n open_channel) n open_channel
    (length-replicate n open_channel) (λ k within.
    get_or-replicate n k open_channel open_channel within
    ∙ channel_is [] (get_or noted k []) false (is_member closed k)
    (sym (ap (λ (ns : List (List MsgName)). get_or ns k []) unheard.0 ∙ get_or_past [] k []
    (omega arith))) (sym (unheard.1 k)))))
begun_rounds (Some s) r n closed noted unheard none =
    absurd (omega (arith, ap (λ (rs : List RecordedRound). length rs) none))

-- the marker from process p has come
pub closed_rounds : (s r n p : ℕ) (closed new : List Bool) (noted : List (List MsgName)) → s ≡ r
    → p < n → is_member new p ≡ true → ((q : ℕ) → q ≢ p → is_member new q ≡ is_member closed q)
    → rounds_noted (Some s) n new noted ≡ with_marker (rounds_noted (Some s) n closed noted) p r
closed_rounds s r n p closed new noted same within member others =
    let one : RecordedRound = one_round s n closed noted in
    let shut : Channel = record (channel_at one p) { is_closed = true } in
    round_is s (channels n new noted) (set (channels n closed noted) p shut)
    (sym (channels_set n p (channel_noted closed noted) (channel_noted new noted) shut within
    (ap (λ (c : Channel). let x : Channel = record c { is_closed = true } in x)
    (channel_here s n p closed noted within) ∙ channel_is (get_or noted p [])
    (get_or noted p []) true (is_member new p) refl (sym member))
    (λ q other. channel_is (get_or noted q []) (get_or noted q []) (is_member closed q)
    (is_member new q) refl (sym (others q other)))))
    ∙ ap (λ b. cond b (with_channel one p shut) one ∷ []) (sym (eq-eqb s r same))

-- with the check that it has the process take
pub forced_rounds : (round : Option ℕ) (r n p : ℕ) (closed new : List Bool) (noted : List
    (List MsgName)) → IsUnheard round closed noted → rounds_noted round n closed noted ≡ [] → p < n
    → is_member new p ≡ true → ((q : ℕ) → q ≢ p → is_member new q ≡ is_member closed q)
    → rounds_noted (Some r) n new noted
    ≡ with_marker (with_round (rounds_noted round n closed noted) n r) p r
forced_rounds round r n p closed new noted unheard none within member others =
    closed_rounds r r n p closed new noted refl within member others
    ∙ ap (λ (rs : List RecordedRound). with_marker rs p r)
    (begun_rounds round r n closed noted unheard none)

-- a message has come
pub noted_rounds : (r n : ℕ) (closed : List Bool) (noted new : List (List MsgName)) (m : MsgName)
    → m.from < n → is_member closed m.from ≡ false
    → get_or new m.from [] ≡ get_or noted m.from [] ++ m ∷ []
    → ((q : ℕ) → q ≢ m.from → get_or new q [] ≡ get_or noted q [])
    → rounds_noted (Some r) n closed new
    ≡ rounds_with_message (rounds_noted (Some r) n closed noted) m
noted_rounds r n closed noted new m within unshut here others =
    let p : ℕ = m.from in
    let one : RecordedRound = one_round r n closed noted in
    let heard : Channel = with_message (channel_at one p) m in
    let old : Channel = channel_noted closed noted p in
    let more : Channel = record
    { messages = get_or noted p [] ++ m ∷ []; is_closed = is_member closed p } in
    round_is r (channels n closed new) (set (channels n closed noted) p heard)
    (sym (channels_set n p (channel_noted closed noted) (channel_noted closed new) heard within
    (ap (λ (c : Channel). with_message c m) (channel_here r n p closed noted within)
    ∙ ap (λ b. cond b old more) unshut
    ∙ channel_is (get_or noted p [] ++ m ∷ []) (get_or new p []) (is_member closed p)
    (is_member closed p) (sym here) refl)
    (λ q other. channel_is (get_or noted q []) (get_or new q []) (is_member closed q)
    (is_member closed q) (sym (others q other)) refl)))

-- where nothing is recorded, or the marker of its sender has come, it is not kept
pub unnoted_rounds : (round : Option ℕ) (n : ℕ) (closed : List Bool) (noted : List (List MsgName))
    (m : MsgName) → m.from < n → ((r : ℕ) → round ≡ Some r → is_member closed m.from ≡ true)
    → rounds_noted round n closed noted ≡ rounds_with_message (rounds_noted round n closed noted) m
unnoted_rounds None n closed noted m within shut = refl
unnoted_rounds (Some r) n closed noted m within shut =
    let p : ℕ = m.from in
    let one : RecordedRound = one_round r n closed noted in
    let heard : Channel = with_message (channel_at one p) m in
    let old : Channel = channel_noted closed noted p in
    let more : Channel = record
    { messages = get_or noted p [] ++ m ∷ []; is_closed = is_member closed p } in
    round_is r (channels n closed noted) (set (channels n closed noted) p heard)
    (sym (channels_set n p (channel_noted closed noted) (channel_noted closed noted) heard within
    (ap (λ (c : Channel). with_message c m) (channel_here r n p closed noted within) ∙ ap
    (λ b. cond b old more) (shut r refl))
    (λ q other. refl)))

-- what is told of a channel
pub names_here : (s r n p : ℕ) (closed : List Bool) (noted : List (List MsgName)) → s ≡ r → p < n
    → unwrap_or (messages_by (round_of (rounds_noted (Some s) n closed noted) r) p) []
    ≡ get_or noted p []
names_here s r n p closed noted same within =
    let none : Option RecordedRound = None in
    ap (λ b. unwrap_or (messages_by (cond b (Some (one_round s n closed noted)) none) p) [])
    (eq-eqb s r same)
    ∙ ap (λ (c : Channel). c.messages) (channel_here s n p closed noted within)

pub names_elsewhere : (s r n p : ℕ) (closed : List Bool) (noted : List (List MsgName)) → s ≢ r
    → unwrap_or (messages_by (round_of (rounds_noted (Some s) n closed noted) r) p) [] ≡ []
names_elsewhere s r n p closed noted apart =
    let none : Option RecordedRound = None in
    ap (λ b. unwrap_or (messages_by (cond b (Some (one_round s n closed noted)) none) p) [])
    (ne_eqb s r apart)

-- nothing is told where nothing was noted
pub names_silent : (round : Option ℕ) (r n p : ℕ) (closed : List Bool) (noted : List (List MsgName))
    → ((q : ℕ) → get_or noted q [] ≡ [])
    → unwrap_or (messages_by (round_of (rounds_noted round n closed noted) r) p) [] ≡ []
names_silent None r n p closed noted silent = refl
names_silent (Some s) r n p closed noted silent = elim (cases_eq s r) [
  | inl same ↦ elim (cases_lt p n) [
    | inl within ↦ names_here s r n p closed noted same within ∙ silent p
    | inr past ↦
        let none : Option RecordedRound = None in
        ap (λ b. unwrap_or (messages_by (cond b (Some (one_round s n closed noted)) none) p) [])
        (eq-eqb s r same)
        ∙ ap (λ (c : Channel). c.messages) (get_or_past (channels n closed noted) p open_channel
        (omega (arith, past, length-map-range_with_len (channel_noted closed noted) 0 n)))
  ]
  | inr apart ↦ names_elsewhere s r n p closed noted apart
]

-- and where nothing is told of any channel, nothing was noted
pub told_silent : (round : Option ℕ) (n : ℕ) (closed : List Bool) (noted : List (List MsgName))
    → IsUnheard round closed noted → length noted ≤ n
    → ((r p : ℕ) → unwrap_or (messages_by (round_of (rounds_noted round n closed noted) r) p) []
    ≡ []) → (q : ℕ) → get_or noted q [] ≡ []
told_silent None n closed noted unheard few silent q =
    ap (λ (ns : List (List MsgName)). get_or ns q []) unheard.0 ∙ get_or_past [] q [] (omega arith)
told_silent (Some s) n closed noted unheard few silent q = elim (cases_lt q n) [
  | inl within ↦ sym (names_here s s n q closed noted refl within) ∙ silent s q
  | inr past ↦ get_or_past noted q [] (omega (arith, past, few))
]

-- what a test asks of the round that is recorded
found_round : (s r n : ℕ) (closed : List Bool) (noted : List (List MsgName)) → s ≡ r
    → round_of (rounds_noted (Some s) n closed noted) r ≡ Some (one_round s n closed noted)
found_round s r n closed noted same =
    let none : Option RecordedRound = None in
    ap (λ b. cond b (Some (one_round s n closed noted)) none) (eq-eqb s r same)

found_none : (s r n : ℕ) (closed : List Bool) (noted : List (List MsgName)) → s ≢ r
    → round_of (rounds_noted (Some s) n closed noted) r ≡ None
found_none s r n closed noted apart =
    let none : Option RecordedRound = None in
    ap (λ b. cond b (Some (one_round s n closed noted)) none) (ne_eqb s r apart)

-- the channel from process p is open in the round of this number
abbrev IsOpenIn : Option RecordedRound → ℕ → Type 0
IsOpenIn round p =
    MatchOption round ⊥ (λ (recorded : RecordedRound). (channel_at recorded p).is_closed ≡ false)

abbrev pub IsOpenAt : List RecordedRound → ℕ → ℕ → Type 0
IsOpenAt rounds r p = IsOpenIn (round_of rounds r) p

pub open_elsewhere : (s r n p : ℕ) (closed : List Bool) (noted : List (List MsgName)) → s ≢ r
    → IsOpenAt (rounds_noted (Some s) n closed noted) r p → ⊥
open_elsewhere s r n p closed noted apart is =
    subst (λ (o : Option RecordedRound). IsOpenIn o p) (found_none s r n closed noted apart) is

pub open_here : (s r n p : ℕ) (closed : List Bool) (noted : List (List MsgName)) → s ≡ r → p < n
    → is_member closed p ≡ false → IsOpenAt (rounds_noted (Some s) n closed noted) r p
open_here s r n p closed noted same within unshut =
    subst (λ (o : Option RecordedRound). IsOpenIn o p) (sym (found_round s r n closed noted same))
    (ap (λ (c : Channel). c.is_closed) (channel_here s n p closed noted within) ∙ unshut)

pub open_not : (s r n p : ℕ) (closed : List Bool) (noted : List (List MsgName)) → s ≡ r → p < n
    → is_member closed p ≡ true → IsOpenAt (rounds_noted (Some s) n closed noted) r p → ⊥
open_not s r n p closed noted same within shut is =
    both_ways (is_member closed p)
    (sym (ap (λ (c : Channel). c.is_closed) (channel_here s n p closed noted within)) ∙ subst
    (λ (o : Option RecordedRound). IsOpenIn o p) (found_round s r n closed noted same) is)
    shut

-- the round of this number is over
abbrev IsOverIn : ℕ → ℕ → Option RecordedRound → Type 0
IsOverIn n me round = MatchOption round ⊥ (λ (recorded : RecordedRound). (q : ℕ) → q < n → q ≢ me
    → IsTrue (channel_at recorded q).is_closed)

abbrev pub IsOverAt : ℕ → ℕ → List RecordedRound → ℕ → Type 0
IsOverAt n me rounds r = IsOverIn n me (round_of rounds r)

pub over_elsewhere : (s r n me : ℕ) (closed : List Bool) (noted : List (List MsgName)) → s ≢ r
    → IsOverAt n me (rounds_noted (Some s) n closed noted) r → ⊥
over_elsewhere s r n me closed noted apart is =
    subst (IsOverIn n me) (found_none s r n closed noted apart) is

pub over_here : (s r n me : ℕ) (closed : List Bool) (noted : List (List MsgName)) → s ≡ r
    → ((q : ℕ) → q < n → q ≢ me → IsTrue (is_member closed q))
    → IsOverAt n me (rounds_noted (Some s) n closed noted) r
over_here s r n me closed noted same all =
    subst (IsOverIn n me) (sym (found_round s r n closed noted same))
    (λ q within apart. ap (λ (c : Channel). c.is_closed)
    (channel_here s n q closed noted within) ∙ all q within apart)

pub here_over : (s r n me : ℕ) (closed : List Bool) (noted : List (List MsgName)) → s ≡ r
    → IsOverAt n me (rounds_noted (Some s) n closed noted) r → (q : ℕ) → q < n → q ≢ me
    → IsTrue (is_member closed q)
here_over s r n me closed noted same is = λ q within apart.
    sym (ap (λ (c : Channel). c.is_closed) (channel_here s n q closed noted within)) ∙
    (subst (IsOverIn n me) (found_round s r n closed noted same) is) q within apart

-- one list more, with nothing on it
pub made_more : (noted : List (List MsgName)) (q : ℕ)
    → get_or (noted ++ [] ∷ []) q [] ≡ get_or noted q []
made_more noted q = elim (cases_lt q (length noted)) [
  | inl within ↦ get_or_append_left noted ([] ∷ []) [] q within
  | inr past ↦ elim (cases_eq q (length noted)) [
    | inl same ↦ get_or_push noted [] [] q (sym same) ∙ sym
        (get_or_past noted q [] (omega (arith, past)))
    | inr other ↦ get_or_past (noted ++ [] ∷ []) q [] (omega (
      arith,
      past,
      other,
      length_push noted
          [],
    )) ∙ sym (get_or_past noted q [] (omega (arith, past)))
  ]
]
