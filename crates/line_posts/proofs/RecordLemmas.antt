-- What is recorded of rounds follows the tape, event by event.
use Rattle.std.proofs.Common.{◌≡◌, ◌≢◌, ℕ, zero, suc, ◌<◌, ◌≤◌, Bool, true, false, cond, List, []}
use Rattle.std.proofs.Common.{◌∷◌, ◌++◌, map, max, replicate, Some, None, refl, sym, ap, ◌∙◌, subst}
use Rattle.std.proofs.Common.{arith, inl, inr, ◌⊎◌}
use Rattle.std.specs.Prelude.{◌==◌, ◌||◌, ◌&&◌, All, nat_lt}
use Rattle.std.specs.Cmp.Derive.{both_true}
use Rattle.std.proofs.lemmas.Bool.{cases_eq, eq-eqb, ne_eqb, eqb-true, and_left, ltb-false}
use Rattle.std.proofs.lemmas.List.{append-nil, length-set, length-replicate, get_or-set_same}
use Rattle.std.proofs.lemmas.List.{get_or-set_other}
use Rattle.std.proofs.lemmas.List.Elements.{All-nil, All-cons, All-head, All-tail, All-append}
use Rattle.line_names.specs.declared.messages.MsgName.{MsgName}
use Rattle.line_rounds.specs.Recording.{Channel, RecordedRound, open_channel, channel_at}
use Rattle.line_rounds.specs.Recording.{with_channel, with_marker, with_round, with_message}
use Rattle.line_rounds.specs.Recording.{rounds_with_message, round_of, latest}
use Rattle.line_tape.specs.declared.events.Event.{Event}
use Rattle.line_tape.specs.declared.events.Event.TheVariants.{Send, Recv, Check, Mark}
use Rattle.line_tape.specs.Rounds.{has_check_of, has_mark_of, channel_on, is_check_of, is_mark_of}
use Rattle.line_tape.specs.Rounds.{names_from}
use Rattle.line_tape.specs.Transit.{names_received}
use Rattle.line_laws.proofs.GrowthLemmas.{channel_opened, channel_push, has_check_push}
use Rattle.line_laws.proofs.GrowthLemmas.{has_mark_push}
use Rattle.line_tape.proofs.ListLemmas.{or-false}
use Rattle.line_posts.specs.Journals.{channel_of, rounds_by, IsRoundOn, IsRecorded, MayCome}

pub or-true : (b : Bool) → (b || true) ≡ true
or-true true = refl
or-true false = refl

pub nothing : (b : Bool) → cond b [] [] ≡ (let none : List MsgName = [] in none)
nothing true = refl
nothing false = refl

pub channel_is : (a b : List MsgName) (c d : Bool) → a ≡ b → c ≡ d → (let x : Channel = record
    { messages = a; is_closed = c } in x) ≡ record { messages = b; is_closed = d }
channel_is a b c d e f = ap
    (λ (v : List MsgName). let x : Channel = record { messages = v; is_closed = c } in x) e ∙ ap
    (λ (v : Bool). let x : Channel = record { messages = b; is_closed = v } in x) f

-- a channel to which an event adds nothing
channel-kept : (p r : ℕ) (tape : List Event) (e : Event) → has_check_of r tape ≡ true
    → is_mark_of p r e ≡ false → names_from p (names_received (e ∷ [])) ≡ []
    → channel_of p r (tape ++ e ∷ []) ≡ channel_of p r tape
channel-kept p r tape e begun no_mark none =
    channel_is (channel_on p r (tape ++ e ∷ [])) (channel_on p r tape)
    (has_mark_of p r (tape ++ e ∷ [])) (has_mark_of p r tape)
    (channel_push tape e p r begun
    ∙ ap (λ (ms : List MsgName). channel_on p r tape ++ cond (has_mark_of p r tape) [] ms) none
    ∙ ap (λ (ms : List MsgName). channel_on p r tape ++ ms) (nothing (has_mark_of p r tape))
    ∙ append-nil (channel_on p r tape))
    (has_mark_push tape e p r begun ∙ ap (λ b. has_mark_of p r tape || b) no_mark ∙ or-false
    (has_mark_of p r tape))

still_checked : (r : ℕ) (tape : List Event) (e : Event) → has_check_of r tape ≡ true
    → has_check_of r (tape ++ e ∷ []) ≡ true
still_checked r tape e begun = has_check_push tape e r ∙ ap (λ b. b || is_check_of r e) begun

same_checked : (r : ℕ) (tape : List Event) (e : Event) → is_check_of r e ≡ false
    → has_check_of r (tape ++ e ∷ []) ≡ has_check_of r tape
same_checked r tape e other = has_check_push tape e r ∙ ap
    (λ b. has_check_of r tape || b) other ∙ or-false (has_check_of r tape)

-- an event that adds nothing to the channels of a round
round-kept : (n : ℕ) (tape : List Event) (round : RecordedRound) (e : Event)
    → ((p : ℕ) → is_mark_of p round.number e ≡ false) → names_received (e ∷ []) ≡ []
    → IsRoundOn n tape round → IsRoundOn n (tape ++ e ∷ []) round
round-kept n tape round e no_mark none h = record {
  checked = still_checked round.number tape e h.checked;
  count = h.count;
  channels = λ p. h.channels p ∙ sym
      (channel-kept p round.number tape e h.checked (no_mark p) (ap (names_from p) none));
}

-- another channel from one process
round-written : (n : ℕ) (tape : List Event) (round : RecordedRound) (from : ℕ) (e : Event)
    (new : Channel) → from < n → new ≡ channel_of from round.number (tape ++ e ∷ [])
    → ((p : ℕ) → p ≢ from → channel_of p round.number (tape ++ e ∷ []) ≡ channel_of p round.number
    tape) → IsRoundOn n tape round → IsRoundOn n (tape ++ e ∷ []) (with_channel round from new)
round-written n tape round from e new within here there h =
    let c = h.count in
    record {
      checked = still_checked round.number tape e h.checked;
      count = length-set round.channels from new ∙ h.count;
      channels = λ p. elim (cases_eq p from) [
        | inl same ↦ subst (λ (v : ℕ). channel_at (with_channel round from new) v
            ≡ channel_of v round.number (tape ++ e ∷ [])) (sym same)
            (get_or-set_same round.channels from new open_channel (omega (arith, within, c)) ∙ here)
        | inr different ↦ get_or-set_other round.channels from p new open_channel different ∙
            h.channels p ∙ sym (there p different)
      ];
    }

heard_by : (m : MsgName) (names : List MsgName) (b : Bool)
    → (let x : Channel = record { messages = names ++ cond b [] (m ∷ []); is_closed = b } in x)
    ≡ with_message (record { messages = names; is_closed = b }) m
heard_by m names true = channel_is (names ++ []) names true true (append-nil names) refl
heard_by m names false = refl

-- a message
round-noted : (n : ℕ) (tape : List Event) (round : RecordedRound) (m : MsgName) → m.from < n
    → IsRoundOn n tape round → IsRoundOn n (tape ++ Recv m ∷ [])
    (with_channel round m.from (with_message (channel_at round m.from) m))
round-noted n tape round m within h =
    let r = round.number in
    let from = m.from in
    let one : names_from from (names_received (Recv m ∷ [])) ≡ m ∷ [] = ap
    (λ b. cond b (m ∷ []) (let none : List MsgName = [] in none)) (eq-eqb from from refl) in
    let here : channel_of from r (tape ++ Recv m ∷ []) ≡ with_message (channel_of from r tape) m =
    channel_is (channel_on from r (tape ++ Recv m ∷ []))
    (channel_on from r tape ++ cond (has_mark_of from r tape) [] (m ∷ []))
    (has_mark_of from r (tape ++ Recv m ∷ [])) (has_mark_of from r tape)
    (channel_push tape (Recv m) from r h.checked ∙ ap
    (λ (ms : List MsgName). channel_on from r tape ++ cond (has_mark_of from r tape) [] ms) one)
    (has_mark_push tape (Recv m) from r h.checked ∙ or-false (has_mark_of from r tape))
    ∙ heard_by m (channel_on from r tape) (has_mark_of from r tape) in
    round-written n tape round from (Recv m) (with_message (channel_at round from) m) within
    (ap (λ (c : Channel). with_message c m) (h.channels from) ∙ sym here)
    (λ p other. channel-kept p r tape (Recv m) h.checked refl
    (ap (λ b. cond b (m ∷ []) []) (ne_eqb from p (λ s. other (sym s))))) h

-- a marker of the round
round-marked : (n : ℕ) (tape : List Event) (round : RecordedRound) (from r : ℕ) → from < n
    → round.number ≡ r → IsRoundOn n tape round
    → IsRoundOn n (tape ++ Mark from r ∷ [])
    (with_channel round from (record (channel_at round from) { is_closed = true }))
round-marked n tape round from r within same h =
    let s = round.number in
    let e : Event = Mark from r in
    let here : channel_of from s (tape ++ e ∷ [])
    ≡ record (channel_of from s tape) { is_closed = true } =
    channel_is (channel_on from s (tape ++ e ∷ [])) (channel_on from s tape)
    (has_mark_of from s (tape ++ e ∷ [])) true
    (channel_push tape e from s h.checked
    ∙ ap (λ (ms : List MsgName). channel_on from s tape ++ ms) (nothing (has_mark_of from s tape))
    ∙ append-nil (channel_on from s tape))
    (has_mark_push tape e from s h.checked ∙ ap (λ b. has_mark_of from s tape || b) (both_true
    (eq-eqb from from refl) (eq-eqb r s (sym same))) ∙ or-true (has_mark_of from s tape)) in
    round-written n tape round from e (record (channel_at round from) { is_closed = true }) within
    (ap (λ (c : Channel). let x : Channel = record c { is_closed = true } in x)
    (h.channels from) ∙ sym here)
    (λ p other. channel-kept p s tape e h.checked
    (and_left (from == p) (r == s) (ne_eqb from p (λ v. other (sym v)))) refl) h

-- a marker of any round
round-heard : (n : ℕ) (tape : List Event) (round : RecordedRound) (from r : ℕ) → from < n
    → IsRoundOn n tape round
    → IsRoundOn n (tape ++ Mark from r ∷ []) (cond (round.number == r)
    (with_channel round from (record (channel_at round from) { is_closed = true })) round)
round-heard n tape round from r within h = elim (cases_eq round.number r) [
  | inl same ↦ subst
      (λ b. IsRoundOn n (tape ++ Mark from r ∷ [])
      (cond b (with_channel round from (record (channel_at round from) { is_closed = true }))
      round)) (sym (eq-eqb round.number r same)) (round-marked n tape round from r within same h)
  | inr other ↦ subst
      (λ b. IsRoundOn n (tape ++ Mark from r ∷ []) (cond b (with_channel round from (record
      (channel_at round from) { is_closed = true })) round)) (sym (ne_eqb round.number r other))
      (round-kept n tape round (Mark from r) (λ p. and_right_false (from == p) (r == round.number)
      (ne_eqb r round.number (λ e. other (sym e)))) refl h)
] where
  and_right_false : (a b : Bool) → b ≡ false → (a && b) ≡ false
  and_right_false true b e = e
  and_right_false false b e = refl

-- its own check opens a round
round-opened : (n : ℕ) (tape : List Event) (state : List ℕ) (r : ℕ) → has_check_of r tape ≡ false
    → IsRoundOn n (tape ++ Check state (Some r) ∷ [])
    (record { number = r; channels = replicate n open_channel })
round-opened n tape state r none =
    let e : Event = Check state (Some r) in
    let this : is_check_of r e ≡ true = eq-eqb r r refl in
    record {
      checked = has_check_push tape e r ∙ ap (λ b. has_check_of r tape || b) this ∙ or-true
          (has_check_of r tape);
      count = length-replicate n open_channel;
      channels = λ p. let opened = channel_opened tape e p r none this in
          at_any n p ∙ channel_is [] (channel_on p r (tape ++ e ∷ [])) false
          (has_mark_of p r (tape ++ e ∷ [])) (sym opened.0) (sym opened.1);
    } where
      at_any : (n p : ℕ)
          → channel_at (record { number = r; channels = replicate n open_channel }) p ≡ open_channel
      at_any zero p = refl
      at_any (suc n) zero = refl
      at_any (suc n) (suc p) = at_any n p

-- each of them
all_more : {X : Type 0} (P Q : X → Type 0) (f : X → X) (xs : List X) → ((x : X) → P x → Q (f x))
    → All P xs → All Q (map f xs)
all_more P Q f [] step h = All-nil Q
all_more P Q f (x ∷ xs) step h = All-cons Q (f x) (map f xs) (step x (All-head P x xs h))
    (all_more P Q f xs step (All-tail P x xs h))

all_kept : {X : Type 0} (P Q : X → Type 0) (xs : List X) → ((x : X) → P x → Q x) → All P xs
    → All Q xs
all_kept P Q [] step h = All-nil Q
all_kept P Q (x ∷ xs) step h =
    All-cons Q x xs (step x (All-head P x xs h)) (all_kept P Q xs step (All-tail P x xs h))

-- the latest of them
latest-map : (floor : ℕ) (f : RecordedRound → RecordedRound) (rounds : List RecordedRound) → ((x :
    RecordedRound) → (f x).number ≡ x.number) → latest floor (map f rounds) ≡ latest floor rounds
latest-map floor f [] same = refl
latest-map floor f (x ∷ xs) same = ap (λ (v : ℕ). max v (latest floor (map f xs))) (same x) ∙ ap
    (max x.number) (latest-map floor f xs same)

latest-noted : (floor : ℕ) (rounds : List RecordedRound) (m : MsgName)
    → latest floor (rounds_with_message rounds m) ≡ latest floor rounds
latest-noted floor rounds m = latest-map floor _ rounds (λ x. refl)

latest-marked : (floor : ℕ) (rounds : List RecordedRound) (from r : ℕ)
    → latest floor (with_marker rounds from r) ≡ latest floor rounds
latest-marked floor rounds from r =
    latest-map floor _ rounds (λ x. number_kept x (x.number == r)) where
      number_kept : (x : RecordedRound) (b : Bool) → (cond b
          (with_channel x from (record (channel_at x from) { is_closed = true })) x).number
          ≡ x.number
      number_kept x true = refl
      number_kept x false = refl

latest-round : (floor n r : ℕ) (rounds : List RecordedRound) → (latest floor rounds ≤ latest floor
    (with_round rounds n r)) × (r ≤ latest floor (with_round rounds n r))
latest-round floor n r [] = (omega arith, omega arith)
latest-round floor n r (x ∷ xs) =
    let (a, b) = latest-round floor n r xs in (omega (arith, a), omega (arith, b))

either_true : (a b : Bool) → (a || b) ≡ true → (a ≡ true) ⊎ (b ≡ true)
either_true true b e = inl refl
either_true false b e = inr e

-- an event keeps what is recorded as the tape has it
pub recorded_next : (n me floor : ℕ) (tape : List Event) (rounds : List RecordedRound) (e : Event)
    → IsRecorded n floor tape rounds → MayCome n me tape e
    → IsRecorded n floor (tape ++ e ∷ []) (rounds_by n floor rounds e)
recorded_next n me floor tape rounds (Send to inc body) h may = record {
  each = all_kept (IsRoundOn n tape) (IsRoundOn n (tape ++ Send to inc body ∷ [])) rounds
      (λ x. round-kept n tape x (Send to inc body) (λ p. refl) refl) h.each;
  within = λ r t. h.within r (sym (same_checked r tape (Send to inc body) refl) ∙ t);
}
recorded_next n me floor tape rounds (Recv m) h may = record {
  each = all_more (IsRoundOn n tape) (IsRoundOn n (tape ++ Recv m ∷ [])) _ rounds
      (λ x. round-noted n tape x m may.0) h.each;
  within = λ r t. subst (λ v. r ≤ v) (sym (latest-noted floor rounds m))
      (h.within r (sym (same_checked r tape (Recv m) refl) ∙ t));
}
recorded_next n me floor tape rounds (Check state None) h may = record {
  each = all_kept (IsRoundOn n tape) (IsRoundOn n (tape ++ Check state None ∷ [])) rounds
      (λ x. round-kept n tape x (Check state None) (λ p. refl) refl) h.each;
  within = λ r t. h.within r (sym (same_checked r tape (Check state None) refl) ∙ t);
}
recorded_next n me floor tape rounds (Check state (Some s)) h may =
    let e : Event = Check state (Some s) in
    let kept = all_kept (IsRoundOn n tape) (IsRoundOn n (tape ++ e ∷ [])) rounds
    (λ x. round-kept n tape x e (λ p. refl) refl) h.each in
    let one : RecordedRound = record { number = s; channels = replicate n open_channel } in
    let (more, reached) = latest-round floor n s rounds in
    elim (nat_lt (latest floor rounds) s) as (λ b. nat_lt (latest floor rounds) s ≡ b
    → IsRecorded n floor (tape ++ e ∷ []) (cond b (with_round rounds n s) rounds)) [
      | true ↦ λ new. record {
        each = All-append (IsRoundOn n (tape ++ e ∷ [])) rounds (one ∷ []) kept
            (All-cons (IsRoundOn n (tape ++ e ∷ [])) one [] (round-opened n tape state s may)
            (All-nil (IsRoundOn n (tape ++ e ∷ []))));
        within = λ r t. elim (either_true (has_check_of r tape) (is_check_of r e)
            (sym (has_check_push tape e r) ∙ t)) [
              | inl old ↦ (let w = h.within r old in omega (arith, w, more))
              | inr this ↦ (let w = eqb-true s r this in omega (arith, w, reached))
            ];
      }
      | false ↦ λ old_one. record {
        each = kept;
        within = λ r t. elim (either_true (has_check_of r tape) (is_check_of r e)
            (sym (has_check_push tape e r) ∙ t)) [
              | inl old ↦ h.within r old
              | inr this ↦ (let w = eqb-true s r this in let l = ltb-false
                  (latest floor rounds) s old_one in omega (arith, w, l))
            ];
      }
    ] refl
recorded_next n me floor tape rounds (Mark from s) h may = record {
  each = all_more (IsRoundOn n tape) (IsRoundOn n (tape ++ Mark from s ∷ [])) _ rounds
      (λ x. round-heard n tape x from s may.0) h.each;
  within = λ r t. subst (λ v. r ≤ v) (sym (latest-marked floor rounds from s))
      (h.within r (sym (same_checked r tape (Mark from s) refl) ∙ t));
}

-- of a round that is recorded the tape has the check
pub found_checked : (n : ℕ) (tape : List Event) (rounds : List RecordedRound) (r : ℕ)
    (round : RecordedRound) → All (IsRoundOn n tape) rounds → round_of rounds r ≡ Some round
    → has_check_of r tape ≡ true
found_checked n tape [] r round h e = cc e
found_checked n tape (x ∷ xs) r round h e = elim (cases_eq x.number r) [
  | inl same ↦ subst (λ v. has_check_of v tape ≡ true) same
      (All-head (IsRoundOn n tape) x xs h).checked
  | inr other ↦ found_checked n tape xs r round (All-tail (IsRoundOn n tape) x xs h)
      (ap (λ b. cond b (Some x) (round_of xs r)) (sym (ne_eqb x.number r other)) ∙ e)
]
