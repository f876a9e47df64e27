-- The rounds in which the channel from a process is known to be closed.
use Rattle.std.proofs.Common.{◌≡◌, ℕ, zero, suc, ◌<◌, true, Bool, List, [], ◌∷◌, ◌++◌, length, map}
use Rattle.std.proofs.Common.{get_or, set, sym, ap, ◌∙◌, refl, subst, arith, inl, inr}
use Rattle.std.specs.Prelude.{if◌then◌else◌}
use Rattle.std.proofs.lemmas.List.{set-get_or, length-set, get_or-set_other}
use Rattle.std.proofs.lemmas.Grind.{get_or-set_at}
use Rattle.std.proofs.lemmas.Bool.{cases_eq}
use Rattle.line_names.specs.declared.messages.MsgName.{MsgName}
use Rattle.line_rounds.specs.declared.spans.Span.{Span}
use Rattle.line_rounds.specs.declared.spans.Span.TheVariants.{Open, Closed}
use Rattle.line_rounds.specs.Recording.{RecordedRound, Channel, open_channel, channel_at}
use Rattle.line_rounds.specs.Recording.{with_channel, rounds_with_message, with_message}
use Rattle.line_rounds.specs.Spans.{RoundView, recorded_of, channel_in_span, closed_span, is_over}
use Rattle.line_rounds.specs.Spans.{AllWithin, AreOver, ArePassed}
use Rattle.line_rounds.proofs.SpanLemmas.{channels_of-at}
use Rattle.line_rounds.proofs.KeptLemmas.{is_over-closed}

-- a round more is recorded
pub AreOver-push : (p k : ℕ) (rounds : List RoundView) (new : RoundView) → AreOver p k rounds
    → AreOver p k (rounds ++ new ∷ [])
AreOver-push p zero rounds new h = tt
AreOver-push p (suc k) [] new h = absurd h
AreOver-push p (suc k) (round ∷ rounds) new h = (h.0, AreOver-push p k rounds new h.1)

pub ArePassed-push : (passed : List ℕ) (n : ℕ) (rounds : List RoundView) (new : RoundView)
    → ArePassed passed n rounds → ArePassed passed n (rounds ++ new ∷ [])
ArePassed-push passed n rounds new h = record {
  count = h.count;
  each = λ p below. AreOver-push p
      (get_or passed p 0) rounds new (h.each p below);
}

-- one channel is closed, and the others stay
over-closed : (end : ℕ) (span : Span) → is_over (closed_span end span) ≡ true
over-closed end (Open start) = refl
over-closed end (Closed start before) = refl

over-set : (spans : List Span) (q p end : ℕ) (span : Span) → is_over (get_or spans p (Open 0))
    ≡ true → is_over (get_or (set spans q (closed_span end span)) p (Open 0)) ≡ true
over-set [] q p end span h = h
over-set (x ∷ spans) zero zero end span h = over-closed end span
over-set (x ∷ spans) zero (suc p) end span h = h
over-set (x ∷ spans) (suc q) zero end span h = h
over-set (x ∷ spans) (suc q) (suc p) end span h = over-set spans q p end span h

pub AreOver-set : (p k : ℕ) (rounds : List RoundView) (i q end : ℕ) (old new : RoundView)
    (span : Span) → AreOver p k rounds → old ≡ get_or rounds i old
    → new.spans ≡ set old.spans q (closed_span end span)
    → AreOver p k (set rounds i new)
AreOver-set p zero rounds i q end old new span h at written = tt
AreOver-set p (suc k) [] i q end old new span h at written = absurd h
AreOver-set p (suc k) (round ∷ rounds) zero q end old new span h at written = (
  ap (λ (ss : List Span). is_over (get_or ss p (Open 0))) (written ∙ ap (λ (r : RoundView). set
      r.spans q (closed_span end span)) at) ∙ over-set round.spans q p end span h.0,
  h.1,
)
AreOver-set p (suc k) (round ∷ rounds) (suc i) q end old new span h at written =
    (h.0, AreOver-set p k rounds i q end old new span h.1 at written)

-- a channel is closed in a round, and more is known of that channel
pub ArePassed-close : (passed : List ℕ) (n : ℕ) (rounds : List RoundView) (i q end k : ℕ)
    (old new : RoundView) (span : Span) → ArePassed passed n rounds → old ≡ get_or rounds i old
    → new.spans ≡ set old.spans q (closed_span end span)
    → AreOver q k (set rounds i new) → ArePassed (set passed q k) n (set rounds i new)
ArePassed-close passed n rounds i q end k old new span h at written over = record {
  count = length-set passed q k ∙ h.count;
  each = λ p below. elim (cases_eq p q) [
    | inl e ↦ let within : q < length passed = omega (arith, h.count) in
        subst (λ (m : ℕ). AreOver p m (set rounds i new)) (sym (get_or-set_at passed q p k 0 e
        within)) (subst (λ (x : ℕ). AreOver x k (set rounds i new)) (sym e) over)
    | inr ne ↦ subst (λ (m : ℕ). AreOver p m (set rounds i new))
        (sym (get_or-set_other passed q p k 0 ne))
        (AreOver-set p (get_or passed p 0) rounds i q end old new span (h.each p below) at written)
  ];
}

-- the channel is closed in one more
pub AreOver-more : (p k : ℕ) (rounds : List RoundView) (d : RoundView) → AreOver p k rounds
    → k < length rounds → is_over (get_or (get_or rounds k d).spans p (Open 0)) ≡ true
    → AreOver p (suc k) rounds
AreOver-more p zero [] d h below is = absurd (omega arith)
AreOver-more p zero (round ∷ rounds) d h below is = (is, tt)
AreOver-more p (suc k) [] d h below is = absurd h
AreOver-more p (suc k) (round ∷ rounds) d h below is =
    (h.0, AreOver-more p k rounds d h.1 (omega arith) is)

-- where it is closed in all, a message changes nothing
pub noted-over : (logs : List (List MsgName)) (rounds : List RoundView) (message : MsgName) →
    AllWithin logs rounds → message.from < length logs → AreOver message.from (length rounds) rounds
    → rounds_with_message (map (recorded_of logs) rounds) message ≡ map (recorded_of logs) rounds
noted-over logs [] message h below over = refl
noted-over logs (round ∷ rounds) message h below over =
    let p : ℕ = message.from in
    let r : RecordedRound = recorded_of logs round in
    let ch : Channel = channel_at r p in
    let found : ch ≡ channel_in_span (get_or logs p []) (get_or round.spans p (Open 0)) =
    channels_of-at logs round.spans p (Open 0) open_channel h.0 below in
    let shut : ch.is_closed ≡ true = ap (λ (c : Channel). c.is_closed) found ∙ is_over-closed
    (get_or logs p []) (get_or round.spans p (Open 0)) ∙ over.0 in
    let more : Channel = record ch { messages = ch.messages ++ message ∷ [] } in
    let same : with_message ch message ≡ ch = ap (λ (b : Bool). if b then ch else more) shut in
    let stays : with_channel r p (with_message ch message) ≡ r =
    ap (λ (c : Channel). with_channel r p c) same ∙ ap
    (λ (cs : List Channel). let s : RecordedRound = record
    { number = round.number; channels = cs } in s) (set-get_or r.channels p open_channel) in
    ap (λ (s : RecordedRound). s ∷ rounds_with_message (map (recorded_of logs) rounds) message)
    stays ∙ ap (λ (rs : List RecordedRound). r ∷ rs)
    (noted-over logs rounds message h.1 below over.1)
