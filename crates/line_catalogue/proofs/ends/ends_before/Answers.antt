-- One end more.
use Rattle.std.proofs.Common.{◌≡◌, ◌≤◌, ◌+◌, ◌++◌, ◌∷◌, [], ℕ, List, length, sym, ap, ◌∙◌, subst}
use Rattle.std.proofs.Common.{arith, inl, inr}
use Rattle.std.proofs.lemmas.Bool.{cases_lt}
use Rattle.std.proofs.lemmas.List.{get_or_append_left, get_or_push, length-append}
use Rattle.line_names.specs.declared.choices.Choice.{Choice}
use Rattle.line_tape.specs.declared.events.Event.{Event}
use Rattle.line_tape.specs.Event.{sends}
use Rattle.line_tape.specs.Front.{front}
use Rattle.line_tape.specs.History.{Process, tape_at}
use Rattle.line_tape.specs.Line.{events_before}
use Rattle.line_catalogue.specs.Left.{start_at}
use Rattle.line_catalogue.proofs.LeftLemmas.{ends-more, sender-before}
use Rattle.line_catalogue.proofs.ends.ends_before.Goals as goal

pub loop-q-preserved : goal.loop-q-preserved
loop-q-preserved c =
    let history : List Process = c.args.history.now.processes in
    let line : List Choice = c.args.line.now in
    let q : ℕ = c.loop-q.q in
    let ends : List ℕ = c.loop-q.ends.items in
    let end : ℕ = c.min.result in
    let at : c.unwrap-p.result ≡ q = (rw c.unwrap-p.ensures at c.try_new.ensures).1 in
    let fronts : front c.tape.result.now.events c.at.result ≡ events_before history line q =
    ap (λ (t : List Event). front t c.at.result) c.tape.ensures.events ∙ ap (front
    (tape_at history c.unwrap-p.result)) c.at.ensures ∙ ap (events_before history line) at
    in
    let sent : c.sends_before-sends.result ≡ sends (events_before history line q) =
    c.sends_before-sends.ensures ∙ ap (λ (es : List Event). sends es) fronts in
    let next : length ends ≡ q = c.loop-q.invariant.count in
    let starts : List ℕ = c.args.starts.now in
    let started : end ≤ start_at starts (length ends) = subst (λ (k : ℕ). end ≤ start_at starts k)
    (sym next) (omega (arith, c.min.ensures)) in
    let before : end ≤ sends (events_before history line (length ends)) = subst (λ (k : ℕ). end ≤
    sends (events_before history line k)) (sym next) (omega (arith, c.min.ensures, sent)) in
    let new : c.push_reserved.new.self.items ≡ ends ++ end ∷ [] = c.push_reserved.ensures.items in
    record {
      count = ap (λ (xs : List ℕ). length xs) new ∙ length-append ends (end ∷ []) ∙ ap
          (λ (k : ℕ). k + 1) next;
      len = omega (arith, c.push_reserved.ensures.len, c.loop-q.invariant.len);
      room = omega (arith, c.push_reserved.ensures.capacity, c.loop-q.invariant.room);
      started = λ p. subst (λ (xs : List ℕ). start_at xs p ≤ start_at starts p) (sym new)
          (ends-more (start_at starts) ends end c.loop-q.invariant.started started p);
      since = λ p number up within low. elim (cases_lt p q) [
        | inl earlier ↦
            let old : start_at c.push_reserved.new.self.items p
            ≡ start_at ends p = ap (λ (xs : List ℕ). start_at xs p) new ∙ get_or_append_left
            ends (end ∷ []) 0 p (omega (arith, earlier, next)) in
            c.loop-q.invariant.since p number (omega (arith, up, old)) earlier low
        | inr here ↦
            let same : q ≡ p = omega (arith, within, here) in
            let last : start_at c.push_reserved.new.self.items p ≡ end = ap
            (λ (xs : List ℕ). start_at xs p) new ∙ get_or_push ends end 0 p (next ∙ same) in
            omega (
              arith,
              up,
              last,
              low,
              c.min.ensures,
              sent,
              ap
                  (λ (k : ℕ). sends (events_before history line k)) same,
              ap (start_at starts) same,
            )
      ];
      before = λ p. subst (λ (xs : List ℕ). start_at xs p ≤ sends (events_before history line p))
          (sym new) (ends-more (λ (k : ℕ). sends (events_before history line k)) ends end
          c.loop-q.invariant.before before p);
    }

pub returns : goal.returns
returns c =
    let history : List Process = c.args.history.now.processes in
    let all : c.loop-q.q ≡ length history = omega (arith, c.n-n.ensures.value) in
    record {
      count = c.loop-q.invariant.count ∙ all;
      started = c.loop-q.invariant.started;
      before = c.loop-q.invariant.before;
      since = λ p number up low. c.loop-q.invariant.since p number up
          (omega (arith, sender-before history c.args.line.now p number low, all)) low;
    }
