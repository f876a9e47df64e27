-- A message that was sent is the only one of its sender and its number.
use Rattle.std.proofs.Common.{◌≡◌, ◌+◌, ◌-◌, ◌<◌, ℕ, List, Bool, true, false, get_or, length, set}
use Rattle.std.proofs.Common.{sym, ap, ◌∙◌, subst, arith}
use Rattle.std.proofs.lemmas.List.{get_or-set_same}
use Rattle.line_names.specs.declared.messages.MsgName.{MsgName}
use Rattle.line_tape.specs.Fit.{IsSentTo}
use Rattle.line_tape.specs.History.{Process}
use Rattle.line_catalogue.specs.Known.{IsReceived}
use Rattle.line_catalogue.specs.Left.{start_at}
use Rattle.line_catalogue.proofs.KnownLemmas.{known-mark, marked-more, received-by}
use Rattle.line_catalogue.proofs.known.mark_send.Goals as goal

pub returns-then-is_sent_to-clause-known : goal.returns-then-is_sent_to-clause-known
returns-then-is_sent_to-clause-known c = λ line received known.
    let history : List Process = c.args.history.now.processes in
    let m : MsgName = c.args.message.now in
    let bases : List ℕ = c.args.bases.now in
    let starts : List ℕ = c.args.starts.now in
    let marks : List Bool = c.args.marks.now in
    let p : ℕ = c.get-p.result in
    let k : ℕ = m.number - start_at bases p in
    let from : m.from ≡ p = sym c.get-p.ensures.value in
    let sent : IsSentTo history c.args.q m = c.is_sent_to.ensures.0 c.if-is_sent_to.true in
    let here : IsReceived history line p (start_at bases p + k) = subst
    (λ j. IsReceived history line j (start_at bases p + k)) from (received-by history line
    c.args.q m (start_at bases p + k) (omega (arith, c.if-base-message.true)) sent received) in
    known-mark history line bases starts marks p k c.requires.rows
    (omega (arith, from, c.requires.sender)) (omega (arith, c.if-k-starts.true)) here known

pub returns-then-is_sent_to-clause-kept : goal.returns-then-is_sent_to-clause-kept
returns-then-is_sent_to-clause-kept c = λ i marked.
    let bases : List ℕ = c.args.bases.now in
    let p : ℕ = c.get-p.result in
    marked-more c.args.marks.now
    (start_at c.args.starts.now p + (c.args.message.now.number - start_at bases p)) i marked

pub returns-then-is_sent_to-clause-noted : goal.returns-then-is_sent_to-clause-noted
returns-then-is_sent_to-clause-noted c = λ j x is sent number within.
    let m : MsgName = c.args.message.now in
    let bases : List ℕ = c.args.bases.now in
    let starts : List ℕ = c.args.starts.now in
    let marks : List Bool = c.args.marks.now in
    let p : ℕ = c.get-p.result in
    let at : ℕ = start_at starts p + (m.number - start_at bases p) in
    let same : m ≡ x = cc is in
    let from : x.from ≡ p = ap (λ (v : MsgName). v.from) (sym same) ∙ sym c.get-p.ensures.value in
    let place : start_at starts x.from + j ≡ at = omega (
      arith,
      number,
      c.if-base-message.true,
      ap
          (λ (v : MsgName). v.number) same,
      ap (start_at bases) from,
      ap (start_at starts) from,
    ) in
    let low : at < length marks = omega
    (arith, sym place, within, c.requires.rows.within (x.from + 1)) in
    ap (λ (i : ℕ). get_or (set marks at true) i false) place ∙ get_or-set_same marks at true false
    low
