-- Back along the chain, past greater numbers alone.
use Rattle.std.proofs.Common.{◌≡◌, ◌≢◌, ◌<◌, ◌≤◌, ◌-◌, ℕ, suc, List, length, arith, ap, sym, ◌∙◌}
use Rattle.line_tape.specs.declared.receipts.chains.Receipt.{Receipt}
use Rattle.line_tape.specs.Noted.{IsAhead, name_at}
use Rattle.line_tape.proofs.AheadLemmas.{back_le, back_wide, from_of, number_of}
use Rattle.line_tape.proofs.receipts.chains.find_ahead.Goals as goal

pub bounds-receipts-link : goal.bounds-receipts-link
bounds-receipts-link c =
    let some : c.loop-link.link ≡ suc (c.loop-link.link - 1) = omega arith in
    (c.loop-link.invariant.back.each (c.loop-link.link - 1) some).0

pub loop-link-smaller : goal.loop-link-smaller
loop-link-smaller c =
    let l : c.back_from-link.result ≤ c.loop-link.link - 1 = back_le c.args.receipts.now
    (c.loop-link.link - 1) _ c.back_from-link.result c.back_from-link.ensures.back in
    omega arith

pub loop-link-preserved : goal.loop-link-preserved
loop-link-preserved c =
    let rs : List Receipt = c.args.receipts.now in
    let k : ℕ = c.loop-link.link - 1 in
    let some : c.loop-link.link ≡ suc k = omega arith in
    let here : (k < length rs) × IsAhead rs k × (from_of (name_at rs k) ≡ c.args.wanted.now.from) =
    c.loop-link.invariant.back.each k some in
    let low : k < length rs = here.0 in
    let greater : c.args.wanted.now.number < number_of (name_at rs k) = omega arith in record {
      back = back_wide rs k (length rs) (from_of (name_at rs k)) c.args.wanted.now.from
          c.back_from-link.result (omega arith) here.2 c.back_from-link.ensures.back;
      each = λ i l a from number.
          let early : i < c.loop-link.link = c.loop-link.invariant.each i l a from number in
          let ne : i ≢ k = λ is.
          let e : number_of (name_at rs i)
          ≡ number_of (name_at rs k) = ap (λ x. number_of (name_at rs x)) is in
          let f : number_of (name_at rs i) ≡ c.args.wanted.now.number = number in
          omega arith in
          c.back_from-link.ensures.passed greater i (omega arith) a (from ∙ sym here.2) number;
    }
