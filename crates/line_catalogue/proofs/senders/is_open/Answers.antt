-- The mark tells it, or the tape of the process that it was sent to.
use Rattle.std.proofs.Common.{◌≡◌, ◌-◌, ℕ, List, Bool, false, not, Some, get_or, sym, ap}
use Rattle.std.proofs.Common.{◌∙◌, arith, inl, inr}
use Rattle.std.specs.List.{slice_get}
use Rattle.std.proofs.lemmas.Bool.{cases_lt}
use Rattle.std.proofs.lemmas.Option.{get_or_from_slice_get, same_Some, slice_get_within}
use Rattle.line_names.specs.declared.messages.MsgName.{MsgName}
use Rattle.line_tape.specs.Line.{events_before}
use Rattle.line_tape.specs.Transit.{has_received}
use Rattle.line_catalogue.proofs.senders.is_open.Goals as goal

pub returns-then-sender : goal.returns-then-sender
returns-then-sender c = λ q sent. ap not (sym (c.requires.quiet c.if-sender.true q
    c.args.message.now c.requires.kept c.requires.own c.if-message-base.true sent))

pub returns-in-Some : goal.returns-in-Some
returns-in-Some c = λ q sent.
    let m : MsgName = c.args.message.now in
    let marks : List Bool = c.args.sender.now.marks.now in
    let base : ℕ = c.args.sender.now.base in
    let mark : Bool = c.in-Some.mark in
    elim (cases_lt m.number base) [
      | inl before ↦ absurd (cc (c.in-Some.is, c.mark_of.ensures.before before))
      | inr since ↦
          let at : slice_get marks (m.number - base)
          ≡ Some mark = sym (c.mark_of.ensures.since (omega (arith, since))) ∙ c.in-Some.is in
          let told : has_received (events_before c.args.history.now.processes c.args.line.now q) m
          ≡ get_or marks (m.number - base) false = c.requires.told q (m.number - base) m
          c.requires.kept c.requires.own (omega (arith, since))
          (slice_get_within marks (m.number - base) mark at) sent in
          ap not (sym (told ∙ get_or_from_slice_get marks (m.number - base) mark false at))
    ]

pub returns-in-Some-addressee : goal.returns-in-Some-addressee
returns-in-Some-addressee c = λ q sent.
    let m : MsgName = c.args.message.now in
    let same : c.in-Some-addressee.q
    ≡ q = same_Some _ _ (sym c.in-Some-addressee.is ∙ c.addressee.ensures ∙ sent.to_is) in
    ap not (c.is_received.ensures ∙ ap (λ (j : ℕ). has_received
    (events_before c.args.history.now.processes c.args.line.now j) m) same)

pub returns-in-None-addressee : goal.returns-in-None-addressee
returns-in-None-addressee c =
    λ q sent. absurd (cc (c.in-None-addressee.is, c.addressee.ensures, sent.to_is))
