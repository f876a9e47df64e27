use Rattle.std.proofs.Common.{◌≡◌, ◌<◌, ◌≤◌, ◌+◌, ◌++◌, [], ℕ, List, drop, ap, sym, ◌∙◌, arith}
use Rattle.std.specs.Prelude.{if◌then◌else◌, map}
use Rattle.std.specs.List.{flat_map, range_with_len}
use Rattle.std.proofs.lemmas.Bool.{eq-eqb, ne_eqb}
use Rattle.line_devices.proofs.OutputLemmas.{out_all, out_front, out_left, out_more, out_none}
use Rattle.line_fields.specs.Records.{Record}
use Rattle.line_fields.specs.Texts.{records_text}
use Rattle.line_fields.proofs.OutletLemmas.{next_number, no_number}
use Rattle.line_cuts.specs.Cuts.{Floor}
use Rattle.line_moves.specs.Listed.{ListedRound, channel_in}
use Rattle.line_text.specs.Rounds.{channel_record, channel_records}
use Rattle.line_text.proofs.listings.put_channels_from.Goals.{then-value-get+in_ok-put_messages}
use Rattle.line_text.proofs.listings.put_channels_from.Goals.{else-value-get}
use Rattle.line_text.proofs.listings.put_channels_from.Goals as goal

-- the records of a channel
channel_of : (floor : Floor) (round : ListedRound) (p q : ℕ) → (q ≡ p → ⊥) → channel_records floor
    round p q ≡ map (channel_record floor round.number p q) (channel_in round p q)
channel_of floor round p q apart = ap (λ b. if b then [] else map (channel_record floor round.number
    p q) (channel_in round p q)) (ne_eqb p q (λ same. apart (sym same)))

no_channel : (floor : Floor) (round : ListedRound) (p q : ℕ) → q ≡ p
    → channel_records floor round p q ≡ []
no_channel floor round p q same = ap (λ b. if b then []
    else map (channel_record floor round.number p q) (channel_in round p q)) (eq-eqb p q (sym same))

-- what is left, where the next channel has these records
left_as : (floor : Floor) (n : ℕ) (round : ListedRound) (p q : ℕ) (own : List Record)
    → channel_records floor round p q ≡ own → q < n
    → records_text (flat_map (channel_records floor round p) (drop q (range_with_len 0 n)))
    ≡ records_text own ++ records_text
    (flat_map (channel_records floor round p) (drop (q + 1) (range_with_len 0 n)))
left_as floor n round p q own same lt =
    next_number (channel_records floor round p) n q lt ∙ ap
    (λ (rs : List Record). records_text rs ++ records_text
    (flat_map (channel_records floor round p) (drop (q + 1) (range_with_len 0 n)))) same

pub loop-value-init : goal.loop-value-init
loop-value-init g c = out_none _ _ _ _

pub loop-value-preserved : goal.loop-value-preserved
loop-value-preserved g c =
    let lt : c.loop-value.value < c.args.n = omega arith in
    elim c.if-value-get.branch [
      | then-value-get+in_ok-put_messages w ↦
          let own = channel_of c.args.floor.now c.args.round.now c.args.from c.loop-value.value
          (λ same. w.if-value-get.true (same ∙ sym c.get.ensures.value)) in
          let next = left_as c.args.floor.now c.args.n c.args.round.now c.args.from
          c.loop-value.value _ own lt in
          rw (w.writer-is, w.sink-is)
          (out_more _ _ next c.loop-value.invariant (rw (
            c.number-number.ensures,
            w.channel-messages.ensures,
            c.in-Ok.ensures.1,
          ) at w.in_ok-put_messages.ensures))
      | else-value-get w ↦
          let own = no_channel c.args.floor.now c.args.round.now c.args.from c.loop-value.value
          (w.if-value-get.false ∙ c.get.ensures.value) in
          rw (w.writer-is, w.sink-is) (out_left _ _ _ _ _ _ _ _ _ (left_as c.args.floor.now c.args.n
          c.args.round.now c.args.from c.loop-value.value [] own lt) c.loop-value.invariant)
    ]

pub returns-in_err-put_messages : goal.returns-in_err-put_messages
returns-in_err-put_messages g c =
    let lt : c.loop-value.value < c.args.n = omega arith in
    let own = channel_of c.args.floor.now c.args.round.now c.args.from c.loop-value.value
    (λ same. c.if-value-get.true (same ∙ sym c.get.ensures.value)) in
    let next = left_as c.args.floor.now c.args.n c.args.round.now c.args.from c.loop-value.value _
    own lt in
    out_front _ _ _ _ _ next c.loop-value.invariant
    (rw (c.number-number.ensures, c.channel-messages.ensures, c.in-Ok.ensures.1) at
    c.in_err-put_messages.ensures) c.from_residual.ensures.1

pub returns : goal.returns
returns g c =
    let le : c.args.n ≤ c.loop-value.value = omega arith in
    out_all tt (no_number (channel_records c.args.floor.now c.args.round.now c.args.from) c.args.n
    c.loop-value.value le) c.loop-value.invariant
