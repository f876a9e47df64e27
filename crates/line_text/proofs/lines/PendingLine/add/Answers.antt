use Rattle.std.proofs.Common.{◌≡◌, ◌<◌, ◌≤◌, ◌+◌, ℕ, List, length, sym, ap, ◌∙◌, arith}
use Rattle.line_text.specs.Lines.{Dropped, Kept, Pending, pending_after}
use Rattle.line_text.proofs.LineLemmas.{gets_dropped, kept_dropped, kept_whole}
use Rattle.line_text.proofs.LineLemmas.{stays_dropped, stays_kept}
use Rattle.line_text.proofs.lines.PendingLine.add.Goals as goal

pub returns-then-self : goal.returns-then-self
returns-then-self c =
    let is : c.args.self.now ≡ Dropped = sym c.self.view_is ∙ kept_dropped c.self.inside.bytes.items
    c.self.inside.dropped c.if-self.true in
    is ∙ sym (ap (λ (p : Pending). pending_after p c.args.bytes.now) is ∙ stays_dropped
    c.args.bytes.now c.requires)

pub returns-then-bytes-len : goal.returns-then-bytes-len
returns-then-bytes-len c =
    let own : List ℕ = c.self.inside.bytes.items in
    let is : c.args.self.now
    ≡ Kept own = sym c.self.view_is ∙ kept_whole own c.self.inside.dropped c.if-self.false in
    let short : length own ≤ 65536 = omega (arith, c.self.inside.bytes.ok.0, c.self.invariant.0) in
    let long : 65536 < length own + length c.args.bytes.now = omega
    (arith, c.if-bytes-len.true, c.len.ensures, c.self.inside.bytes.ok.0, c.self.invariant.0) in
    sym (ap (λ (p : Pending). pending_after p c.args.bytes.now) is ∙ gets_dropped own
    c.args.bytes.now c.requires short long)

pub returns : goal.returns
returns c =
    let own : List ℕ = c.self.inside.bytes.items in
    let is : c.args.self.now
    ≡ Kept own = sym c.self.view_is ∙ kept_whole own c.self.inside.dropped c.if-self.false in
    let fits : length own + length c.args.bytes.now ≤ 65536 = omega (
      arith,
      c.if-bytes-len.false,
      c.len.ensures,
      c.self.inside.bytes.ok.0,
      c.self.invariant.0,
    ) in
    kept_whole c.extend_from_slice.new.self.items c.self.inside.dropped c.if-self.false ∙ ap Kept
    c.in-Ok.ensures.items
    ∙ sym (ap (λ (p : Pending). pending_after p c.args.bytes.now) is ∙ stays_kept own
    c.args.bytes.now c.requires fits)
