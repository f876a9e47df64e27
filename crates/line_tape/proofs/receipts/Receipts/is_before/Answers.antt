-- The first receipt of the message is among the first ones where any is.
use Rattle.std.proofs.Common.{◌≡◌, ◌≢◌, ◌≤◌, ◌↔◌, List, map, not, take, sym, ap, ◌∙◌}
use Rattle.std.specs.List.{Contains}
use Rattle.std.proofs.lemmas.Bool.{eq-eqb, false≢true, le-leb, leb-true}
use Rattle.line_tape.specs.declared.receipts.chains.Receipt.{Receipt}
use Rattle.line_tape.specs.Noted.{ReceiptsView, name_of_receipt}
use Rattle.line_tape.proofs.FirstLemmas.{first_within_names}
use Rattle.line_tape.proofs.receipts.Receipts.is_before.Goals as goal

pub returns-then-first-ne0 : goal.returns-then-first-ne0
returns-then-first-ne0 c =
    let told : map name_of_receipt c.as_slice-receipts.result.now
    ≡ c.args.self.now.names = ap (λ (xs : List Receipt). map name_of_receipt xs)
    c.as_slice-receipts.ensures.value ∙ ap (λ (r : ReceiptsView). r.names) c.self.view_is in
    let within : ((c.find-first.result ≢ 0) × (c.find-first.result ≤ c.args.end))
    ↔ Contains (take c.args.end c.args.self.now.names) c.args.message.now = first_within_names
    c.as_slice-receipts.result.now
    (name_of_receipt c.of-wanted.result) c.args.message.now c.args.self.now.names c.args.end
    c.find-first.result told c.of-wanted.ensures.message c.find-first.ensures.found
    c.find-first.ensures.none in (
      λ h. within.0 (c.if-first-ne0.true, leb-true c.find-first.result c.args.end h),
      λ k. le-leb
          c.find-first.result c.args.end (within.1 k).1,
    )

pub returns-else-first-ne0 : goal.returns-else-first-ne0
returns-else-first-ne0 c =
    let told : map name_of_receipt c.as_slice-receipts.result.now
    ≡ c.args.self.now.names = ap (λ (xs : List Receipt). map name_of_receipt xs)
    c.as_slice-receipts.ensures.value ∙ ap (λ (r : ReceiptsView). r.names) c.self.view_is in
    let within : ((c.find-first.result ≢ 0) × (c.find-first.result ≤ c.args.end))
    ↔ Contains (take c.args.end c.args.self.now.names) c.args.message.now = first_within_names
    c.as_slice-receipts.result.now
    (name_of_receipt c.of-wanted.result) c.args.message.now c.args.self.now.names c.args.end
    c.find-first.result told c.of-wanted.ensures.message c.find-first.ensures.found
    c.find-first.ensures.none in (
      λ h. absurd (false≢true (sym (ap (λ b. not b) (eq-eqb c.find-first.result 0
          c.if-first-ne0.false)) ∙ h)),
      λ k. absurd ((within.1 k).0 c.if-first-ne0.false),
    )
