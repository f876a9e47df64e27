-- The three parts of the plan.
use Rattle.std.proofs.Common.{refl}
use Rattle.std.proofs.lemmas.List.Elements.{All-weaker}
use Rattle.line_names.specs.Lines.{choice_at}
use Rattle.line_cuts.specs.Numbers.{IsNumbered, IsNumberedEntry}
use Rattle.line_live.specs.Numbers.{IsFewEntry, IsFewName}
use Rattle.line_live.proofs.FewNumbers.{choice_numbered, entry_numbered, name_numbered}
use Rattle.line_live.proofs.whole_names.bring_plan.Goals as goal

pub bring_line-requires : goal.bring_line-requires
bring_line-requires c = λ p within.
    choice_numbered c.args.floor.now c.requires.numbers p (choice_at c.args.plan.now.line p)
    (c.requires.few.line p)

pub bring_entries-requires : goal.bring_entries-requires
bring_entries-requires c =
    All-weaker IsFewEntry (IsNumberedEntry c.args.floor.now)
    (entry_numbered c.args.floor.now c.requires.numbers) c.args.plan.now.certificate.items
    c.requires.few.certificate

pub bring_names-requires : goal.bring_names-requires
bring_names-requires c =
    All-weaker IsFewName (IsNumbered c.args.floor.now)
    (name_numbered c.args.floor.now c.requires.numbers) c.args.plan.now.replays.items
    c.requires.few.replays

pub returns : goal.returns
returns c = rw c.bring_line.ensures (rw c.bring_entries.ensures (rw c.bring_names.ensures refl))
