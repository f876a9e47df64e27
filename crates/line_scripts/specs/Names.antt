-- The names of commands, which the first fields of records spell.
use Rattle.std.specs.Prelude.{ℕ, List, codes}
use Rattle.line_scripts.specs.declared.names.Name.{Name}
use Rattle.line_scripts.specs.declared.names.Name.TheVariants as names

-- the text of a name
abbrev pub name_text : Name → List ℕ
name_text names.Send = codes "send"
name_text names.Deliver = codes "deliver"
name_text names.Check = codes "check"
name_text names.Begin = codes "begin"
name_text names.Turn = codes "turn"
name_text names.Damage = codes "damage"
name_text names.Bar = codes "bar"
name_text names.Recover = codes "recover"
name_text names.Rounds = codes "rounds"
name_text names.History = codes "history"
name_text names.Bundle = codes "bundle"
name_text names.Plan = codes "plan"
name_text names.Live = codes "live"
name_text names.Answer = codes "answer"
name_text names.Forget = codes "forget"
name_text names.Save = codes "save"
