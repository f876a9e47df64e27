use Rattle.std.proofs.Common.{◌∙◌, [], List, Ok, ap, inr, sym}
use Rattle.line_scripts.specs.declared.beginnings.Beginning.{Beginning}
use Rattle.line_scripts.specs.declared.commands.Command.{Command}
use Rattle.line_scripts.specs.Beginnings.{taken_of}
use Rattle.line_scripts.specs.Pieces.{ScriptPlace, script_text_left}
use Rattle.line_scripts.specs.Reads.{machine_view}
use Rattle.line_scripts.specs.RunScripts.{script_of_machine}
use Rattle.line_scripts.proofs.ScriptPlaceLemmas.{told_fault, told_nothing, told_open, told_script}
use Rattle.line_scripts.proofs.pieces.ScriptReader.into_script.Goals as goal

pub returns-in-Some-clause-exact : goal.returns-in-Some-clause-exact
returns-in-Some-clause-exact c =
    let old : ScriptPlace = record {
      taken = taken_of c.self.inside.beginning
          c.self.inside.commands;
      fault = c.self.inside.fault;
    } in
    let seen = ap (λ (p : ScriptPlace). script_text_left p []) (sym c.self.view_is) in
    inr (seen ∙ told_fault old _ c.in-Some.is)

pub returns-in-Machine-clause-exact : goal.returns-in-Machine-clause-exact
returns-in-Machine-clause-exact c =
    let old : ScriptPlace = record {
      taken = taken_of c.self.inside.beginning
          c.self.inside.commands;
      fault = c.self.inside.fault;
    } in
    let seen = ap (λ (p : ScriptPlace). script_text_left p []) (sym c.self.view_is) in
    seen
    ∙ told_script old
    (machine_view c.in-Machine.it.machine) c.in-Machine.it.first c.self.inside.commands
    c.in_default.is (ap (λ (b : Beginning). taken_of b c.self.inside.commands) c.in-Machine.is)
    ∙ ap (λ (cs : List Command). Ok (script_of_machine
    (machine_view c.in-Machine.it.machine) c.in-Machine.it.first cs)) (sym c.of.ensures.same)

pub returns-in-Text-clause-exact : goal.returns-in-Text-clause-exact
returns-in-Text-clause-exact c =
    let old : ScriptPlace = record {
      taken = taken_of c.self.inside.beginning
          c.self.inside.commands;
      fault = c.self.inside.fault;
    } in
    let seen = ap (λ (p : ScriptPlace). script_text_left p []) (sym c.self.view_is) in
    let begun = rw c.in-Text.is at c.self.invariant.0.begun in
    rw c.unended.ensures (inr (seen ∙ told_open old _ _ c.in_default.is
    (ap (λ (b : Beginning). taken_of b c.self.inside.commands) c.in-Text.is) begun.0))

pub returns-in-Nothing-clause-exact : goal.returns-in-Nothing-clause-exact
returns-in-Nothing-clause-exact c =
    let old : ScriptPlace = record {
      taken = taken_of c.self.inside.beginning
          c.self.inside.commands;
      fault = c.self.inside.fault;
    } in
    let seen = ap (λ (p : ScriptPlace). script_text_left p []) (sym c.self.view_is) in
    rw c.code.ensures (inr (seen ∙ told_nothing old c.in_default.is
    (ap (λ (b : Beginning). taken_of b c.self.inside.commands) c.in-Nothing.is)))
