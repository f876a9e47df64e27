use Rattle.std.proofs.Common.{◌≡◌, ◌∙◌, ◌+◌, ℕ, Bool, true, false, refl, ap, arith}
use Rattle.std.specs.Prelude.{if◌then◌else◌}
use mir.Val.{bool_byte}
use Rattle.line_devices.specs.Devices.{one_more}
use Rattle.line_text.proofs.RunLemmas.{does_on, first_left, front_in, run_whole, starts, stops_in}
use Rattle.line_text.proofs.engines.do_commands.Goals as goal

-- how a command that was refused is counted
as_count : (told : Bool) → bool_byte told ≡ (if told then 1 else 0)
as_count true = refl
as_count false = refl

pub commands-init : goal.commands-init
commands-init g c = record
    { run = starts _ _ _ _ c.requires.empty; left = refl; within = omega arith; sound = refl }

pub returns-in_default-clause-ok : goal.returns-in_default-clause-ok
returns-in_default-clause-ok g c =
    run_whole _ _ _ _ _ _ _ _ _ _ _ _ _ c.commands.invariant.left c.in_default.ensures.none
    c.commands.invariant.within c.commands.invariant.run refl refl refl refl

pub returns-in-Err-Memory-clause-err : goal.returns-in-Err-Memory-clause-err
returns-in-Err-Memory-clause-err g c =
    let halted = rw c.in-Err-Memory.field-0-is at c.in-Err-Memory.ensures.memory in
    let same = halted refl in
    let first = first_left _ _ _ _ _ c.commands.invariant.left c.in-Some.ensures.some in
    stops_in _ _ _ _ _ _ _ _ _ _ first.0 (ap g.K.Sink.taken same.1) same.2 c.commands.invariant.run

pub returns-in-Err-Memory-clause-blamed : goal.returns-in-Err-Memory-clause-blamed
returns-in-Err-Memory-clause-blamed g c =
    let halted = rw c.in-Err-Memory.field-0-is at c.in-Err-Memory.ensures.memory in
    let same = halted refl in
    ap g.K.Sink.faults same.1 ∙ c.commands.invariant.sound

pub returns-in-Err-Write-clause-err : goal.returns-in-Err-Write-clause-err
returns-in-Err-Write-clause-err g c =
    let halted = rw c.in-Err-Write.field-0-is at c.in-Err-Write.ensures.write in
    let first = first_left _ _ _ _ _ c.commands.invariant.left c.in-Some.ensures.some in
    front_in _ _ _ _ _ _ _ _ _ _ _ first.0 first.1 c.commands.invariant.run (halted refl)

pub returns-in-Err-Write-clause-blamed : goal.returns-in-Err-Write-clause-blamed
returns-in-Err-Write-clause-blamed g c =
    let halted = rw c.in-Err-Write.field-0-is at c.in-Err-Write.ensures.failed in
    halted refl ∙ ap one_more c.commands.invariant.sound

pub commands-preserved : goal.commands-preserved
commands-preserved g c =
    let first = first_left _ _ _ _ _ c.commands.invariant.left c.in-Some.ensures.some in
    record {
      run = does_on _ _ _ _ _ _ _ _ _ _ _ _ _ first.0 first.1 c.commands.invariant.run
          (record {
            one = c.in-Ok.told;
            does = c.in-Ok.ensures.ok;
            counted = ap
                (λ (n : ℕ). c.commands.refused + n) (as_count c.in-Ok.told);
          });
      left = c.drop_first.ensures ∙ first.2;
      within = omega (arith, first.0);
      sound = c.in-Ok.ensures.sound ∙ c.commands.invariant.sound;
    }
