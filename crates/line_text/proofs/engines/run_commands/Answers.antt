-- The sink failed where the end of the text was put, or also memory did not suffice for a command:
-- a front of what was told is put.
use Rattle.std.proofs.Common.{length, refl, ap, ◌∙◌}
use Rattle.line_devices.specs.Devices.{one_more}
use Rattle.line_text.proofs.RunLemmas.{stops_front, stops_with}
use Rattle.line_devices.proofs.PutLemmas.{puts_front_of_held}
use Rattle.line_text.proofs.engines.run_commands.Goals as goal

pub returns-in-Err-clause-write : goal.returns-in-Err-clause-write
returns-in-Err-clause-write g c code =
    let run = c.in-Ok.ensures.ok in
    let front = rw c.text.ensures at c.in-Err.ensures.err in (
      rw c.fault_of_code.ensures refl,
      c.in-Err.ensures.failed ∙ ap one_more c.in-Ok.ensures.sound,
      record {
        done = length c.args.commands.now;
        told = run.told;
        end = c.do_commands.new.world;
        run = run.run;
        text = puts_front_of_held _ _ _ _ _ run.text front;
      },
    )

pub returns-in-Err-put-clause-write : goal.returns-in-Err-put-clause-write
returns-in-Err-put-clause-write g c code =
    let stopped = rw c.in-Err-Memory.field-0-is at c.in-Err-Memory.ensures.err in
    let blamed = rw c.in-Err-Memory.field-0-is at c.in-Err-Memory.ensures.blamed in
    let front = rw c.text-in-Err-Memory.ensures at c.in-Err-put.ensures.err in (
      rw c.fault_of_code-in-Err-put.ensures refl,
      c.in-Err-put.ensures.failed ∙ ap one_more blamed,
      stops_front _ _ _ _ _
          (stops_with _ _ _ _ _ (λ text held. puts_front_of_held _ _ _ _ text held front) stopped),
    )
