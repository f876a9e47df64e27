use Rattle.line_text.proofs.turns.converse.Goals as goal

pub returns-clause-done : goal.returns-clause-done
returns-clause-done g c = rw c.in-Ok-new.ensures at c.serve_all.ensures.done

pub returns-clause-read : goal.returns-clause-read
returns-clause-read g c is = (rw c.in-Ok-new.ensures at c.serve_all.ensures.read) is

pub returns-clause-write : goal.returns-clause-write
returns-clause-write g c is = (rw c.in-Ok-new.ensures at c.serve_all.ensures.write) is
