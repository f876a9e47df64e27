-- What is told of the commands of a script is told of the text that spells it.
use Rattle.std.proofs.Common.{inl, inr}
use Rattle.std.specs.Prelude.{◌⊎◌}
use Rattle.line_text.proofs.RunLemmas.{front_of_text, runs_text, stops_text}
use Rattle.line_text.proofs.engines.run_text.Goals as goal

-- the second of two cases, seen otherwise
or_seen : {A B C : Type 0} → (B → C) → A ⊎ B → A ⊎ C
or_seen f (inl a) = inl a
or_seen f (inr b) = inr (f b)

pub returns-in-Ok-clause-done : goal.returns-in-Ok-clause-done
returns-in-Ok-clause-done g c =
    let spelt = c.in_ok-script.ensures.spelt in
    (spelt.0, spelt.1, runs_text _ _ _ _ _ spelt.2 c.in-Ok.ensures.ok)

pub returns-in-Err-clause-text : goal.returns-in-Err-clause-text
returns-in-Err-clause-text g c of_run =
    let put = c.in-Err.ensures.unbegun of_run in
    let spelt = c.in_ok-script.ensures.spelt in
    (put.0, (spelt.0, spelt.1, inr (_, spelt.2, put.1)))

pub returns-in-Err-clause-write : goal.returns-in-Err-clause-write
returns-in-Err-clause-write g c code =
    let put = c.in-Err.ensures.write code in
    let spelt = c.in_ok-script.ensures.spelt in
    (put.0, put.1, (spelt.0, spelt.1, front_of_text _ _ _ _ spelt.2 put.2))

pub returns-in-Err-clause-memory : goal.returns-in-Err-clause-memory
returns-in-Err-clause-memory g c code =
    let spelt = c.in_ok-script.ensures.spelt in
    or_seen (λ at. (spelt.0, spelt.1, stops_text _ _ _ _ _ spelt.2 at))
    (c.in-Err.ensures.memory code)
