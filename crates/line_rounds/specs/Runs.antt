-- Messages of one sender, as parts of buffers.
use Rattle.std.specs.Prelude.{◌≡◌, ℕ, ◌<◌, ◌==◌, if◌then◌else◌, List, [], ◌∷◌, ◌++◌}
use Rattle.std.specs.Prelude.{All, AllPairs, length, Option, Some, None}
use Rattle.line_names.specs.declared.messages.MsgName.{MsgName}

-- a run: a sender, and the messages of it that a part of a buffer shows
pub record RunView : Type 0 where
  pub from : ℕ
  pub messages : List MsgName

-- what runs show, one after the other
abbrev pub runs_in : List RunView → List MsgName
runs_in [] = []
runs_in (run ∷ rest) = run.messages ++ runs_in rest

-- a run that is kept: it shows some messages, all from its sender
pub record IsRun (run : RunView) : Type 0 where
  pub some : 0 < length run.messages
  pub from : All (λ (message : MsgName). message.from ≡ run.from) run.messages

-- runs that are kept, by sender
pub record AreRuns (runs : List RunView) : Type 0 where
  pub ascend : AllPairs (λ (a b : RunView). a.from < b.from) runs
  pub each : All IsRun runs

-- the run of process p, if it has one
abbrev pub run_for : List RunView → ℕ → Option RunView
run_for [] p = None
run_for (run ∷ rest) p = if run.from == p then Some run else run_for rest p
