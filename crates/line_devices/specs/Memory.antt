-- What the devices over memory are: their bytes, their step, the call that fails and their counts.
use Rattle.std.specs.Prelude.{ℕ, ◌-◌, List, Option, option_map}

-- a source: the bytes still to come, how many it gave, the most that come at a time, how many calls
-- ahead the failing one is, the faults so far, and how often it gave nothing
pub record MemSourceView : Type 0 where
  pub left : List ℕ
  pub given : ℕ
  pub step : ℕ
  pub fail_at : Option ℕ
  pub faults : ℕ
  pub ends : ℕ

-- a sink: the bytes put so far, the most that are taken at a time, how many calls ahead the failing
-- one is, and the faults so far
pub record MemSinkView : Type 0 where
  pub bytes : List ℕ
  pub step : ℕ
  pub fail_at : Option ℕ
  pub faults : ℕ

-- after a call the failing one is a call nearer, and one that has come is named by 0, which no call
-- is
abbrev pub next_call : Option ℕ → Option ℕ
next_call fail_at = option_map (λ calls. calls - 1) fail_at
