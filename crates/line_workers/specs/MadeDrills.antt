-- The drills that the program makes up, and the text that comes of one.
use Rattle.std.specs.Prelude.{◌≡◌, ◌==◌, ◌-◌, ◌++◌, ◌∷◌, [], ℕ, zero, suc, List, if◌then◌else◌}
use Rattle.std.specs.Prelude.{length, map}
use Rattle.std.specs.List.{range_with_len}
use Rattle.line_tape.specs.History.{Process, tape_at, incarnation_at}
use Rattle.line_fields.specs.Texts.{records_text}
use Rattle.line_claims.specs.Records.{history_records}
use Rattle.line_workers.specs.declared.orders.Order.{Order}
use Rattle.line_workers.specs.declared.orders.Order.TheVariants.{Check, Receive, Send}
use Rattle.line_workers.specs.Scripts.{IsScripted}

-- the worker after p among n, and after the last one the first
abbrev pub after : ℕ → ℕ → ℕ
after n p = if suc p == n then 0 else suc p

-- the worker before p among n, and before the first one the last
abbrev pub before : ℕ → ℕ → ℕ
before n p = if p == 0 then n - 1 else p - 1

-- what worker p of n does in a round: it sends its number to the worker after it, receives from the
-- one before it, and takes a check that stores its number
abbrev pub round_orders : ℕ → ℕ → List Order
round_orders n p = Send (after n p) (p ∷ []) ∷ Receive (before n p) ∷ Check (p ∷ []) ∷ []

-- what worker p of n does in so many rounds
abbrev pub orders_of : ℕ → ℕ → ℕ → List Order
orders_of n p zero = []
orders_of n p (suc rounds) = orders_of n p rounds ++ round_orders n p

-- the scripts of a drill, one for each worker
abbrev pub drill_scripts : ℕ → ℕ → List (List Order)
drill_scripts workers rounds = map (λ p. orders_of workers p rounds) (range_with_len 0 workers)

-- the text of a history in which each process is in its incarnation 0, and its tape the one that
-- the scripts of the drill make
pub record IsDrillText (workers rounds : ℕ) (text : List ℕ) : Type 0 where
  pub processes : List Process
  pub text_is : text ≡ records_text (history_records processes)
  pub count : length processes ≡ workers
  pub incarnations : (p : ℕ) → incarnation_at processes p ≡ 0
  pub tapes : (p : ℕ) → IsScripted (drill_scripts workers rounds) p (tape_at processes p)
