-- Two processes: message 0 of process 1 is received before the floor, message 1 is in transit
-- there,
-- and message 2 is sent after it. The floor is the checks of round 1.
use Rattle.std.proofs.Common.{◌≡◌, ℕ, List, [], ◌∷◌, Some, None, refl}
use Rattle.line_names.specs.declared.choices.Choice.TheVariants.{Check as AtCheck, Now}
use Rattle.line_names.specs.declared.messages.MsgName.{MsgName}
use Rattle.line_tape.specs.declared.events.Event.TheVariants.{Send, Recv, Check, Mark}
use Rattle.line_tape.specs.History.{Process}
use Rattle.line_tape.specs.Transit.{in_transit}
use Rattle.line_cuts.specs.Cuts.{Floor, floor_line, cut_checks, cut_history, cut_line, whole_floor}
use Rattle.line_cuts.specs.Cuts.{whole_line}

abbrev m : ℕ → MsgName
m k = record { from = 1; inc = 0; number = k }

abbrev whole : List Process
whole =
    record {
      incarnation = 0;
      tape = Recv (m 0) ∷ Check [] None ∷ Check [] (Some 1) ∷ Recv (m 1)
          ∷ Mark 1 1 ∷ Recv (m 2) ∷ [];
    }
    ∷ record {
      incarnation = 0;
      tape = Send 0 0 [] ∷ Send 0 0 [] ∷ Check [] (Some 1) ∷ Mark 0 1
          ∷ Send 0 0 [] ∷ [];
    }
    ∷ []

abbrev floor : Floor
floor = record { checks = 2 ∷ 1 ∷ []; sends = 0 ∷ 1 ∷ []; round = 1 }

left : cut_history floor whole
    ≡ record { incarnation = 0; tape = Check [] None ∷ Recv (m 0) ∷ Recv (m 1) ∷ [] }
    ∷ record { incarnation = 0; tape = Send 0 0 [] ∷ Check [] None ∷ Send 0 0 [] ∷ [] }
    ∷ []
left = refl

-- in transit at the floor, in the whole and there
transit : in_transit whole (floor_line floor) ≡ m 1 ∷ []
transit = refl

there : in_transit (cut_history floor whole) (cut_line floor (floor_line floor)) ≡ m 0 ∷ []
there = refl

back : whole_line floor (AtCheck 1 ∷ Now ∷ []) ≡ AtCheck 2 ∷ Now ∷ []
back = refl

-- later both take a check of round 2, before which process 0 has received all
abbrev longer : List Process
longer =
    record {
      incarnation = 0;
      tape = Recv (m 0) ∷ Check [] None ∷ Check [] (Some 1) ∷ Recv (m 1)
          ∷ Mark 1 1 ∷ Recv (m 2) ∷ Check [] (Some 2) ∷ [];
    }
    ∷ record {
      incarnation = 0;
      tape = Send 0 0 [] ∷ Send 0 0 [] ∷ Check [] (Some 1) ∷ Mark 0 1
          ∷ Send 0 0 [] ∷ Check [] (Some 2) ∷ [];
    }
    ∷ []

-- a later floor, of what the first one leaves
abbrev later : Floor
later = record { checks = 2 ∷ 2 ∷ []; sends = 0 ∷ 2 ∷ []; round = 2 }

both : whole_floor floor later ≡ record { checks = 3 ∷ 2 ∷ []; sends = 0 ∷ 3 ∷ []; round = 2 }
both = refl

twice : cut_history later (cut_history floor longer)
    ≡ record { incarnation = 0; tape = Check [] None ∷ [] }
    ∷ record { incarnation = 0; tape = Check [] None ∷ [] }
    ∷ []
twice = refl

once : cut_history (whole_floor floor later) longer ≡ cut_history later (cut_history floor longer)
once = refl

-- the checks of round 2, in what the first floor leaves
indices : cut_checks floor (3 ∷ 2 ∷ []) ≡ 2 ∷ 2 ∷ []
indices = refl
