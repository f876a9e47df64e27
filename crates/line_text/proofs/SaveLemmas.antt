-- A machine is saved, or why it was not.
use Rattle.std.proofs.Common.{◌≡◌, ◌<◌, ◌≤◌, ℕ, ◌+◌, List, ◌∷◌, ◌++◌, Option, Some, None, true}
use Rattle.std.proofs.Common.{false, drop, length, refl, sym, ap, ◌∙◌, get_or}
use Rattle.std.specs.Prelude.{map}
use Rattle.std.proofs.lemmas.Grind.{flat_map-append}
use Rattle.std.proofs.lemmas.List.{drop_all, drop_more}
use Rattle.line_claims.specs.Records.{floors_at, in_order}
use Rattle.line_cuts.specs.Cuts.{Floor}
use Rattle.line_devices.specs.Devices.{PutsButEnd, PutsFront}
use Rattle.line_fields.proofs.OutletLemmas.{one_text}
use Rattle.line_fields.specs.Texts.{record_text, records_text}
use Rattle.line_live.specs.declared.refusals.ForgetError.{ForgetError}
use Rattle.line_live.specs.Lives.{LiveMachine}
use Rattle.line_moves.specs.Listed.{ListedRound}
use Rattle.line_scripts.specs.declared.commands.Command.TheVariants as commands
use Rattle.line_tape.specs.History.{Process}
use Rattle.line_tape.specs.Views.{MarksView}
use Rattle.line_world.specs.Machine.{Machine}
use Rattle.line_text.specs.Answers.{Refused, Saved, DoesCommand, DoesFront, forget_code}
use Rattle.line_text.specs.Answers.{save_refusal, saved_parts_of, saved_round}
use Rattle.line_text.specs.Replies.{refusal_record as refused_record}
use Rattle.line_claims.specs.Saved.{SavedParts, saved_end_record, saved_front, saved_records}
use Rattle.line_claims.specs.Saved.{saved_rest, saved_round_record}
use Rattle.line_text.proofs.AnswerLemmas.{does, does_front}

pub machine_does : (old : LiveMachine) (taken now : Option (List ℕ)) (held later : List ℕ)
    → save_refusal old ≡ None
    → PutsButEnd taken now later (held ++ records_text (saved_records (saved_parts_of old)))
    → DoesCommand old commands.Save old taken now held later false
machine_does old taken now held later none put = does old old commands.Save
    (Saved (saved_parts_of old)) taken now held later
    (records_text (saved_records (saved_parts_of old))) (none, refl, refl) refl put

pub machine_front : (old : LiveMachine) (taken now : Option (List ℕ)) (held : List ℕ) → save_refusal
    old ≡ None → PutsFront taken now (held ++ records_text (saved_records (saved_parts_of old)))
    → DoesFront old commands.Save old taken now held
machine_front old taken now held none put = does_front old old commands.Save
    (Saved (saved_parts_of old)) taken now held (records_text (saved_records (saved_parts_of old)))
    (none, refl, refl) refl put

pub unsaved_does : (old : LiveMachine) (error : ForgetError) (code : ℕ) (taken now : Option
    (List ℕ)) (held later : List ℕ) → save_refusal old ≡ Some error → code ≡ forget_code error
    → PutsButEnd taken now later (held ++ record_text (refused_record code))
    → DoesCommand old commands.Save old taken now held later true
unsaved_does old error code taken now held later cause is put =
    does old old commands.Save (Refused code) taken now held later
    (record_text (refused_record code)) (
      record { error = error; cause = cause; code_is = is },
      refl,
    ) (one_text (refused_record code)) put

pub unsaved_front : (old : LiveMachine) (error : ForgetError) (code : ℕ) (taken now : Option
    (List ℕ)) (held : List ℕ) → save_refusal old ≡ Some error → code ≡ forget_code error
    → PutsFront taken now (held ++ record_text (refused_record code))
    → DoesFront old commands.Save old taken now held
unsaved_front old error code taken now held cause is put =
    does_front old old commands.Save (Refused code) taken now held
    (record_text (refused_record code)) (
      record { error = error; cause = cause; code_is = is },
      refl,
    ) (one_text (refused_record code)) put

-- a saved machine, part by part
abbrev pub front_text : List Process → MarksView → List ℕ → List ℕ → List ℕ
front_text history marks checks sends = records_text
    (saved_front (floors_at (length history) checks sends) history (in_order history marks))

abbrev pub rest_text : List ListedRound → ℕ → List ℕ
rest_text rounds last = records_text (saved_rest (map saved_round rounds) last)

parts_of : (live : LiveMachine)
    → records_text (saved_records (saved_parts_of live))
    ≡ front_text live.kept.history live.kept.marks live.floor.checks live.floor.sends
    ++ rest_text live.kept.rounds live.kept.last_round
parts_of live =
    let parts : SavedParts = saved_parts_of live in
    flat_map-append record_text (saved_front parts.floors parts.history parts.marks)
    (saved_rest parts.rounds parts.last)

pub saved_text_of : (live : LiveMachine) (history : List Process) (marks : MarksView)
    (checks sends : List ℕ) (rounds : List ListedRound) (last : ℕ) → history ≡ live.kept.history
    → marks ≡ live.kept.marks → checks ≡ live.floor.checks
    → sends ≡ live.floor.sends → rounds ≡ live.kept.rounds → last ≡ live.kept.last_round
    → records_text (saved_records (saved_parts_of live))
    ≡ front_text history marks checks sends ++ rest_text rounds last
saved_text_of live history marks checks sends rounds last history_is marks_are checks_are sends_are
    rounds_are last_is =
    let kept : Machine = live.kept in
    let floor : Floor = live.floor in
    parts_of live
    ∙ ap (λ (h : List Process). front_text h kept.marks floor.checks floor.sends
    ++ rest_text kept.rounds kept.last_round) (sym history_is)
    ∙ ap (λ (m : MarksView). front_text history m floor.checks floor.sends
    ++ rest_text kept.rounds kept.last_round) (sym marks_are)
    ∙ ap (λ (c : List ℕ). front_text history marks c floor.sends
    ++ rest_text kept.rounds kept.last_round) (sym checks_are)
    ∙ ap (λ (s : List ℕ). front_text history marks checks s
    ++ rest_text kept.rounds kept.last_round) (sym sends_are)
    ∙ ap (λ (r : List ListedRound). front_text history marks checks sends
    ++ rest_text r kept.last_round) (sym rounds_are)
    ∙ ap (λ (l : ℕ). front_text history marks checks sends ++ rest_text rounds l) (sym last_is)

-- the rounds from one on, the first of which was written by its number and its checks
pub next_round : (rounds : List ListedRound) (last i : ℕ) (round : ListedRound) (number : ℕ)
    (checks : List ℕ) → i < length rounds → round ≡ get_or rounds i round → number ≡ round.number
    → checks ≡ round.checks
    → rest_text (drop i rounds) last
    ≡ record_text (saved_round_record number checks) ++ rest_text (drop (i + 1) rounds) last
next_round rounds last i round number checks lt is number_is checks_are =
    ap (λ (rest : List ListedRound). rest_text rest last)
    (drop_more rounds i round lt ∙ ap (λ (r : ListedRound). r ∷ drop (i + 1) rounds) (sym is))
    ∙ ap (λ (n : ℕ). record_text (saved_round_record n round.checks)
    ++ rest_text (drop (i + 1) rounds) last) (sym number_is)
    ∙ ap (λ (c : List ℕ). record_text (saved_round_record number c)
    ++ rest_text (drop (i + 1) rounds) last) (sym checks_are)

pub no_round : (rounds : List ListedRound) (last i : ℕ) → length rounds ≤ i
    → rest_text (drop i rounds) last ≡ record_text (saved_end_record last)
no_round rounds last i le = ap (λ (rest : List ListedRound). rest_text rest last)
    (drop_all i rounds le) ∙ one_text (saved_end_record last)
