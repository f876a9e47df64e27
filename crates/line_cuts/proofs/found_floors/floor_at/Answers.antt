-- The numbers that are found are those of the floor at the line.
use Rattle.std.proofs.Common.{◌≡◌, ◌<◌, ℕ, List, length, map, get_or, vec_len, sym, ap, ◌∙◌, subst}
use Rattle.std.proofs.Common.{arith}
use Rattle.std.specs.List.{Contains, range_with_len}
use Rattle.std.proofs.lemmas.List.Elements.{Contains-get_or}
use Rattle.std.proofs.lemmas.List.FromFn.{fill_by_all, get_or-map-range_with_len}
use Rattle.std.proofs.lemmas.List.FromFn.{length-map-range_with_len}
use Rattle.line_names.specs.declared.choices.Choice.{Choice}
use Rattle.line_names.specs.declared.messages.MsgName.{MsgName}
use Rattle.line_tape.specs.Event.{sends}
use Rattle.line_tape.specs.History.{Process}
use Rattle.line_tape.specs.Line.{events_before}
use Rattle.line_tape.specs.Transit.{in_transit}
use Rattle.line_cuts.specs.Cuts.{Floor, IsFloor}
use Rattle.line_cuts.specs.Floors.{floor_of_line, sends_up_to, settled_sends}
use Rattle.line_cuts.proofs.FloorLemmas.{line_is_floor, transit_from}
use Rattle.line_cuts.proofs.found_floors.floor_at.Goals as goal

-- how many sends of each process stand before the line
abbrev counts_of : List Process → List Choice → List ℕ
counts_of history line =
    map (λ p. sends (events_before history line p)) (range_with_len 0 (length history))

same_floor : (a b : Floor) → a.checks ≡ b.checks → a.sends ≡ b.sends → a.round ≡ b.round → a ≡ b
same_floor a b checks sends round =
    ap (λ (v : List ℕ). record { checks = v; sends = a.sends; round = a.round }) checks
    ∙ ap (λ (v : List ℕ). record { checks = b.checks; sends = v; round = a.round }) sends
    ∙ ap (λ (v : ℕ). record { checks = b.checks; sends = b.sends; round = v }) round

-- the numbers of sends are those of the floor
sends_found : (history : List Process) (line : List Choice) (messages : List MsgName)
    (old new : List ℕ) → messages ≡ in_transit history line → old ≡ counts_of history line
    → length new ≡ length old
    → ((p : ℕ) → get_or new p 0 ≡ sends_up_to p messages (get_or old p 0))
    → new ≡ map (settled_sends history line) (range_with_len 0 (length history))
sends_found history line messages old new messages_are old_is count first =
    let n : ℕ = length history in
    let long : length new ≡ n = count ∙ ap (λ (xs : List ℕ). length xs) old_is ∙
    length-map-range_with_len (λ p. sends (events_before history line p)) 0 n in
    fill_by_all (settled_sends history line) new n 0 long (λ p within.
    first p
    ∙ ap (λ (ms : List MsgName). sends_up_to p ms (get_or old p 0)) messages_are
    ∙ ap (λ (given : ℕ). sends_up_to p (in_transit history line) given)
    (ap (λ (xs : List ℕ). get_or xs p 0) old_is ∙ get_or-map-range_with_len
    (λ q. sends (events_before history line q)) 0 n p p 0 within (omega arith)))

pub put_first_numbers-requires : goal.put_first_numbers-requires
put_first_numbers-requires c =
    let history : List Process = c.args.catalogue.now.processes in
    let line : List Choice = c.args.line.now in
    let items : List MsgName = c.in_ok-messages.messages.items in
    let counts : c.in_ok-sends.sends.items ≡ counts_of history line = c.in_ok-sends.ensures ∙ ap
    (λ (h : List Process). counts_of h line) c.history.ensures.processes in
    let long : vec_len c.in_ok-sends.sends
    ≡ length history = omega (
      arith,
      c.in_ok-sends.sends.ok.0,
      ap (λ (xs : List ℕ). length xs) counts,
      length-map-range_with_len (λ p. sends (events_before history line p)) 0 (length history),
    ) in
    λ k d h.
    let from : (get_or items k d).from < length history = transit_from history line c.args.round
    (get_or items k d) (subst (λ (ms : List MsgName). Contains ms (get_or items k d))
    c.in_ok-messages.ensures (Contains-get_or items k d h)) in
    omega (arith, from, long)

pub returns-clause-value : goal.returns-clause-value
returns-clause-value c =
    let history : List Process = c.args.catalogue.now.processes in
    let line : List Choice = c.args.line.now in
    let counts : c.in_ok-sends.sends.items ≡ counts_of history line = c.in_ok-sends.ensures ∙ ap
    (λ (h : List Process). counts_of h line) c.history.ensures.processes in
    let count : length c.put_first_numbers.new.counts.items
    ≡ length c.in_ok-sends.sends.items = omega (
      arith,
      c.put_first_numbers.ensures.count,
      c.put_first_numbers.new.counts.ok.0,
      c.in_ok-sends.sends.ok.0,
    ) in (
      c.is_of_checks.ensures.0 c.if-not-is_of_checks.false,
      same_floor c.of.result (floor_of_line history line c.args.round)
          (c.of.ensures.checks ∙ c.in_ok-checks.ensures)
          (c.of.ensures.sends ∙ sends_found history line c.in_ok-messages.messages.items
          c.in_ok-sends.sends.items c.put_first_numbers.new.counts.items
          c.in_ok-messages.ensures counts count c.put_first_numbers.ensures.first)
          c.of.ensures.round,
    )

pub returns-clause-floor : goal.returns-clause-floor
returns-clause-floor c = λ consistent.
    let value = returns-clause-value c in
    subst (IsFloor c.args.catalogue.now.processes) (sym value.1) (line_is_floor
    c.args.catalogue.now.processes c.args.line.now c.args.round c.requires value.0 consistent)
