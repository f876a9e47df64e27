-- One process more, up to all that there are.
use Rattle.std.proofs.Common.{◌≡◌, ◌+◌, ◌<◌, ◌≤◌, List, ℕ, get_or, length, map, set, suc, sym, ap}
use Rattle.std.proofs.Common.{◌∙◌, subst, arith}
use Rattle.std.proofs.lemmas.List.{length-map}
use Rattle.line_names.specs.declared.choices.Choice.{Choice}
use Rattle.line_names.specs.declared.choices.Choice.TheVariants.{Check as AtCheck}
use Rattle.line_names.specs.Lines.{choice_at}
use Rattle.line_tape.specs.declared.histories.ProcessTape.{ProcessTape}
use Rattle.line_tape.specs.Front.{HasChoice}
use Rattle.line_tape.specs.History.{Process, fresh, process_at, IsHistory}
use Rattle.line_tape.specs.Plain.{process_kept}
use Rattle.line_tape.specs.Restart.{restarted_process, HasFurther}
use Rattle.line_tape.specs.Views.{HistoryView}
use Rattle.line_tape.proofs.EachLemmas.{each, so_far, next-same, length-so_far, one_more, all-done}
use Rattle.line_tape.proofs.EachLemmas.{restarted-each}
use Rattle.line_tape.proofs.HistoryCuts.{IsHistory-restarted, rooms-more}
use Rattle.line_tape.proofs.HistoryLemmas.{plain-old, plain-written}
use Rattle.line_tape.proofs.histories.History.restart.Goals as goal

pub restart_process-requires-clause-choice : goal.restart_process-requires-clause-choice
restart_process-requires-clause-choice c =
    let old : List Process = c.args.self.now.processes in
    let line : List Choice = c.args.line.now in
    let p : ℕ = c.loop-p.p in
    let items : List ProcessTape = c.loop-p.self-inside.processes.items in
    let item : ProcessTape = c.index_mut.result.now in
    let seen : map process_kept c.self.inside.processes.items
    ≡ old = ap (λ (h : HistoryView). h.processes) c.self.view_is in
    let many : length c.self.inside.processes.items ≡ length old = sym (length-map
    c.self.inside.processes.items process_kept) ∙ ap (λ (xs : List Process). length xs) seen in
    let below : p < length old = omega (arith, many) in
    let enough : length old ≤ length line = omega (arith, c.requires.line.length_is) in
    let within : p < length items = omega (
      arith,
      below,
      length-map items process_kept,
      ap (λ (xs : List Process). length xs)
          c.loop-p.invariant.0,
      length-so_far restarted_process old line p enough,
    ) in
    let same : process_kept item
    ≡ process_at old p = sym (plain-old items p item item within c.index_mut.ensures.value) ∙ ap
    (λ (xs : List Process). process_at xs p) c.loop-p.invariant.0 ∙ next-same restarted_process
    old line p fresh enough in
    let choice : get_or c.choices-choices.result.now p (AtCheck 0) ≡ choice_at line p = ap
    (λ (xs : List Choice). get_or xs p (AtCheck 0)) c.choices-choices.ensures.value in
    subst (HasChoice item.tape.events) (sym choice) (subst (λ (process : Process). HasChoice
    process.tape (choice_at line p)) (sym same) (c.requires.line.exist p))

pub restart_process-requires-clause-further : goal.restart_process-requires-clause-further
restart_process-requires-clause-further c =
    let old : List Process = c.args.self.now.processes in
    let line : List Choice = c.args.line.now in
    let p : ℕ = c.loop-p.p in
    let items : List ProcessTape = c.loop-p.self-inside.processes.items in
    let item : ProcessTape = c.index_mut.result.now in
    let seen : map process_kept c.self.inside.processes.items
    ≡ old = ap (λ (h : HistoryView). h.processes) c.self.view_is in
    let many : length c.self.inside.processes.items ≡ length old = sym (length-map
    c.self.inside.processes.items process_kept) ∙ ap (λ (xs : List Process). length xs) seen in
    let below : p < length old = omega (arith, many) in
    let enough : length old ≤ length line = omega (arith, c.requires.line.length_is) in
    let within : p < length items = omega (
      arith,
      below,
      length-map items process_kept,
      ap (λ (xs : List Process). length xs)
          c.loop-p.invariant.0,
      length-so_far restarted_process old line p enough,
    ) in
    let same : process_kept item
    ≡ process_at old p = sym (plain-old items p item item within c.index_mut.ensures.value) ∙ ap
    (λ (xs : List Process). process_at xs p) c.loop-p.invariant.0 ∙ next-same restarted_process
    old line p fresh enough in
    let choice : get_or c.choices-choices.result.now p (AtCheck 0) ≡ choice_at line p = ap
    (λ (xs : List Choice). get_or xs p (AtCheck 0)) c.choices-choices.ensures.value in
    subst (HasFurther (process_kept item)) (sym choice) (subst (λ (process : Process). HasFurther
    process (choice_at line p)) (sym same) (c.requires.further p below))

pub loop-p-preserved : goal.loop-p-preserved
loop-p-preserved c =
    let old : List Process = c.args.self.now.processes in
    let line : List Choice = c.args.line.now in
    let p : ℕ = c.loop-p.p in
    let items : List ProcessTape = c.loop-p.self-inside.processes.items in
    let item : ProcessTape = c.index_mut.result.now in
    let new : ProcessTape = c.restart_process.new.process in
    let seen : map process_kept c.self.inside.processes.items
    ≡ old = ap (λ (h : HistoryView). h.processes) c.self.view_is in
    let many : length c.self.inside.processes.items ≡ length old = sym (length-map
    c.self.inside.processes.items process_kept) ∙ ap (λ (xs : List Process). length xs) seen in
    let below : p < length old = omega (arith, many) in
    let enough : length old ≤ length line = omega (arith, c.requires.line.length_is) in
    let within : p < length items = omega (
      arith,
      below,
      length-map items process_kept,
      ap (λ (xs : List Process). length xs)
          c.loop-p.invariant.0,
      length-so_far restarted_process old line p enough,
    ) in
    let same : process_kept item
    ≡ process_at old p = sym (plain-old items p item item within c.index_mut.ensures.value) ∙ ap
    (λ (xs : List Process). process_at xs p) c.loop-p.invariant.0 ∙ next-same restarted_process
    old line p fresh enough in
    let choice : get_or c.choices-choices.result.now p (AtCheck 0) ≡ choice_at line p = ap
    (λ (xs : List Choice). get_or xs p (AtCheck 0)) c.choices-choices.ensures.value in
    let went : process_kept new
    ≡ restarted_process (process_at old p)
    (choice_at line p) = c.restart_process.ensures.process ∙ ap
    (restarted_process (process_kept item)) choice ∙ ap
    (λ (process : Process). restarted_process process (choice_at line p)) same in
    let next : suc p ≡ p + 1 = omega arith in (
      plain-written items p item new within c.index_mut.ensures.value ∙ ap
          (λ (xs : List Process). set xs p (process_kept new)) c.loop-p.invariant.0 ∙ ap
          (set (so_far restarted_process old line p) p) went ∙ one_more restarted_process old line p
          fresh (AtCheck 0) below enough ∙ ap
          (so_far restarted_process old line) next,
      rooms-more c.args.self.now.rooms items p item new
          within c.index_mut.ensures.value c.restart_process.ensures.room c.loop-p.invariant.1,
    )

pub invariant_of-self : goal.invariant_of-self
invariant_of-self c =
    let old : List Process = c.args.self.now.processes in
    let line : List Choice = c.args.line.now in
    let seen : map process_kept c.self.inside.processes.items
    ≡ old = ap (λ (h : HistoryView). h.processes) c.self.view_is in
    let many : length c.self.inside.processes.items ≡ length old = sym (length-map
    c.self.inside.processes.items process_kept) ∙ ap (λ (xs : List Process). length xs) seen in
    let past : length old ≤ c.loop-p.p = omega (arith, many) in
    let enough : length old ≤ length line = omega (arith, c.requires.line.length_is) in
    let all : map process_kept c.loop-p.self-inside.processes.items ≡ each restarted_process old
    line = c.loop-p.invariant.0 ∙ all-done restarted_process old line c.loop-p.p past enough in
    subst IsHistory (sym all)
    (IsHistory-restarted old line enough (subst IsHistory seen c.self.invariant))

pub returns-clause-processes : goal.returns-clause-processes
returns-clause-processes c =
    let old : List Process = c.args.self.now.processes in
    let line : List Choice = c.args.line.now in
    let seen : map process_kept c.self.inside.processes.items
    ≡ old = ap (λ (h : HistoryView). h.processes) c.self.view_is in
    let many : length c.self.inside.processes.items ≡ length old = sym (length-map
    c.self.inside.processes.items process_kept) ∙ ap (λ (xs : List Process). length xs) seen in
    let past : length old ≤ c.loop-p.p = omega (arith, many) in
    let enough : length old ≤ length line = omega (arith, c.requires.line.length_is) in
    c.loop-p.invariant.0 ∙ all-done restarted_process old line c.loop-p.p past enough ∙ sym
    (restarted-each old line)
