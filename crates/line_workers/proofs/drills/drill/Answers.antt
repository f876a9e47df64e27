use Rattle.std.proofs.Common.{◌∙◌, ◌≡◌, length, ap, refl, sym, inl, inr, arith}
use Rattle.std.proofs.lemmas.List.{length-map, length-replicate}
use Rattle.std.proofs.lemmas.Result.{err_from_is_err_and}
use Rattle.line_names.specs.Sets.{nobody}
use Rattle.line_names.specs.declared.limits.TheConstants.{MOST_PROCESSES}
use Rattle.line_names.proofs.SetLemmas.{is_member-replicate}
use Rattle.line_tape.specs.History.{fresh, incarnation_at}
use Rattle.line_posts.specs.Collected.{CollectorView}
use Rattle.line_posts.proofs.SameLemmas.{generation_kept, lined_kept}
use Rattle.line_workers.specs.Scripts.{scripts_of}
use Rattle.line_posts.proofs.WholeLemmas.{incarnation_start, whole_kept}
use Rattle.line_workers.proofs.DrillLemmas.{drilled_same, drill_makes, first_begun, floor_of}
use Rattle.line_workers.proofs.DrillLemmas.{some_of}
use Rattle.line_workers.proofs.FaultLemmas.{fault_of, ring_filled}
use Rattle.line_workers.proofs.drills.drill.Goals as goal

pub gather_all-requires-clause-generation : goal.gather_all-requires-clause-generation
gather_all-requires-clause-generation g c = generation_kept c.in_ok-collector.posts.items
    c.in_ok-back.back.items
    (drilled_same (scripts_of c.args.scripts.now) c.in_ok-collector.posts.items
    c.in_ok-back.back.items c.in_ok-back.ensures.drilled) c.in_ok-collector.ensures.generation.0

pub gather_all-requires-clause-lines : goal.gather_all-requires-clause-lines
gather_all-requires-clause-lines g c = lined_kept c.in_ok-collector.collector
    c.in_ok-collector.posts.items c.in_ok-back.back.items
    (drilled_same (scripts_of c.args.scripts.now) c.in_ok-collector.posts.items
    c.in_ok-back.back.items c.in_ok-back.ensures.drilled) c.in_ok-collector.ensures.generation.1

pub gather_all-requires-clause-whole : goal.gather_all-requires-clause-whole
gather_all-requires-clause-whole g c =
    let v = c.in_ok-collector.collector in
    let opened = c.in_ok-collector.ensures.opened in
    let drilled = drilled_same (scripts_of c.args.scripts.now) c.in_ok-collector.posts.items
    c.in_ok-back.back.items c.in_ok-back.ensures.drilled in
    let opening = ap (λ (x : CollectorView). x.opening) c.in_ok-collector.ensures.collector in
    whole_kept v v c.in_ok-collector.posts.items c.in_ok-back.back.items refl drilled
    (opened.count ∙ ap length (sym opening), opened.order)

pub returns-in_err-back-clause-fault : goal.returns-in_err-back-clause-fault
returns-in_err-back-clause-fault g c =
    let p = err_from_is_err_and c.from_residual-in_err-back.result
    c.from_residual-in_err-back.ensures.1 in
    let opened = c.in_ok-collector.ensures.opened in
    rw (p.1, p.2)
    (fault_of (scripts_of c.args.scripts.now)
    (length c.args.scripts.now) c.in_ok-collector.posts.items _ opened.each opened.order
    (length-map c.args.scripts.now (λ script. script.items)) c.in_err-back.ensures.stopped)

pub returns-clause-scripted : goal.returns-clause-scripted
returns-clause-scripted g c =
    let n = length c.args.scripts.now in
    let opened = c.in_ok-collector.ensures.opened in
    let many : length (scripts_of c.args.scripts.now)
    ≡ length c.in_ok-collector.posts.items = length-map c.args.scripts.now
    (λ script. script.items) ∙ (sym (length-replicate n fresh) ∙ sym opened.count) in
    drill_makes (scripts_of c.args.scripts.now) n c.in_ok-collector.posts.items
    c.in_ok-back.back.items nobody c.in_ok-gathered.gathered.processes opened.each
    c.in_ok-back.ensures.drilled many c.in_ok-gathered.ensures.own
    c.in_ok-gathered.ensures.gathered (λ q. is_member-replicate MOST_PROCESSES q)

pub returns-clause-incarnations : goal.returns-clause-incarnations
returns-clause-incarnations g c = λ q. c.in_ok-gathered.ensures.onward.incarnations q ∙
    (ap (λ (x : CollectorView). incarnation_at x.processes q) c.in_ok-collector.ensures.collector ∙
    incarnation_start (length c.args.scripts.now) q)

pub returns-clause-floor : goal.returns-clause-floor
returns-clause-floor g c =
    let n = length c.args.scripts.now in
    let opened = c.in_ok-collector.ensures.opened in
    let many : length c.in_ok-collector.posts.items ≡ n = opened.count ∙ length-replicate n fresh in
    let some = some_of n
    (λ e. (let wrong = c.in_ok-collector.ensures.count.1 (inl e) in cc wrong)) in
    let (lead, (at, begun)) = first_begun
    (scripts_of c.args.scripts.now) c.in_ok-collector.posts.items c.in_ok-back.back.items
    opened.begun c.in_ok-back.ensures.drilled (omega (arith, many, some)) in
    floor_of lead c.in_ok-gathered.gathered.floor begun (c.in_ok-gathered.ensures.floor lead at)

pub returns-in_err-back-clause-filled : goal.returns-in_err-back-clause-filled
returns-in_err-back-clause-filled g c =
    let p = err_from_is_err_and c.from_residual-in_err-back.result
    c.from_residual-in_err-back.ensures.1 in
    let opened = c.in_ok-collector.ensures.opened in
    rw (p.1, p.2)
    (ring_filled c.args.capacity (length c.args.scripts.now)
    (scripts_of c.args.scripts.now) c.in_ok-collector.posts.items _ opened.each opened.order
    opened.slots c.in_err-back.ensures.stopped)
