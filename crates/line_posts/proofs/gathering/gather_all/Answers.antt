-- What is gathered is so in either case.
use Rattle.std.proofs.Common.{◌≡◌, ◌∙◌, ◌++◌, ℕ, List, Some, length, sym, ap, subst}
use Rattle.std.specs.Prelude.{Option}
use Rattle.line_tape.specs.declared.events.Event.{Event}
use Rattle.line_tape.specs.History.{Process, incarnation_at, process_at, tape_at}
use Rattle.line_posts.specs.declared.forgetting.Forgotten.{Forgotten}
use Rattle.line_posts.specs.Ends.{in_ends, row_at, End}
use Rattle.line_posts.specs.Gathering.{rows_of, AreAtLines, AreFurtherBelow, AreGatheredOnward}
use Rattle.line_posts.specs.Gathering.{AreReady, IsOnWay}
use Rattle.line_posts.specs.Kept.{IsKeptOf}
use Rattle.line_posts.proofs.AnewLemmas.{at_lines, extends_taken, gathered_agrees, on_later}
use Rattle.line_posts.proofs.AnewLemmas.{onward_of}
use Rattle.line_posts.proofs.ForgetLemmas.{kept_long}
use Rattle.line_posts.proofs.OwnLemmas.{ready_of, way_of}
use Rattle.line_posts.proofs.gathering.gather_all.Goals as goal

added_process : List Process → ℕ → List (List Event) → Process
added_process h p further =
    record { incarnation = incarnation_at h p; tape = tape_at h p ++ row_at further p }

pub further_of_all-requires-clause-count : goal.further_of_all-requires-clause-count
further_of_all-requires-clause-count c =
    let (V, back, lines, keeps) = c.requires.back in
    let K = c.args.catalogue.now in
    let same : K.processes ≡ V.processes = subst
    (λ (f : Option Forgotten). IsKeptOf f V.processes K.processes K.marks) c.in-None.is keeps in
    back.whole ∙ ap (λ (h : List Process). length h) (sym same)

pub further_of_all-requires-clause-ready : goal.further_of_all-requires-clause-ready
further_of_all-requires-clause-ready c =
    let (V, back, lines, keeps) = c.requires.back in
    let K = c.args.catalogue.now in
    let P = c.args.posts.now.items in
    let same : K.processes ≡ V.processes = subst
    (λ (f : Option Forgotten). IsKeptOf f V.processes K.processes K.marks) c.in-None.is keeps in
    subst (λ (h : List Process). AreReady h (in_ends c.args.lines.now.items) P) (sym same)
    (subst (λ (l : List (End Event)). AreReady V.processes l P) lines (ready_of V P back))

pub add_and_keep-requires : goal.add_and_keep-requires
add_and_keep-requires c =
    let (V, back, lines, keeps) = c.requires.back in
    let K = c.args.catalogue.now in
    let P = c.args.posts.now.items in
    let F = rows_of c.in_ok-further-in-None.further.items in
    let R = c.further_of_all.new.catalogue.rooms in
    let same : K.processes ≡ V.processes = subst
    (λ (f : Option Forgotten). IsKeptOf f V.processes K.processes K.marks) c.in-None.is keeps in
    let more : AreFurtherBelow (length P) c.args.failed.now V.processes R P F = subst
    (λ (h : List Process). AreFurtherBelow (length P) c.args.failed.now h R P F) same
    c.in_ok-further-in-None.ensures.further in
    record {
      way = subst (λ (h : List Process). IsOnWay h F h R F) (sym
          (c.further_of_all.ensures.processes ∙ same)) (way_of V P back c.args.failed.now R F more);
    }

pub gathered_anew-requires-clause-count : goal.gathered_anew-requires-clause-count
gathered_anew-requires-clause-count c =
    let (V, back, lines, keeps) = c.requires.back in
    let K = c.args.catalogue.now in
    back.whole ∙ sym
    (c.n-n.ensures.value ∙ kept_long c.args.forgotten.now V.processes K.processes K.marks keeps)

pub gathered_anew-requires-clause-at : goal.gathered_anew-requires-clause-at
gathered_anew-requires-clause-at c =
    let (V, back, lines, keeps) = c.requires.back in
    let K = c.args.catalogue.now in
    let P = c.args.posts.now.items in
    let n : c.n-n.result ≡ length V.processes = c.n-n.ensures.value ∙ kept_long c.args.forgotten.now
    V.processes K.processes K.marks keeps in
    subst (λ (k : ℕ). AreAtLines k (in_ends c.args.lines.now.items) P) (sym n)
    (subst (λ (l : List (End Event)). AreAtLines (length V.processes) l P) lines
    (at_lines V P back))

pub gathered_anew-requires-clause-marked : goal.gathered_anew-requires-clause-marked
gathered_anew-requires-clause-marked c =
    let (V, back, lines, keeps) = c.requires.back in
    let K = c.args.catalogue.now in
    let left : IsKeptOf (Some c.in-Some.forgotten) V.processes K.processes K.marks = subst
    (λ (f : Option Forgotten). IsKeptOf f V.processes K.processes K.marks) c.in-Some.is keeps in
    left.marked ∙ sym
    (c.n-n.ensures.value ∙ kept_long c.args.forgotten.now V.processes K.processes K.marks keeps)

pub gathered_anew-requires-clause-agree : goal.gathered_anew-requires-clause-agree
gathered_anew-requires-clause-agree c = λ gathered is.
    let (V, back, lines, keeps) = c.requires.back in
    let K = c.args.catalogue.now in
    let P = c.args.posts.now.items in
    let F = c.args.failed.now in
    let left : IsKeptOf (Some c.in-Some.forgotten) V.processes K.processes K.marks = subst
    (λ (f : Option Forgotten). IsKeptOf f V.processes K.processes K.marks) c.in-Some.is keeps in
    let here : AreGatheredOnward F V.lines P gathered = subst
    (λ (l : List (End Event)). AreGatheredOnward F l P gathered) (sym lines) is in (
      gathered_agrees V P back F gathered here,
      on_later gathered V.processes
          c.in-Some.forgotten.marks (extends_taken V P back F gathered here) left.on,
    )

pub returns-in_ok-further-in-None-clause-gathered :
    goal.returns-in_ok-further-in-None-clause-gathered
unfolding added_process
returns-in_ok-further-in-None-clause-gathered c =
    let (V, back, lines, keeps) = c.requires.back in
    let K = c.args.catalogue.now in
    let P = c.args.posts.now.items in
    let L = c.args.failed.now in
    let F = rows_of c.in_ok-further-in-None.further.items in
    let R = c.further_of_all.new.catalogue.rooms in
    let G = c.add_and_keep.new.catalogue.processes in
    let same : K.processes ≡ V.processes = subst
    (λ (f : Option Forgotten). IsKeptOf f V.processes K.processes K.marks) c.in-None.is keeps in
    let more : AreFurtherBelow (length P) L V.processes R P F = subst (λ (h : List Process).
    AreFurtherBelow (length P) L h R P F) same c.in_ok-further-in-None.ensures.further in
    let start : c.further_of_all.new.catalogue.processes
    ≡ V.processes = c.further_of_all.ensures.processes ∙ same in
    let each : (p : ℕ) → process_at G p ≡ added_process V.processes p F =
    λ p. c.add_and_keep.ensures.each p ∙ ap (λ (h : List Process). added_process h p F) start in
    subst (λ (l : List (End Event)). AreGatheredOnward L l P G) lines
    (onward_of V P back L R F more G
    (c.add_and_keep.ensures.count ∙ ap (λ (h : List Process). length h) start) each)
