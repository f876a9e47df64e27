use Rattle.std.proofs.Common.{◌≡◌, ◌∙◌, ◌∷◌, [], List, length, drop, ap, subst, arith}
use Rattle.std.proofs.lemmas.List.{get_or-set_other}
use Rattle.line_tape.specs.declared.events.Event.{Event}
use Rattle.line_posts.specs.Ends.{row_at}
use Rattle.line_posts.specs.Receipts.{without_first}
use Rattle.line_posts.specs.Gathering.{rows_of}
use Rattle.line_posts.proofs.GatheringLemmas.{addable, way_here, way_next, way_then}
use Rattle.line_posts.proofs.further.add_events.Goals as goal

pub append-requires-clause-named : goal.append-requires-clause-named
append-requires-clause-named c =
    let F : List (List Event) = rows_of c.events.further.items in
    let G : List (List Event) = rows_of c.take_kept-event.new.queues.items in
    let w = c.events.invariant.way in
    let first : row_at F c.args.p
    ≡ c.take_kept-event.result
    ∷ row_at G c.args.p = subst (λ v. row_at F v ≡ c.take_kept-event.result ∷ row_at G v)
    c.get-at.ensures.value c.take_kept-event.ensures.first in
    (addable c.events.catalogue.processes F w.own c.args.p c.take_kept-event.result
    (row_at G c.args.p)
    (let l = w.long in let n = c.requires.within in omega (arith, l, n)) w.may first).named

pub append-requires-clause-short : goal.append-requires-clause-short
append-requires-clause-short c =
    let F : List (List Event) = rows_of c.events.further.items in
    let G : List (List Event) = rows_of c.take_kept-event.new.queues.items in
    let w = c.events.invariant.way in
    let first : row_at F c.args.p
    ≡ c.take_kept-event.result
    ∷ row_at G c.args.p = subst (λ v. row_at F v ≡ c.take_kept-event.result ∷ row_at G v)
    c.get-at.ensures.value c.take_kept-event.ensures.first in
    (addable c.events.catalogue.processes F w.own c.args.p c.take_kept-event.result
    (row_at G c.args.p)
    (let l = w.long in let n = c.requires.within in omega (arith, l, n)) w.may first).short

pub append-requires-clause-few : goal.append-requires-clause-few
append-requires-clause-few c =
    let F : List (List Event) = rows_of c.events.further.items in
    let G : List (List Event) = rows_of c.take_kept-event.new.queues.items in
    let w = c.events.invariant.way in
    let first : row_at F c.args.p
    ≡ c.take_kept-event.result
    ∷ row_at G c.args.p = subst (λ v. row_at F v ≡ c.take_kept-event.result ∷ row_at G v)
    c.get-at.ensures.value c.take_kept-event.ensures.first in
    (addable c.events.catalogue.processes F w.own c.args.p c.take_kept-event.result
    (row_at G c.args.p)
    (let l = w.long in let n = c.requires.within in omega (arith, l, n)) w.may first).few

pub append-requires-clause-agrees : goal.append-requires-clause-agrees
append-requires-clause-agrees c =
    let F : List (List Event) = rows_of c.events.further.items in
    let G : List (List Event) = rows_of c.take_kept-event.new.queues.items in
    let w = c.events.invariant.way in
    let first : row_at F c.args.p
    ≡ c.take_kept-event.result
    ∷ row_at G c.args.p = subst (λ v. row_at F v ≡ c.take_kept-event.result ∷ row_at G v)
    c.get-at.ensures.value c.take_kept-event.ensures.first in
    (addable c.events.catalogue.processes F w.own c.args.p c.take_kept-event.result
    (row_at G c.args.p)
    (let l = w.long in let n = c.requires.within in omega (arith, l, n)) w.may first).agrees

pub append-requires-clause-room : goal.append-requires-clause-room
append-requires-clause-room c =
    let F : List (List Event) = rows_of c.events.further.items in
    let G : List (List Event) = rows_of c.take_kept-event.new.queues.items in
    let first : row_at F c.args.p
    ≡ c.take_kept-event.result
    ∷ row_at G c.args.p = subst (λ v. row_at F v ≡ c.take_kept-event.result ∷ row_at G v)
    c.get-at.ensures.value c.take_kept-event.ensures.first in
    let r = c.events.invariant.way.room c.args.p in
    let l = ap length first in
    omega (arith, r, l)

pub events-preserved : goal.events-preserved
events-preserved c =
    let F : List (List Event) = rows_of c.events.further.items in
    let G : List (List Event) = rows_of c.take_kept-event.new.queues.items in
    let H = c.events.catalogue.processes in
    let i = c.events.invariant in
    let first : row_at F c.args.p
    ≡ c.take_kept-event.result
    ∷ row_at G c.args.p = subst (λ v. row_at F v ≡ c.take_kept-event.result ∷ row_at G v)
    c.get-at.ensures.value c.take_kept-event.ensures.first in
    let rows : G ≡ without_first F c.args.p = c.take_kept-event.ensures.rows ∙ ap
    (without_first F) c.get-at.ensures.value in
    let l = i.way.long in
    let n = c.requires.within in
    record {
      way = way_then _ _ _ _ _ _ _ _ i.way
          (way_next H c.append.new.self.processes F G c.events.catalogue.rooms
          c.append.new.self.rooms c.args.p c.take_kept-event.result (omega (arith, l, n))
          (way_here _ _ _ _ _ i.way) first rows c.append.ensures.processes
          c.append.ensures.spent c.append.ensures.others);
      marks = c.append.ensures.marks ∙ i.marks;
      others = λ k apart. ap (λ (t : List (List Event)). row_at t k) rows ∙
          (get_or-set_other F c.args.p k (drop 1 (row_at F c.args.p)) [] apart ∙ i.others k apart);
    }
