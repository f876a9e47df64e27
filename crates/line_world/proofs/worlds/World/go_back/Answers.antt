-- All go on from the latest line, or it takes back a process that has no further incarnation.
use Rattle.std.proofs.Common.{◌≡◌, ◌<◌, ◌++◌, ℕ, List, length, map, None, refl, sym, ap, ◌∙◌, subst}
use Rattle.std.proofs.lemmas.Bool.{both_ways}
use Rattle.line_names.specs.declared.choices.Choice.{Choice}
use Rattle.line_names.specs.declared.messages.MsgName.{MsgName}
use Rattle.line_tape.specs.declared.items.Item.{Item}
use Rattle.line_tape.specs.declared.items.Item.TheVariants.{Message}
use Rattle.line_tape.specs.History.{Process}
use Rattle.line_tape.specs.Line.{IsLine, IsConsistent}
use Rattle.line_tape.specs.Restart.{HaveFurther, restarted_history, restarted_marks}
use Rattle.line_tape.specs.Transit.{in_transit, in_transit_between}
use Rattle.line_tape.specs.Views.{MarksView}
use Rattle.line_world.specs.declared.replies.StepError.TheVariants.{NoMoreIncarnations}
use Rattle.line_tape.specs.declared.steps.Step.TheVariants.{Recover}
use Rattle.line_tape.specs.declared.modes.Mode.{Mode}
use Rattle.line_world.specs.Machine.{Machine}
use Rattle.line_moves.specs.Modes.{copies_in}
use Rattle.line_rounds.specs.Tables.{between}
use Rattle.line_world.specs.declared.worlds.World.TheInside.{Inside}
use Rattle.line_world.specs.Protocols.{mode_of, open_round_of, IsFollowing}
use Rattle.line_world.proofs.KnownFacts.{kept_with}
use Rattle.line_world.specs.Refusals.{refusal_of, IsRefused}
use Rattle.line_moves.specs.Restarts.{restored_states}
use Rattle.line_world.specs.Steps.{restarted_machine}
use Rattle.line_moves.specs.Worlds.{AreRounds, IsWorld, AreQueues}
use Rattle.std.specs.List.{filter}
use Rattle.line_moves.specs.Listed.{ListedRound, stays}
use Rattle.line_moves.proofs.OpeningLemmas.{AreRounds-restarted}
use Rattle.line_moves.proofs.LineFacts.{IsLine-latest}
use Rattle.line_world.proofs.StepLemmas.{may_recover}
use Rattle.line_moves.proofs.WorldLemmas.{IsWorld-restart, seen-restart}
use Rattle.line_world.proofs.SeenLemmas.{seen}
use Rattle.line_world.proofs.worlds.World.go_back.Goals as goal

pub returns-then-not-has_further-clause-refused : goal.returns-then-not-has_further-clause-refused
returns-then-not-has_further-clause-refused c = λ other.
    let same : c.history-history.result.now.processes ≡ c.args.self.now.history =
    c.history-history.ensures.processes ∙ ap (λ (m : Machine). m.history) c.self.view_is in
    let none : refusal_of c.args.self.now (Recover c.args._failed.now) ≡ None =
    may_recover c.args.self.now c.args._failed.now c.requires.known in (
      subst (IsRefused c.args.self.now (Recover c.args._failed.now) NoMoreIncarnations) (sym none)
          (record {
            line = c.args.plan.now.line;
            latest = c.requires.plan.latest;
            spent = λ further. both_ways c.has_further.result c.if-not-has_further.true
                (c.has_further.ensures.1 (subst
                (λ (h : List Process). HaveFurther h c.args.plan.now.line) (sym same) further));
          }),
      refl,
    )

pub restored_states-requires : goal.restored_states-requires
restored_states-requires c =
    let same : c.history-history.result.now.processes ≡ c.args.self.now.history =
    c.history-history.ensures.processes ∙ ap (λ (m : Machine). m.history) c.self.view_is in
    subst (λ (h : List Process). IsLine h c.args.plan.now.line) (sym same)
    (IsLine-latest c.args.self.now.history c.args.self.now.marks c.args._failed.now
    c.args.plan.now.line c.requires.plan.latest)

pub restarted_incarnations-requires-clause-line : goal.restarted_incarnations-requires-clause-line
restarted_incarnations-requires-clause-line c =
    c.requires.plan.latest.recoverable.length_is ∙ ap (λ (m : Machine). length m.history)
    (sym c.self.view_is) ∙ ap (λ (h : List Process). length h)
    (sym c.history-history.ensures.processes)

pub restart-requires-clause-transit : goal.restart-requires-clause-transit
restart-requires-clause-transit c =
    let same : c.history-history.result.now.processes ≡ c.args.self.now.history =
    c.history-history.ensures.processes ∙ ap (λ (m : Machine). m.history) c.self.view_is in
    c.deref.ensures.value
    ∙ c.in_ok-left.ensures.items
    ∙ c.as_slice.ensures.value
    ∙ c.requires.plan.replays
    ∙ ap (λ (h : List Process). in_transit h c.args.plan.now.line) (sym same)

pub restart-requires-clause-queued : goal.restart-requires-clause-queued
restart-requires-clause-queued c =
    subst (λ (h : List Process). AreQueues h c.self.inside.links)
    (sym c.history-history.ensures.processes) c.self.invariant.0.queued

pub restart_with-requires-clause-line : goal.restart_with-requires-clause-line
restart_with-requires-clause-line c =
    subst (λ (m : Machine). IsLine m.history c.args.plan.now.line) (sym c.self.view_is)
    (IsLine-latest c.args.self.now.history c.args.self.now.marks c.args._failed.now
    c.args.plan.now.line c.requires.plan.latest)

pub restart_with-requires-clause-consistent : goal.restart_with-requires-clause-consistent
restart_with-requires-clause-consistent c =
    subst (λ (m : Machine). IsConsistent m.history c.args.plan.now.line)
    (sym c.self.view_is) c.requires.plan.latest.recoverable.consistent

pub restart_with-requires-clause-further : goal.restart_with-requires-clause-further
restart_with-requires-clause-further c =
    subst (λ (h : List Process). HaveFurther h c.args.plan.now.line)
    c.history-history.ensures.processes (c.has_further.ensures.0 c.if-not-has_further.false)

pub restart_with-requires-clause-left : goal.restart_with-requires-clause-left
restart_with-requires-clause-left c =
    c.in_ok-left.ensures.items ∙ c.as_slice.ensures.value ∙ c.requires.plan.replays ∙ ap
    (λ (m : Machine). in_transit m.history c.args.plan.now.line) (sym c.self.view_is)

pub restart-requires-clause-line : goal.restart-requires-clause-line
restart-requires-clause-line c =
    let same : c.history-history.result.now.processes ≡ c.args.self.now.history =
    c.history-history.ensures.processes ∙ ap (λ (m : Machine). m.history) c.self.view_is in
    subst (λ (h : List Process). IsLine h c.args.plan.now.line) (sym same)
    (IsLine-latest c.args.self.now.history c.args.self.now.marks c.args._failed.now
    c.args.plan.now.line c.requires.plan.latest)

pub restart-requires-clause-following : goal.restart-requires-clause-following
restart-requires-clause-following c = subst (λ (h : List Process). IsFollowing h
    c.self.inside.protocol) (sym c.history-history.ensures.processes) c.self.invariant.2

pub invariant_of-self-2 : goal.invariant_of-self-2
invariant_of-self-2 c =
    let w : Inside = c.self.inside in
    let mode : Mode = mode_of w.protocol in
    let old : List Process = w.catalogue.processes in
    let new : List (List (List Item)) = c.restart.new.links in
    let line : List Choice = c.args.plan.now.line in
    let size : length line ≡ length old = c.requires.plan.latest.recoverable.length_is ∙ ap
    (λ (m : Machine). length m.history) (sym c.self.view_is) in
    let consistent : IsConsistent old line = subst (λ (m : Machine). IsConsistent m.history line)
    (sym c.self.view_is) c.requires.plan.latest.recoverable.consistent in
    let queued : AreQueues old new = subst (λ (h : List Process). AreQueues h new)
    c.history-history.ensures.processes c.in_ok-restart.ensures.queued in
    kept_with mode None c.restart.new.self c.restart.ensures.mode c.in_ok-restart.ensures.closed
    c.restart_with.new.self.processes (restarted_history old line)
    c.restart_with.ensures.processes new w.last_round c.keep.new.self.items
    (IsWorld-restart old w.links new line size consistent queued mode c.self.invariant.0
    (subst (λ (h : List Process). (p q : ℕ) → p < length h → q < length h
    → between new p q
    ≡ between (copies_in mode w.links) p q ++ map (λ m. Message m) (in_transit_between h line p
    q)) c.history-history.ensures.processes c.in_ok-restart.ensures.put))
    (subst (λ (rounds : List ListedRound). AreRounds mode
    (restarted_history old line) w.last_round None rounds) (sym c.keep.ensures)
    (AreRounds-restarted mode old line w.last_round
    (open_round_of w.protocol) w.rounds.items size c.self.invariant.1))
    (subst (λ (h : List Process). IsFollowing (restarted_history h line) c.restart.new.self)
    c.history-history.ensures.processes c.in_ok-restart.ensures.following)

pub invariant_of-self : goal.invariant_of-self
invariant_of-self c =
    let w : Inside = c.self.inside in
    let old : List Process = w.catalogue.processes in
    let kept : c.restart.new.self ≡ w.protocol = c.in_err-restart.ensures.kept in
    kept_with (mode_of w.protocol) (open_round_of w.protocol) c.restart.new.self (ap mode_of kept)
    (ap open_round_of kept) old old refl c.restart.new.links w.last_round w.rounds.items
    (subst (λ (queues : List (List (List Item))). IsWorld (mode_of w.protocol) old queues)
    (sym c.in_err-restart.ensures.err) c.self.invariant.0) c.self.invariant.1
    (subst (IsFollowing old) (sym kept) c.self.invariant.2)

pub returns-in_err-restart-clause-memory : goal.returns-in_err-restart-clause-memory
returns-in_err-restart-clause-memory c = λ _.
    let w : Inside = c.self.inside in
    ap (λ (m : Mode). seen m w.catalogue.processes w.catalogue.marks w.last_round w.rounds.items
    c.restart.new.links) c.restart.ensures.mode
    ∙ ap (λ (queues : List (List (List Item))). seen (mode_of w.protocol) w.catalogue.processes
    w.catalogue.marks w.last_round w.rounds.items queues) c.in_err-restart.ensures.err
    ∙ c.self.view_is

pub returns-clause-done : goal.returns-clause-done
returns-clause-done c =
    let mode : Mode = mode_of c.self.inside.protocol in
    let old : List Process = c.self.inside.catalogue.processes in
    let marks : MarksView = c.self.inside.catalogue.marks in
    let last : ℕ = c.self.inside.last_round in
    let links : List (List (List Item)) = c.self.inside.links in
    let new : List (List (List Item)) = c.restart.new.links in
    let line : List Choice = c.args.plan.now.line in
    let size : length line ≡ length old = c.requires.plan.latest.recoverable.length_is ∙ ap
    (λ (m : Machine). length m.history) (sym c.self.view_is) in
    let consistent : IsConsistent old line = subst (λ (m : Machine). IsConsistent m.history line)
    (sym c.self.view_is) c.requires.plan.latest.recoverable.consistent in
    let queued : AreQueues old new = subst (λ (h : List Process). AreQueues h new)
    c.history-history.ensures.processes c.in_ok-restart.ensures.queued in
    let same : c.history-history.result.now.processes ≡ c.args.self.now.history =
    c.history-history.ensures.processes ∙ ap (λ (m : Machine). m.history) c.self.view_is in
    record {
      plan_is = c.requires.plan;
      further = subst (λ (h : List Process). HaveFurther h line) same
          (c.has_further.ensures.0 c.if-not-has_further.false);
      states_are = c.in_ok-states.ensures ∙ ap (λ (h : List Process). restored_states h line) same;
      incarnations_are = c.in_ok-incarnations.ensures ∙ ap
          (λ (h : List Process). map (λ (process : Process). process.incarnation)
          (restarted_history h line)) c.history-history.ensures.processes
          ∙ ap (λ (h : List Process). map (λ (process : Process). process.incarnation) h)
          (sym c.restart_with.ensures.processes);
      new_is = ap (λ (m : Mode). seen m c.restart_with.new.self.processes
          c.restart_with.new.self.marks last c.keep.new.self.items new) c.restart.ensures.mode
          ∙ ap (λ (h : List Process). seen mode h c.restart_with.new.self.marks last
          c.keep.new.self.items new) c.restart_with.ensures.processes
          ∙ ap (λ (v : MarksView). seen mode (restarted_history old line) v last
          c.keep.new.self.items new) c.restart_with.ensures.marks
          ∙ ap (λ (rounds : List ListedRound). seen mode (restarted_history old line)
          (restarted_marks marks line) last rounds new) c.keep.ensures
          ∙ ap (λ (copies : List (List (List MsgName))). let m : Machine = record {
            mode = mode;
            history = restarted_history old line;
            marks = restarted_marks marks
                line;
            last_round =
                last;
            rounds = filter (stays line) c.self.inside.rounds.items;
            copies = copies;
          } in m)
          (seen-restart old links new line size consistent queued mode
          (subst (λ (h : List Process). (p q : ℕ) → p < length h → q < length h
          → between new p q
          ≡ between (copies_in mode links) p q ++ map (λ m. Message m) (in_transit_between h
          line p q)) c.history-history.ensures.processes c.in_ok-restart.ensures.put))
          ∙ ap (λ (m : Machine). restarted_machine m line) c.self.view_is;
    }
