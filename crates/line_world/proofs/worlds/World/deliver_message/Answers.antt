-- The kind of links, and what becomes of a copy, say how a message is delivered.
use Rattle.std.proofs.Common.{◌≡◌, ℕ, List, length, Option, Some, None, sym, ap, ◌∙◌, subst, arith}
use Rattle.std.specs.Prelude.{slice_get}
use Rattle.line_names.specs.declared.messages.MsgName.{MsgName}
use Rattle.line_tape.specs.declared.items.Item.TheVariants.{Message}
use Rattle.line_tape.specs.Event.{Holds}
use Rattle.line_tape.specs.Fit.{IsSentTo}
use Rattle.line_tape.specs.History.{Process, tape_at}
use Rattle.line_tape.proofs.HistoryLemmas.{IsHistory-at}
use Rattle.line_moves.specs.declared.fates.Fate.{Fate}
use Rattle.line_moves.specs.declared.fates.Fate.TheVariants.{Stale as IsStale}
use Rattle.line_moves.specs.declared.fates.Fate.TheVariants.{Repeated as IsRepeated}
use Rattle.line_tape.specs.declared.modes.Mode.TheVariants.{Unordered}
use Rattle.line_moves.specs.Fates.{events_of, fate_of, forced_round}
use Rattle.line_world.specs.declared.replies.Answer.TheVariants.{Done}
use Rattle.line_world.specs.declared.replies.Reply.{Reply}
use Rattle.line_world.specs.declared.replies.Reply.TheVariants.{Stale, Repeated}
use Rattle.line_tape.specs.declared.steps.Step.TheVariants.{Deliver}
use Rattle.line_world.specs.declared.worlds.World.TheInside.{Inside}
use Rattle.line_world.specs.Machine.{Machine, items_on}
use Rattle.line_world.specs.Protocols.{mode_of}
use Rattle.line_world.specs.Refusals.{first_cause, link_causes}
use Rattle.line_world.specs.Runs.{Takes}
use Rattle.line_world.specs.Steps.{reply_of}
use Rattle.line_world.proofs.DeliverLemmas.{Takes-idle}
use Rattle.line_world.proofs.FlaggedLemmas.{sent_here}
use Rattle.line_world.proofs.KnownFacts.{here, is_coloured, is_picked, is_taken_copy, IsColoured}
use Rattle.line_world.proofs.KnownFacts.{IsPicked, IsTakenCopy}
use Rattle.line_world.proofs.SeenLemmas.{seen}
use Rattle.line_world.proofs.worlds.World.deliver_message.Goals as goal

pub fate_of-requires-clause-from : goal.fate_of-requires-clause-from
fate_of-requires-clause-from c =
    let picked = is_picked c.self.inside c.args.self.now c.self.view_is c.self.invariant
    c.args.place.from c.args.place.to c.args.place.pick c.args.state.now c.requires.passed
    (Message c.args.message.now) c.requires.picked in
    omega (
      arith,
      picked.of_sender,
      picked.from_in,
      ap
          (λ (h : List Process). length h) c.history.ensures.processes,
    )

pub fate_of-requires-clause-to : goal.fate_of-requires-clause-to
fate_of-requires-clause-to c = λ held.
    let w : Inside = c.self.inside in
    let history : List Process = w.catalogue.processes in
    let m : MsgName = c.args.message.now in
    let same : c.history.result.now.processes ≡ history = c.history.ensures.processes in
    let p : IsPicked w c.args.place.from c.args.place.to c.args.place.pick (Message m) =
    is_picked w c.args.self.now c.self.view_is c.self.invariant c.args.place.from c.args.place.to
    c.args.place.pick c.args.state.now c.requires.passed (Message m) c.requires.picked in
    let is : IsColoured w c.in-Colours.turning c.in-Colours.colours c.in-Colours.received =
    is_coloured w c.args.self.now c.self.view_is c.self.invariant c.in-Colours.turning
    c.in-Colours.colours c.in-Colours.received c.in-Colours.is in
    subst (λ (h : List Process). IsSentTo h c.args.place.to m) (sym same)
    (sent_here history w.links c.args.place.from c.args.place.to m c.args.place.pick p.from_in
    p.to_in p.at is.world
    (subst (λ (h : List Process). Holds (tape_at h m.from) m.inc m.number) same held))

pub returns-in-Stale-clause-done : goal.returns-in-Stale-clause-done
returns-in-Stale-clause-done c =
    let w : Inside = c.self.inside in
    let history : List Process = w.catalogue.processes in
    let from : ℕ = c.args.place.from in
    let to : ℕ = c.args.place.to in
    let pick : ℕ = c.args.place.pick in
    let m : MsgName = c.args.message.now in
    let state : List ℕ = c.args.state.now in
    let is : IsColoured w c.in-Colours.turning c.in-Colours.colours c.in-Colours.received =
    is_coloured w c.args.self.now c.self.view_is c.self.invariant c.in-Colours.turning
    c.in-Colours.colours c.in-Colours.received c.in-Colours.is in
    let p : IsPicked w from to pick (Message m) = is_picked w c.args.self.now c.self.view_is
    c.self.invariant from to pick state c.requires.passed (Message m) c.requires.picked in
    let old : Machine = seen Unordered history w.catalogue.marks w.last_round w.rounds.items w.links
    in
    let same : old ≡ c.args.self.now = here w c.args.self.now c.self.view_is c.self.invariant
    Unordered is.mode_is in
    let forced : Option ℕ = forced_round Unordered history to m in
    let fate : fate_of Unordered history to m
    ≡ IsStale = ap (λ (h : List Process). fate_of Unordered h to m)
    (sym c.history.ensures.processes) ∙ sym c.fate_of.ensures ∙ c.in-Stale.is in
    subst (λ (v : Machine). Takes v (Deliver from to pick state) (Done (Stale m)) v) same
    (subst (λ (r : Reply). Takes old (Deliver from to pick state) (Done r) old)
    (ap (λ (f : Fate). reply_of f forced m) fate)
    (Takes-idle old from to pick state (Message m)
    (subst (λ (v : Machine). first_cause (link_causes v from to pick state) ≡ None)
    (sym same) c.requires.passed)
    (subst (λ (v : Machine). slice_get (items_on v from to) pick ≡ Some (Message m))
    (sym same) c.requires.picked)
    (ap (λ (f : Fate). events_of f forced state m) fate)
    (IsHistory-at history to p.to_in c.n-n.ensures.limits).tape.few))

pub returns-in-Repeated-clause-done : goal.returns-in-Repeated-clause-done
returns-in-Repeated-clause-done c =
    let w : Inside = c.self.inside in
    let history : List Process = w.catalogue.processes in
    let from : ℕ = c.args.place.from in
    let to : ℕ = c.args.place.to in
    let pick : ℕ = c.args.place.pick in
    let m : MsgName = c.args.message.now in
    let state : List ℕ = c.args.state.now in
    let is : IsColoured w c.in-Colours.turning c.in-Colours.colours c.in-Colours.received =
    is_coloured w c.args.self.now c.self.view_is c.self.invariant c.in-Colours.turning
    c.in-Colours.colours c.in-Colours.received c.in-Colours.is in
    let p : IsPicked w from to pick (Message m) = is_picked w c.args.self.now c.self.view_is
    c.self.invariant from to pick state c.requires.passed (Message m) c.requires.picked in
    let old : Machine = seen Unordered history w.catalogue.marks w.last_round w.rounds.items w.links
    in
    let same : old ≡ c.args.self.now = here w c.args.self.now c.self.view_is c.self.invariant
    Unordered is.mode_is in
    let forced : Option ℕ = forced_round Unordered history to m in
    let fate : fate_of Unordered history to m
    ≡ IsRepeated = ap (λ (h : List Process). fate_of Unordered h to m)
    (sym c.history.ensures.processes) ∙ sym c.fate_of.ensures ∙ c.in-Repeated.is in
    subst (λ (v : Machine). Takes v (Deliver from to pick state) (Done (Repeated m)) v) same
    (subst (λ (r : Reply). Takes old (Deliver from to pick state) (Done r) old)
    (ap (λ (f : Fate). reply_of f forced m) fate)
    (Takes-idle old from to pick state (Message m)
    (subst (λ (v : Machine). first_cause (link_causes v from to pick state) ≡ None)
    (sym same) c.requires.passed)
    (subst (λ (v : Machine). slice_get (items_on v from to) pick ≡ Some (Message m))
    (sym same) c.requires.picked)
    (ap (λ (f : Fate). events_of f forced state m) fate)
    (IsHistory-at history to p.to_in c.n-n.ensures.limits).tape.few))

-- what a delivery of each kind asks for
pub take_first-requires-clause-fifo : goal.take_first-requires-clause-fifo
take_first-requires-clause-fifo c =
    sym (ap (λ (v : Machine). v.mode) c.self.view_is) ∙ ap mode_of c.in-Markers.is

pub take_unforced-requires-clause-unordered : goal.take_unforced-requires-clause-unordered
take_unforced-requires-clause-unordered c =
    sym (ap (λ (v : Machine). v.mode) c.self.view_is) ∙ ap mode_of c.in-Colours.is

pub take_unforced-requires-clause-taken : goal.take_unforced-requires-clause-taken
take_unforced-requires-clause-taken c =
    let w : Inside = c.self.inside in
    let m : MsgName = c.args.message.now in
    let copy : IsTakenCopy w c.in-Colours.turning c.in-Colours.colours c.in-Colours.received
    c.args.place.from c.args.place.to c.args.place.pick m None =
    is_taken_copy w c.args.self.now c.self.view_is c.self.invariant c.args.place.from
    c.args.place.to c.args.place.pick c.args.state.now c.requires.passed c.in-Colours.turning
    c.in-Colours.colours c.in-Colours.received c.in-Colours.is m c.requires.picked
    c.history.result.now.processes c.history.ensures.processes c.fate_of.result c.fate_of.ensures
    c.in-Taken.is c.before_receive.result c.before_receive.ensures None c.in-None.is in
    ap (λ (h : List Process). fate_of Unordered h c.args.place.to m)
    (sym (ap (λ (v : Machine). v.history) c.self.view_is)) ∙ copy.fate

pub take_unforced-requires-clause-unforced : goal.take_unforced-requires-clause-unforced
take_unforced-requires-clause-unforced c =
    let w : Inside = c.self.inside in
    let m : MsgName = c.args.message.now in
    let copy : IsTakenCopy w c.in-Colours.turning c.in-Colours.colours c.in-Colours.received
    c.args.place.from c.args.place.to c.args.place.pick m None =
    is_taken_copy w c.args.self.now c.self.view_is c.self.invariant c.args.place.from
    c.args.place.to c.args.place.pick c.args.state.now c.requires.passed c.in-Colours.turning
    c.in-Colours.colours c.in-Colours.received c.in-Colours.is m c.requires.picked
    c.history.result.now.processes c.history.ensures.processes c.fate_of.result c.fate_of.ensures
    c.in-Taken.is c.before_receive.result c.before_receive.ensures None c.in-None.is in
    ap (λ (h : List Process). forced_round Unordered h c.args.place.to m)
    (sym (ap (λ (v : Machine). v.history) c.self.view_is)) ∙ copy.forces

pub take_forced-requires-clause-unordered : goal.take_forced-requires-clause-unordered
take_forced-requires-clause-unordered c =
    sym (ap (λ (v : Machine). v.mode) c.self.view_is) ∙ ap mode_of c.in-Colours.is

pub take_forced-requires-clause-taken : goal.take_forced-requires-clause-taken
take_forced-requires-clause-taken c =
    let w : Inside = c.self.inside in
    let m : MsgName = c.args.message.now in
    let copy : IsTakenCopy w c.in-Colours.turning c.in-Colours.colours c.in-Colours.received
    c.args.place.from c.args.place.to c.args.place.pick m (Some c.in-Some.round) =
    is_taken_copy w c.args.self.now c.self.view_is c.self.invariant c.args.place.from
    c.args.place.to c.args.place.pick c.args.state.now c.requires.passed c.in-Colours.turning
    c.in-Colours.colours c.in-Colours.received c.in-Colours.is m c.requires.picked
    c.history.result.now.processes c.history.ensures.processes c.fate_of.result c.fate_of.ensures
    c.in-Taken.is c.before_receive.result c.before_receive.ensures
    (Some c.in-Some.round) c.in-Some.is in
    ap (λ (h : List Process). fate_of Unordered h c.args.place.to m)
    (sym (ap (λ (v : Machine). v.history) c.self.view_is)) ∙ copy.fate

pub take_forced-requires-clause-forced : goal.take_forced-requires-clause-forced
take_forced-requires-clause-forced c =
    let w : Inside = c.self.inside in
    let m : MsgName = c.args.message.now in
    let copy : IsTakenCopy w c.in-Colours.turning c.in-Colours.colours c.in-Colours.received
    c.args.place.from c.args.place.to c.args.place.pick m (Some c.in-Some.round) =
    is_taken_copy w c.args.self.now c.self.view_is c.self.invariant c.args.place.from
    c.args.place.to c.args.place.pick c.args.state.now c.requires.passed c.in-Colours.turning
    c.in-Colours.colours c.in-Colours.received c.in-Colours.is m c.requires.picked
    c.history.result.now.processes c.history.ensures.processes c.fate_of.result c.fate_of.ensures
    c.in-Taken.is c.before_receive.result c.before_receive.ensures
    (Some c.in-Some.round) c.in-Some.is in
    ap (λ (h : List Process). forced_round Unordered h c.args.place.to m)
    (sym (ap (λ (v : Machine). v.history) c.self.view_is)) ∙ copy.forces
