use Rattle.std.proofs.Common.{◌≡◌, ◌∙◌, ℕ, List, map, sym, ap, subst}
use Rattle.line_names.specs.declared.choices.Choice.{Choice}
use Rattle.line_tape.specs.declared.items.Item.TheVariants.{Message}
use Rattle.line_tape.specs.Fit.{IsFitFifo}
use Rattle.line_tape.specs.History.{Process}
use Rattle.line_tape.specs.Restart.{restarted_history}
use Rattle.line_tape.specs.Survival.{IsLatest}
use Rattle.line_tape.specs.Transit.{in_transit_between}
use Rattle.line_posts.specs.Gathered.{GatheredView, HasOwn}
use Rattle.line_posts.specs.Openings.{parcels_left, ArePlain}
use Rattle.line_posts.specs.Parcels.{items_of_parcels}
use Rattle.line_posts.specs.Preparations.{AreJournals, IsPrepared}
use Rattle.line_posts.specs.Replays.{packets_of, AreAllReplays}
use Rattle.line_posts.proofs.RoundsGathered.{if_ok_then}
use Rattle.line_posts.proofs.RestartLemmas.{restart_fits, restart_plain, restart_links}
use Rattle.line_posts.proofs.gathering.Gathered.prepare_next.Goals as goal

fits : (v : GatheredView) (line : List Choice) → HasOwn v.failed v.processes
    → IsLatest v.processes v.marks v.failed line → IsFitFifo (restarted_history v.processes line)
fits v line has latest = restart_fits v.processes v.marks v.failed line has latest

links : (v : GatheredView) (line : List Choice) → HasOwn v.failed v.processes
    → IsLatest v.processes v.marks v.failed line → (p q : ℕ)
    → items_of_parcels p (parcels_left (restarted_history v.processes line) p q)
    ≡ map (λ m. Message m) (in_transit_between v.processes line p q)
links v line has latest = restart_links v.processes v.marks v.failed line has latest

pub returns-clause-fit : goal.returns-clause-fit
returns-clause-fit c = fits c.args.self.now c.args.plan.now.line (subst (λ (g : GatheredView).
    HasOwn g.failed g.processes) c.self.view_is c.self.invariant) c.requires.latest

pub returns-clause-links : goal.returns-clause-links
returns-clause-links c = links c.args.self.now c.args.plan.now.line (subst (λ (g : GatheredView).
    HasOwn g.failed g.processes) c.self.view_is c.self.invariant) c.requires.latest

pub returns-in_err-journals-clause-fit : goal.returns-in_err-journals-clause-fit
returns-in_err-journals-clause-fit c = fits c.args.self.now c.args.plan.now.line (subst (λ (g :
    GatheredView). HasOwn g.failed g.processes) c.self.view_is c.self.invariant) c.requires.latest

pub returns-in_err-journals-clause-links : goal.returns-in_err-journals-clause-links
returns-in_err-journals-clause-links c = links c.args.self.now c.args.plan.now.line (subst (λ (g :
    GatheredView). HasOwn g.failed g.processes) c.self.view_is c.self.invariant) c.requires.latest

pub returns-in_err-replays-clause-fit : goal.returns-in_err-replays-clause-fit
returns-in_err-replays-clause-fit c = fits c.args.self.now c.args.plan.now.line (subst (λ (g :
    GatheredView). HasOwn g.failed g.processes) c.self.view_is c.self.invariant) c.requires.latest

pub returns-in_err-replays-clause-links : goal.returns-in_err-replays-clause-links
returns-in_err-replays-clause-links c = links c.args.self.now c.args.plan.now.line (subst (λ (g :
    GatheredView). HasOwn g.failed g.processes) c.self.view_is c.self.invariant) c.requires.latest

pub all_replays-requires-clause-plain : goal.all_replays-requires-clause-plain
all_replays-requires-clause-plain c =
    let v = c.args.self.now in
    let has = subst
    (λ (g : GatheredView). HasOwn g.failed g.processes) c.self.view_is c.self.invariant in
    let is = c.history-history.ensures.processes ∙ ap
    (λ (g : GatheredView). g.processes) c.self.view_is in
    subst (λ (h : List Process). ArePlain (restarted_history h c.args.plan.now.line)) (sym is)
    (restart_plain v.processes v.marks v.failed c.args.plan.now.line has c.requires.latest)

pub all_replays-requires-clause-links : goal.all_replays-requires-clause-links
all_replays-requires-clause-links c =
    let has = subst
    (λ (g : GatheredView). HasOwn g.failed g.processes) c.self.view_is c.self.invariant in
    let is = c.history-history.ensures.processes ∙ ap
    (λ (g : GatheredView). g.processes) c.self.view_is in
    subst (λ (h : List Process). (p q : ℕ)
    → items_of_parcels p (parcels_left (restarted_history h c.args.plan.now.line) p q)
    ≡ map (λ m. Message m) (in_transit_between h c.args.plan.now.line p q)) (sym is)
    (links c.args.self.now c.args.plan.now.line has c.requires.latest)

pub returns-clause-prepared : goal.returns-clause-prepared
returns-clause-prepared c =
    let line = c.args.plan.now.line in
    let inside = c.self.inside in
    if_ok_then c.prepare.result
    (λ prepared. (opening : List Process) (floor : ℕ)
    → AreJournals opening floor c.in_ok-journals.journals.items
    → AreAllReplays opening (packets_of c.in_ok-replays.replays.items)
    → IsPrepared opening floor inside.capacity prepared)
    (λ prepared. IsPrepared (restarted_history c.args.self.now.processes line) c.args.self.now.floor
    c.args.self.now.capacity prepared)
    (λ prepared f.
    subst (λ (g : GatheredView). IsPrepared
    (restarted_history g.processes line) g.floor g.capacity prepared) c.self.view_is
    (subst (λ (h : List Process). IsPrepared
    (restarted_history h line) inside.floor inside.capacity prepared)
    c.history-history.ensures.processes
    (f (restarted_history c.history-history.result.now.processes line) inside.floor
    c.in_ok-journals.ensures c.in_ok-replays.ensures)))
    c.prepare.ensures
