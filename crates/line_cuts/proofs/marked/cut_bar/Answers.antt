-- The bar goes down by the checks that are let go.
use Rattle.std.proofs.Common.{◌≡◌, ◌-◌, [], ℕ, Some, None, sym, ap, ◌∙◌}
use Rattle.std.proofs.lemmas.List.{get_or-set_same}
use Rattle.line_tape.specs.Views.{MarksView, bar_at}
use Rattle.line_cuts.specs.Cuts.{Floor, cut_bar, lost_checks}
use Rattle.line_cuts.proofs.SurvivalCuts.{bar_cut}
use Rattle.line_cuts.proofs.marked.cut_bar.Goals as goal

pub returns-in-Ok-clause-bar : goal.returns-in-Ok-clause-bar
returns-in-Ok-clause-bar c =
    let marks : MarksView = c.args.marks.now in
    let floor : Floor = c.args.floor.now in
    let p : ℕ = c.args.p in
    let lower : c.saturating_sub.result ≡ c.in-Some.bar - lost_checks floor p =
    c.saturating_sub.ensures ∙ ap (λ (n : ℕ). c.in-Some.bar - n) c.checks_lost.ensures in
    ap (λ (m : MarksView). bar_at m p) c.in-Ok.ensures.ok
    ∙ get_or-set_same c.args.cut.now.bars p (Some c.saturating_sub.result) None c.requires.place
    ∙ ap Some lower
    ∙ ap (cut_bar (lost_checks floor p)) c.in-Some.ensures
    ∙ sym (bar_cut floor [] marks p)

pub returns-in-None-clause-bar : goal.returns-in-None-clause-bar
returns-in-None-clause-bar c =
    let floor : Floor = c.args.floor.now in
    let p : ℕ = c.args.p in
    c.requires.none
    ∙ ap (cut_bar (lost_checks floor p)) c.in-None.ensures
    ∙ sym (bar_cut floor [] c.args.marks.now p)
