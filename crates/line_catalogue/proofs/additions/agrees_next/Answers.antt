-- By the kind of the event: the history agrees with one that agrees with it.
use Rattle.std.proofs.Common.{List, refl, sym, ◌∙◌, subst}
use Rattle.std.proofs.lemmas.Bool.{eqb-true, eq-eqb}
use Rattle.line_tape.specs.declared.events.Event.{Event}
use Rattle.line_tape.specs.declared.events.Event.TheVariants.{Send, Recv, Check, Mark}
use Rattle.line_tape.specs.History.{Process}
use Rattle.line_catalogue.specs.Agreement.{AgreesNext, IsSentAsNow}
use Rattle.line_catalogue.proofs.AgreementLemmas.{Agrees-more, Agrees-last, NameAgrees-before}
use Rattle.line_catalogue.proofs.additions.agrees_next.Goals as goal

pub returns-in-Send : goal.returns-in-Send
returns-in-Send c =
    let history : List Process = c.args.history.now.processes in
    let event : Event = Send c.in-Send.to c.in-Send.inc c.in-Send.body in (
      λ h.
          let now : IsSentAsNow history c.args.p event = eqb-true _ _ h ∙ c.incarnation.ensures in
          subst (AgreesNext history c.args.p) (sym c.in-Send.is) (record {
            agrees = Agrees-more
                history c.args.p event c.requires.process now tt c.requires.agrees;
            present = now;
          }),
      λ next.
          let now : IsSentAsNow history c.args.p event = subst
          (IsSentAsNow history c.args.p) c.in-Send.is next.present in
          eq-eqb _ _ (now ∙ sym c.incarnation.ensures),
    )

pub returns-in-Recv : goal.returns-in-Recv
returns-in-Recv c =
    let history : List Process = c.args.history.now.processes in
    let event : Event = Recv c.in-Recv.message in (
      λ h. subst (AgreesNext history c.args.p) (sym c.in-Recv.is)
          (record {
            agrees = Agrees-more history c.args.p event c.requires.process tt
                (c.name_agrees.ensures.0 h) c.requires.agrees;
            present = tt;
          }),
      λ next.
          let all : AgreesNext history c.args.p event = subst
          (AgreesNext history c.args.p) c.in-Recv.is next in
          c.name_agrees.ensures.1 (NameAgrees-before history c.args.p event c.requires.process refl
          c.in-Recv.message (Agrees-last history c.args.p event c.requires.process all.agrees)),
    )

pub returns-in-Check : goal.returns-in-Check
returns-in-Check c =
    let history : List Process = c.args.history.now.processes in
    let event : Event = Check c.in-Check.state c.in-Check.round in (
      λ h. subst (AgreesNext history c.args.p) (sym c.in-Check.is)
          (record {
            agrees = Agrees-more history c.args.p event c.requires.process tt tt
                c.requires.agrees;
            present = tt;
          }),
      λ next. refl,
    )

pub returns-in-Mark : goal.returns-in-Mark
returns-in-Mark c =
    let history : List Process = c.args.history.now.processes in
    let event : Event = Mark c.in-Mark.from c.in-Mark.round in (
      λ h. subst (AgreesNext history c.args.p) (sym c.in-Mark.is)
          (record {
            agrees = Agrees-more history c.args.p event c.requires.process tt tt
                c.requires.agrees;
            present = tt;
          }),
      λ next. refl,
    )
