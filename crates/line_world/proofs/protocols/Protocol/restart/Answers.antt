-- All checks of rounds are cut, and the messages in transit are received no longer.
use Rattle.std.proofs.Common.{List, subst}
use Rattle.line_names.specs.declared.choices.Choice.{Choice}
use Rattle.line_tape.specs.History.{Process}
use Rattle.line_laws.proofs.ColourRounds.{coloured_restarted}
use Rattle.line_world.specs.declared.protocols.Protocol.TheVariants.{Colours}
use Rattle.line_world.specs.Protocols.{IsFollowing}
use Rattle.line_world.proofs.protocols.Protocol.restart.Goals as goal

pub returns-in_ok-restart_copies-in-Colours-clause-following :
    goal.returns-in_ok-restart_copies-in-Colours-clause-following
returns-in_ok-restart_copies-in-Colours-clause-following c =
    let history : List Process = c.args.history.now.processes in
    let line : List Choice = c.args.line.now in
    let following : IsFollowing history
    (Colours c.in-Colours.turning c.in-Colours.colours c.in-Colours.received) =
    subst (IsFollowing history) c.in-Colours.is c.requires.following in (
      record {
        turned = c.clear.ensures.restart history line c.requires.line.length_is
            following.0.turned;
        coloured =
            coloured_restarted history line c.requires.line.length_is;
      },
      c.restart.ensures.restart following.1,
    )
