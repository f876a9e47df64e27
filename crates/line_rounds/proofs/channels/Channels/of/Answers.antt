-- What is gathered are the channels.
use Rattle.std.proofs.Common.{◌≡◌, ◌∙◌, ℕ, [], List, length, get_or, sym, ap, subst}
use Rattle.std.specs.List.{All}
use Rattle.std.proofs.lemmas.Result.{IfOk-weaker}
use Rattle.line_names.specs.declared.messages.MsgName.{MsgName}
use Rattle.line_tape.specs.History.{Process}
use Rattle.line_rounds.specs.Channels.{channels_at}
use Rattle.line_rounds.specs.Inboxes.{messages_from, AreFrom, AreByAddressee}
use Rattle.line_rounds.specs.Tables.{table_of, IsTable}
use Rattle.line_rounds.proofs.GatherLemmas.{gathered_channels, gathered_from}
use Rattle.line_rounds.proofs.TableLemmas.{IsTable-of}
use Rattle.line_rounds.proofs.channels.Channels.of.Goals as goal

pub keep-requires-clause-from : goal.keep-requires-clause-from
keep-requires-clause-from c =
    let history : List Process = c.args.history.now.processes in
    let rows : List (List MsgName) = c.deref.result.now in
    let gathered : AreByAddressee history c.args.messages.now rows =
    subst (λ (v : List (List MsgName)). AreByAddressee history c.args.messages.now v)
    (sym c.deref.ensures.value) c.in_ok-rows.ensures in
    subst (λ (v : ℕ). All (AreFrom v) rows) (sym c.n.ensures.value)
    (gathered_from history c.args.messages.now rows gathered)

pub returns-clause-transit : goal.returns-clause-transit
returns-clause-transit c = λ line found.
    let history : List Process = c.args.history.now.processes in
    let rows : List (List MsgName) = c.deref.result.now in
    let gathered : AreByAddressee history c.args.messages.now rows =
    subst (λ (v : List (List MsgName)). AreByAddressee history c.args.messages.now v)
    (sym c.deref.ensures.value) c.in_ok-rows.ensures in
    let lists : ℕ → ℕ → List MsgName = λ p q. messages_from p (get_or rows q []) in
    IfOk-weaker c.keep.result (λ (t : List (List (List MsgName))). t ≡ table_of c.n.result lists)
    (λ (t : List (List (List MsgName))). t ≡ channels_at history line) (λ channels is. is
    ∙ gathered_channels history c.args.messages.now line rows c.n.result c.n.ensures.value found
    gathered) c.keep.ensures

pub returns-clause-table : goal.returns-clause-table
returns-clause-table c =
    let history : List Process = c.args.history.now.processes in
    let rows : List (List MsgName) = c.deref.result.now in
    let lists : ℕ → ℕ → List MsgName = λ p q. messages_from p (get_or rows q []) in
    IfOk-weaker c.keep.result (λ (t : List (List (List MsgName))). t ≡ table_of c.n.result lists)
    (IsTable (length history))
    (λ channels is. subst (IsTable (length history))
    (sym (is ∙ ap (λ (v : ℕ). table_of v lists) c.n.ensures.value))
    (IsTable-of (length history) lists)) c.keep.ensures
