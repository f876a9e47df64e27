-- What the contracts of the calls that are handed on say: each file of definitions that they name,
-- under its own name; where two crates have a file of one name, under that of its subject.

-- Names, choices and lines.
pub use Rattle.line_names.specs.Lines
pub use Rattle.line_names.specs.Order
pub use Rattle.line_names.specs.Sets
-- Events, tapes, histories and marks, and what is latest, in transit and left by a restart.
pub use Rattle.line_tape.specs.Chain
pub use Rattle.line_tape.specs.Event
pub use Rattle.line_tape.specs.Fit
pub use Rattle.line_tape.specs.Front
pub use Rattle.line_tape.specs.History
pub use Rattle.line_tape.specs.Line
pub use Rattle.line_tape.specs.Received
pub use Rattle.line_tape.specs.Restart
pub use Rattle.line_tape.specs.Rounds
pub use Rattle.line_tape.specs.Shown as EventShown
pub use Rattle.line_tape.specs.Survival
pub use Rattle.line_tape.specs.Transit
pub use Rattle.line_tape.specs.Views
-- What the types of some values are in contracts.
pub use Rattle.line_names.specs.declared.certificates.Passed
pub use Rattle.line_names.specs.declared.choices.Choice
pub use Rattle.line_names.specs.declared.messages.MsgName
pub use Rattle.line_tape.specs.declared.events.Event as EventValue
pub use Rattle.line_tape.specs.declared.items.Item
pub use Rattle.line_tape.specs.declared.modes.Mode
pub use Rattle.line_world.specs.declared.replies.Answer
pub use Rattle.line_tape.specs.declared.steps.Step
pub use Rattle.line_scripts.specs.declared.commands.Command
-- Catalogues, and the vectors of choices.
pub use Rattle.line_catalogue.specs.Agreement
pub use Rattle.line_catalogue.specs.Damage
pub use Rattle.line_catalogue.specs.Rows as CatalogueRows
pub use Rattle.line_catalogue.specs.Views as CatalogueViews
pub use Rattle.line_vectors.specs.Reach
pub use Rattle.line_vectors.specs.Vectors
pub use Rattle.line_vectors.specs.Lanes
-- Claims and whole answers that are judged.
pub use Rattle.line_check.specs.declared.answers.Replay
pub use Rattle.line_check.specs.declared.answers.Start
pub use Rattle.line_check.specs.Answers as WholeAnswers
pub use Rattle.line_check.specs.Faults as AnswerFaults
pub use Rattle.line_check.specs.Followed
pub use Rattle.line_check.specs.Shape
pub use Rattle.line_check.specs.Verdict
-- Worlds.
pub use Rattle.line_moves.specs.Listed
pub use Rattle.line_moves.specs.Modes
pub use Rattle.line_tape.specs.Modes as StepModes
pub use Rattle.line_world.specs.Codes
pub use Rattle.line_world.specs.Machine
pub use Rattle.line_world.specs.Refusals as StepRefusals
pub use Rattle.line_world.specs.Runs
pub use Rattle.line_tape.specs.StepShown as StepShown
pub use Rattle.line_world.specs.Sound
pub use Rattle.line_world.specs.Steps
-- Texts.
pub use Rattle.line_devices.specs.Devices
pub use Rattle.line_devices.specs.Memory
pub use Rattle.line_devices.specs.Reads as DeviceReads
pub use Rattle.line_fields.specs.Bytes
pub use Rattle.line_fields.specs.Faults as RecordFaults
pub use Rattle.line_fields.specs.Fields
pub use Rattle.line_fields.specs.Records
pub use Rattle.line_fields.specs.Rows as RecordRows
pub use Rattle.line_fields.specs.Texts
pub use Rattle.line_claims.specs.Claims
pub use Rattle.line_claims.specs.Faults as TextFaults
pub use Rattle.line_claims.specs.Ranges as ClaimRanges
pub use Rattle.line_claims.specs.Reads as TextReads
pub use Rattle.line_claims.specs.Records as ClaimRecords
pub use Rattle.line_claims.specs.Texts as ClaimTexts
pub use Rattle.line_claims.specs.Versions
pub use Rattle.line_scripts.specs.Ranges as ScriptRanges
pub use Rattle.line_scripts.specs.Reads as ScriptReads
pub use Rattle.line_scripts.specs.Records as ScriptRecords
pub use Rattle.line_scripts.specs.RunScripts
pub use Rattle.line_scripts.specs.Scripts
pub use Rattle.line_text.specs.Replies
pub use Rattle.line_text.specs.Inputs
pub use Rattle.line_text.specs.Judgings
pub use Rattle.line_text.specs.Runs as TextRuns
-- Workers.
pub use Rattle.line_rounds.specs.Recording
pub use Rattle.line_posts.specs.Collected
pub use Rattle.line_posts.specs.Ends
pub use Rattle.line_posts.specs.Extension
pub use Rattle.line_posts.specs.Gathered
pub use Rattle.line_posts.specs.Generations
pub use Rattle.line_posts.specs.Journals
pub use Rattle.line_posts.specs.Markers
pub use Rattle.line_posts.specs.Openings
pub use Rattle.line_posts.specs.Parcels
pub use Rattle.line_posts.specs.Posts
pub use Rattle.line_posts.specs.Receipts
pub use Rattle.line_posts.specs.Refusals as PostRefusals
pub use Rattle.line_posts.specs.Reports
pub use Rattle.line_workers.specs.Faults as DrillFaults
pub use Rattle.line_workers.specs.Scripts as DrillScripts
-- Services.
pub use Rattle.line_text.specs.Answers
pub use Rattle.line_text.specs.Live
pub use Rattle.line_text.specs.Answerers as RecordAnswers
pub use Rattle.line_text.specs.Conversations
pub use Rattle.line_text.specs.Lines as ServiceLines
pub use Rattle.line_text.specs.Rules
pub use Rattle.line_text.specs.Turns
pub use Rattle.line_service.specs.Services
-- Reports that are collected.
pub use Rattle.line_collect.specs.declared.reports.Report
pub use Rattle.line_collect.specs.declared.tellings.Told
pub use Rattle.line_collect.specs.Answers as ReportAnswers
pub use Rattle.line_collect.specs.Collecting
pub use Rattle.line_collect.specs.Collections
pub use Rattle.line_collect.specs.Orders as ReportOrders
pub use Rattle.line_collect.specs.Recoveries
pub use Rattle.line_collect.specs.Refusals as ReportRefusals
pub use Rattle.line_collect.specs.Reports as ReportRecords
