-- What the refusals of a tape are called where a history answers them.
use Rattle.line_tape.specs.declared.tapes.TapeError.{TapeError}
use Rattle.line_tape.specs.declared.tapes.TapeError.TheVariants.{OutOfMemory as tape_memory}
use Rattle.line_tape.specs.declared.tapes.TapeError.TheVariants.{StateTooLong as tape_long}
use Rattle.line_tape.specs.declared.tapes.TapeError.TheVariants.{TapeFull as tape_full}
use Rattle.line_tape.specs.declared.histories.HistoryError.{HistoryError}
use Rattle.line_tape.specs.declared.histories.HistoryError.TheVariants.{OutOfMemory, StateTooLong}
use Rattle.line_tape.specs.declared.histories.HistoryError.TheVariants.{TapeFull}

-- the same word
abbrev pub tape_error : TapeError → HistoryError
tape_error tape_memory = OutOfMemory
tape_error tape_long = StateTooLong
tape_error tape_full = TapeFull
