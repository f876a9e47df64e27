-- By the answer of the catalogue: nothing refuses the event, or the first cause does.
use Rattle.std.proofs.Common.{◌≢◌, length, refl}
use Rattle.line_tape.specs.declared.limits.TheConstants.{MOST_EVENTS}
use Rattle.line_tape.specs.Event.{HasLongState}
use Rattle.line_tape.specs.History.{tape_at}
use Rattle.line_collect.proofs.EventLemmas.{full_event, long_event, misnamed_event, unrefused_event}
use Rattle.line_collect.proofs.collections.add_event.Goals as goal

pub returns-in-Ok-clause-unrefused : goal.returns-in-Ok-clause-unrefused
returns-in-Ok-clause-unrefused c =
    let short : HasLongState c.args.event → ⊥ = λ long. let wrong = c.in-Ok.ensures.long.1
    (c.requires.by, c.requires.named, long) in cc in
    let room : length (tape_at c.args.catalogue.now.processes c.args.by) ≢ MOST_EVENTS = λ full. let
    wrong = c.in-Ok.ensures.full.1 (c.requires.by, c.requires.named, short, full) in cc in
    unrefused_event c.args.catalogue.now.processes c.args.by c.requires.by
    c.history-history.ensures.agrees c.args.event short room (λ none. let wrong =
    c.in-Ok.ensures.names.1 (c.requires.by, c.requires.named, short, room, none) in cc)

-- where memory is out, nothing refuses it either
pub returns-in-Err-OutOfMemory-clause-memory : goal.returns-in-Err-OutOfMemory-clause-memory
returns-in-Err-OutOfMemory-clause-memory c = λ _.
    let short : HasLongState c.args.event → ⊥ = λ long. let wrong =
    c.in-Err-OutOfMemory.ensures.long.1 (c.requires.by, c.requires.named, long) in cc in
    let room : length
    (tape_at c.args.catalogue.now.processes c.args.by) ≢ MOST_EVENTS = λ full. let wrong =
    c.in-Err-OutOfMemory.ensures.full.1 (c.requires.by, c.requires.named, short, full) in cc in
    unrefused_event c.args.catalogue.now.processes c.args.by c.requires.by
    c.history-history.ensures.agrees c.args.event short room
    (λ none. let wrong = c.in-Err-OutOfMemory.ensures.names.1
    (c.requires.by, c.requires.named, short, room, none) in cc)

pub returns-in-Err-StateTooLong-clause-refused : goal.returns-in-Err-StateTooLong-clause-refused
returns-in-Err-StateTooLong-clause-refused c = λ _.
    let why = c.in-Err-StateTooLong.ensures.long.0 (rw c.in-Err-StateTooLong.field-0-is refl) in
    long_event c.args.catalogue.now.processes c.args.by c.requires.by
    c.history-history.ensures.agrees c.args.event why.2

pub returns-in-Err-TapeFull-clause-refused : goal.returns-in-Err-TapeFull-clause-refused
returns-in-Err-TapeFull-clause-refused c = λ _.
    let why = c.in-Err-TapeFull.ensures.full.0 (rw c.in-Err-TapeFull.field-0-is refl) in
    full_event c.args.catalogue.now.processes c.args.by c.requires.by
    c.history-history.ensures.agrees c.args.event why.2 why.3

pub returns-in-Err-NamesDisagree-clause-refused : goal.returns-in-Err-NamesDisagree-clause-refused
returns-in-Err-NamesDisagree-clause-refused c = λ _.
    let why = c.in-Err-NamesDisagree.ensures.names.0 (rw c.in-Err-NamesDisagree.field-0-is refl) in
    misnamed_event c.args.catalogue.now.processes c.args.by c.requires.by
    c.history-history.ensures.agrees c.args.event why.2 why.3 c.requires.present why.4
