use Rattle.line_tape.specs.declared.events.Event.TheVariants.{Recv}
use Rattle.line_posts.proofs.LeftLemmas.{err_at, refused_of}
use Rattle.line_posts.proofs.forgetting.test_receipt.Goals as goal

pub returns-clause-why : goal.returns-clause-why
returns-clause-why c =
    let t = c.test.ensures in
    err_at c.test.result _ (λ why is. refused_of c.args.catalogue.now.processes c.args.p
    (Recv c.args.message) c.test.result why is t.process.0 t.long.0 t.full.0 t.names.0 t.never)
