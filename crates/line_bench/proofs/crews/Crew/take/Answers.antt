use Rattle.std.proofs.Common.{◌∙◌, sym}
use Rattle.line_bench.proofs.crews.Crew.take.Goals as goal

pub invariant_of-self : goal.invariant_of-self
invariant_of-self c =
    let more = c.take.ensures.more in record {
      generation = c.args.self.now.generation;
      lines = λ i post at. (let l = c.args.self.now.lines i post at in
          (l.0 ∙ sym more.opening, l.1 ∙ sym (more.rings post.number)));
    }
