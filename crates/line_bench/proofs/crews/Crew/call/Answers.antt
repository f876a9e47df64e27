use Rattle.line_posts.proofs.SameLemmas.{generation_kept, lined_kept}
use Rattle.line_bench.proofs.crews.Crew.call.Goals as goal

pub invariant_of-self : goal.invariant_of-self
invariant_of-self c = record {
  generation = generation_kept c.args.self.now.posts.items c.call_one.new.posts.items
      c.call_one.ensures c.args.self.now.generation;
  lines = lined_kept c.args.self.now.collector c.args.self.now.posts.items
      c.call_one.new.posts.items c.call_one.ensures c.args.self.now.lines;
}
