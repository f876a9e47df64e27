use Rattle.line_posts.proofs.ReportLemmas.{more_extends}
use Rattle.line_posts.proofs.SameLemmas.{generation_kept, lined_forgotten, lined_last}
use Rattle.line_posts.proofs.laws.generations_last.Goals as goal

pub returns : goal.returns
returns c = record {
  lines = lined_last;
  forgotten = lined_forgotten;
  workers = generation_kept;
  extends = more_extends;
}
