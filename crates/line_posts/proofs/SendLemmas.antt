-- A worker may go to another thread.
use denote.Param.Send.{IsSend, sendable}
use Rattle.std.proofs.MapsCrossing.{crosses as map_crosses}
use Rattle.std.proofs.Crossing.{crosses}
use Rattle.rtrb.proofs.end.End.TheSendSync.{the_send as ring_end}
use Rattle.line_posts.specs.contracts.posts.Post.{the_row as post_row}
use Rattle.line_posts.specs.contracts.collectors.Collector.{the_row as collector_row}

pub post_send : IsSend post_row
post_send = search (ring_end, sendable, crosses, map_crosses) depth 120 fits 20000

pub collector_send : IsSend collector_row
collector_send = search (ring_end, sendable, crosses, map_crosses) depth 120 fits 20000
