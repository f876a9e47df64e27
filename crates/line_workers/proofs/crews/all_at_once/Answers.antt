use denote.Param.Send.{sendable}
use Rattle.line_posts.proofs.SendLemmas.{collector_send}
use Rattle.line_workers.proofs.crews.all_at_once.Goals as goal

pub spawn_with-requires-send-T : goal.spawn_with-requires-send-T
spawn_with-requires-send-T g c κs within = search (collector_send, sendable) depth 20

pub spawn_with-requires-send-F : goal.spawn_with-requires-send-F
spawn_with-requires-send-F g c κs within = search (collector_send, sendable) depth 20
