use denote.Param.Send.{sendable}
use Rattle.line_posts.proofs.SendLemmas.{post_send}
use Rattle.line_workers.proofs.CrossingLemmas.{fault_send, script_sync}
use Rattle.line_workers.proofs.drills.start.Goals as goal

pub spawn_with-requires-send-T : goal.spawn_with-requires-send-T
spawn_with-requires-send-T g c κs within = search (fault_send, post_send, sendable) depth 20

pub spawn_with-requires-send-F : goal.spawn_with-requires-send-F
spawn_with-requires-send-F g c κs within = search (post_send, script_sync, sendable) depth 20
