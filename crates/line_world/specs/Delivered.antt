-- How a delivery that was done is answered.
use Rattle.line_world.specs.declared.replies.Delivered.{Delivered}
use Rattle.line_world.specs.declared.replies.Delivered.TheVariants.{Took, Marked, Stale, Repeated}
use Rattle.line_world.specs.declared.replies.Reply.{Reply}
use Rattle.line_world.specs.declared.replies.Reply.TheVariants.{Took as told_took}
use Rattle.line_world.specs.declared.replies.Reply.TheVariants.{Marked as told_marked}
use Rattle.line_world.specs.declared.replies.Reply.TheVariants.{Stale as told_stale}
use Rattle.line_world.specs.declared.replies.Reply.TheVariants.{Repeated as told_repeated}

-- the reply that tells what a delivery did, in the same words
abbrev pub delivered_reply : Delivered → Reply
delivered_reply (Took message forced) = told_took message forced
delivered_reply (Marked round forced) = told_marked round forced
delivered_reply (Stale message) = told_stale message
delivered_reply (Repeated message) = told_repeated message
