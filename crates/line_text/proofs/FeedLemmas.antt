-- The first line feed, as `memchr` finds it.
use Rattle.std.proofs.Common.{◌≡◌, ℕ, List, arith}
use Rattle.std.specs.Prelude.{IfNone, IfSome, None, Option, Some, true}
use Rattle.std.proofs.lemmas.Bool.{eqb-true}
use Rattle.memchr.specs.Find.{IsFirstByte, is_byte}
use Rattle.line_text.specs.Lines.{IsFirstFeed, has_no_feed}
use Rattle.line_text.proofs.LineLemmas.{first_feed_at, no_feed_in}

pub feed_found : (bytes : List ℕ) (at : Option ℕ) → IsFirstByte (is_byte 10) bytes at
    → IfSome at (λ k. IsFirstFeed bytes k)
feed_found bytes None h = tt
feed_found bytes (Some k) h =
    first_feed_at bytes k h.0.high (λ j lt e. h.0.before j (omega arith) lt e) (eqb-true _ 10 h.1)

pub no_feed_found : (bytes : List ℕ) (at : Option ℕ) → IsFirstByte (is_byte 10) bytes at
    → IfNone at (has_no_feed bytes ≡ true)
no_feed_found bytes None h = no_feed_in bytes (λ k lt e. h k (omega arith) lt e)
no_feed_found bytes (Some k) h = tt
