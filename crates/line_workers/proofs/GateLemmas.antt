-- Workers that a gate let on.
use Rattle.std.proofs.Common.{◌+◌, ℕ, List, take, inl, inr, arith, subst}
use Rattle.std.proofs.lemmas.Bool.{cases_lt}
use Rattle.line_posts.specs.Posts.{PostView, IsPost}
use Rattle.line_workers.specs.declared.orders.Order.{Order}
use Rattle.line_workers.specs.Followed.{HasDone, WasLetOn}

module _ (lets : ℕ → ℕ → PostView → Type 0) where
  -- to no order yet
  pub on_none : (script : List Order) (post : PostView) → WasLetOn lets script 0 post
  on_none script post = λ k lt. absurd (omega (arith, lt))

  -- to one order more
  pub on_more : (script : List Order) (k : ℕ) (post now : PostView) → WasLetOn lets script k post
      → HasDone (take k script) post now → IsPost now → lets now.number k now
      → WasLetOn lets script (k + 1) post
  on_more script k post now before done known allowed = λ j lt. elim (cases_lt j k) [
    | inl below ↦ before j below
    | inr past ↦ subst
        (λ i. (n : PostView) × HasDone (take i script) post n × IsPost n × lets post.number i n)
        (omega (arith, lt, past))
        (now, done, known, subst (λ p. lets p k now) done.0.number allowed)
  ]
