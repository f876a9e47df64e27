-- The lemmas by which a caller shows that a post comes back with its rings, and a collector with
-- its lines, through several calls, `same_then` and `more_then`; and that a history which extends
-- one that extends another extends that one, `extends_then`.
pub use Rattle.line_posts.proofs.ExtensionLemmas
pub use Rattle.line_posts.proofs.ReportLemmas
pub use Rattle.line_posts.proofs.SameLemmas
