-- Commands with all their bytes: one more behind the others.
use Rattle.std.proofs.Common.{◌≡◌, ℕ, List, [], ◌∷◌, ◌++◌, drop, length, take, refl, sym, ap, ◌∙◌}
use Rattle.std.proofs.Common.{subst, arith, length-append}
use Rattle.std.proofs.lemmas.List.{take-append-drop, take-append-le, drop-append-le}
use Rattle.std.proofs.Math.Seq.{take-length, drop-length}
use Rattle.line_scripts.specs.declared.commands.Command.{Command}
use Rattle.line_scripts.specs.declared.keeping.Kept.{Kept}
use Rattle.line_scripts.specs.Keeping.{ArePacked, HasShortMessage, behind, long_of}
use Rattle.line_scripts.specs.Keeping.{commands_of_kept, with_bytes}

-- one more behind the others
pub packed_more : (ks : List Kept) (bytes : List ℕ) (k : Kept) (own : List ℕ) → long_of k
    ≡ length own → HasShortMessage k → ArePacked ks bytes → ArePacked (ks ++ k ∷ []) (bytes ++ own)
packed_more [] bytes k own is short none =
    subst (λ (bs : List ℕ). ArePacked (k ∷ []) (bs ++ own)) (sym none)
    (short, omega (arith, is), ap (λ (n : ℕ). drop n own) is ∙ drop-length own)
packed_more (first ∷ ks) bytes k own is short (fits, within, others) = (
  fits,
  omega (arith, within, length-append bytes own),
  subst (λ (bs : List ℕ). ArePacked (ks ++ k ∷ []) bs) (sym (drop-append-le (long_of first) bytes
      own within)) (packed_more ks (drop (long_of first) bytes) k own is short others),
)

pub unpacked_more : (ks : List Kept) (bytes : List ℕ) (k : Kept) (own : List ℕ)
    → long_of k ≡ length own → ArePacked ks bytes → commands_of_kept (ks ++ k ∷ []) (bytes ++ own)
    ≡ commands_of_kept ks bytes ++ with_bytes k own ∷ []
unpacked_more [] bytes k own is none =
    subst (λ (bs : List ℕ). commands_of_kept (k ∷ []) (bs ++ own) ≡ with_bytes k own ∷ [])
    (sym none)
    (ap (λ (n : ℕ). with_bytes k (take n own) ∷ []) is ∙ ap (λ (bs : List ℕ). with_bytes k bs ∷ [])
    (take-length own))
unpacked_more (first ∷ ks) bytes k own is (fits, within, others) =
    let front : take (long_of first) (bytes ++ own)
    ≡ take (long_of first) bytes = take-append-le (long_of first) bytes own within in
    let rest : drop (long_of first) (bytes ++ own)
    ≡ drop (long_of first) bytes ++ own = drop-append-le (long_of first) bytes own within in
    ap (λ (bs : List ℕ). with_bytes first bs
    ∷ commands_of_kept (ks ++ k ∷ []) (drop (long_of first) (bytes ++ own))) front
    ∙ ap (λ (bs : List ℕ). with_bytes first (take (long_of first) bytes)
    ∷ commands_of_kept (ks ++ k ∷ []) bs) rest
    ∙ ap (λ (cs : List Command). with_bytes first (take (long_of first) bytes) ∷ cs)
    (unpacked_more ks (drop (long_of first) bytes) k own is others)

-- a list that keeps what it had has that and what is behind it
pub with_behind : (old new : List ℕ) → take (length old) new ≡ old → new ≡ old ++ behind old new
with_behind old new kept =
    sym (take-append-drop (length old) new) ∙ ap (λ (front : List ℕ). front ++ behind old new) kept

-- one more, whose bytes were put behind the others
pub packed_behind : (ks later : List Kept) (old new : List ℕ) (k : Kept) → later ≡ ks ++ k ∷ []
    → long_of k ≡ length (behind old new) → take (length old) new ≡ old → HasShortMessage k
    → ArePacked ks old → ArePacked later new
packed_behind ks later old new k more is kept short packed =
    rw more
    (subst (λ (bs : List ℕ). ArePacked (ks ++ k ∷ []) bs) (sym (with_behind old new kept))
    (packed_more ks old k (behind old new) is short packed))

pub unpacked_behind : (ks later : List Kept) (old new : List ℕ) (k : Kept) → later ≡ ks ++ k ∷ []
    → long_of k ≡ length (behind old new) → take (length old) new ≡ old → ArePacked ks old
    → commands_of_kept later new ≡ commands_of_kept ks old ++ with_bytes k (behind old new) ∷ []
unpacked_behind ks later old new k more is kept packed =
    rw more
    (subst (λ (bs : List ℕ). commands_of_kept (ks ++ k ∷ []) bs ≡ commands_of_kept ks old
    ++ with_bytes k (behind old new) ∷ []) (sym (with_behind old new kept))
    (unpacked_more ks old k (behind old new) is packed))

-- there are as many commands as are kept
pub length-unpacked : (ks : List Kept) (bytes : List ℕ)
    → length (commands_of_kept ks bytes) ≡ length ks
length-unpacked [] bytes = refl
length-unpacked (k ∷ ks) bytes =
    let others = length-unpacked ks (drop (long_of k) bytes) in omega (arith, others)
